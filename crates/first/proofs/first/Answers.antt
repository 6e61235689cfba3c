use mathlib.Core.Path.{ap, ◌∙◌}
use mathlib.Core.List.{List}
use Prim.Native.Nat.{ℕ}
use Rattle.rules.specs.Table.{Table, first}
use Rattle.rules.specs.Answers.{given}
use Rattle.rules.specs.Matchers.{first_answer}
use Rattle.table.proofs.CheckLaws.{answered}
use Rattle.first.proofs.AnswerLaws.{first_given}
use Rattle.first.proofs.first.Goals as goal

pub returns : goal.returns
unfolding first_answer
returns c = first_given c.find.result ∙ ap given c.find.ensures ∙ answered c.in_ok-of.field-0 c.in_ok-of.ensures (λ (w : Table) (t : List ℕ). given (first w t))
