use mathlib.Core.Path.{ap, ◌∙◌}
use mathlib.Core.List.{List}
use Prim.Native.Nat.{ℕ}
use Rattle.rules.specs.Table.{Table, whole}
use Rattle.rules.specs.Answers.{given}
use Rattle.rules.specs.Matchers.{whole_answer}
use Rattle.table.proofs.CheckLaws.{answered}
use Rattle.ends.proofs.whole.Goals as goal

pub returns : goal.returns
unfolding whole_answer
returns c = ap given c.takes_whole.ensures ∙ answered c.in_ok-of.field-0 c.in_ok-of.ensures (λ (w : Table) (t : List ℕ). given (whole w t))
