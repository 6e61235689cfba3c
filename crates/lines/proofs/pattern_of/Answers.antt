use borrow.Author.Rules.{rules}
use mathlib.Core.Path.{refl, sym, ◌∙◌}
use Rattle.lines.proofs.Inputs.{line-end-dropped, no-line-end}
use Rattle.lines.proofs.pattern_of.Goals as goal

-- in each case the part begins where the input does
pub returns-then-ends_with : goal.returns-then-ends_with
returns-then-ends_with c = record { block = refl; place = search rules; bytes = line-end-dropped c.args.input.now (search rules) (sym c.ends_with.ensures.value ∙ c.if-ends_with.true) }

pub returns-else-ends_with : goal.returns-else-ends_with
returns-else-ends_with c = record { block = refl; place = refl; bytes = no-line-end c.args.input.now (sym c.ends_with.ensures.value ∙ c.if-ends_with.false) }
