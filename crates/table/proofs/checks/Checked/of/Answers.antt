use mathlib.Core.Path.{sym, ◌∙◌}
use Rattle.rules.proofs.TableLaws.{checked-13, checked-12}
use Rattle.table.proofs.checks.Checked.of.Goals as goal

pub returns-then-not-is_well_formed : goal.returns-then-not-is_well_formed
returns-then-not-is_well_formed c = checked-13 _ _ _ (sym c.is_well_formed.ensures ∙ c.if-not-is_well_formed.true)

pub returns-then-text-gt-TEXT_MOST : goal.returns-then-text-gt-TEXT_MOST
returns-then-text-gt-TEXT_MOST c =
    checked-12 _ _ _ (sym c.is_well_formed.ensures ∙ c.if-not-is_well_formed.false) c.if-text-gt-TEXT_MOST.true
