use mathlib.Core.Path.{refl}
use Rattle.marks.proofs.MarkLaws.{marked-none}
use Rattle.marks.proofs.sort.Goals as goal

pub loop-r-init : goal.loop-r-init
loop-r-init c = ((refl, refl, refl), c.requires.1, marked-none _ _ _ _ _)
