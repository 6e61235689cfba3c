use Rattle.cutting.proofs.MoveLaws.{Carried}
use Rattle.cutting.proofs.cut_group.Given as goal

abbrev pub invariant-loop-x : goal.invariant-loop-x
invariant-loop-x l = Carried l.fn.classes l.classes l.groups l.many l.count l.g l.c l.x l.at

abbrev pub decreases-loop-x : goal.decreases-loop-x
decreases-loop-x l = l.x
