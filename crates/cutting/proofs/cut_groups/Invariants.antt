use Rattle.cutting.proofs.CutLaws.{CutBefore}
use Rattle.cutting.proofs.cut_groups.Given as goal

abbrev pub invariant-loop-g : goal.invariant-loop-g
invariant-loop-g l = CutBefore l.fn.classes l.classes l.groups l.many l.count l.g l.total
