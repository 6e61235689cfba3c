use Rattle.nodesets.specs.NodeSets.{meets}
use Rattle.nodesets.proofs.NodeSetLaws.{Agree}
use Rattle.nodesets.proofs.meet.Given as goal

abbrev pub invariant-loop-i : goal.invariant-loop-i
invariant-loop-i l = Agree l.out (meets l.a l.b) l.i
