use Rattle.nodesets.proofs.NodeSetLaws.{Agree}
use Rattle.nodesets.proofs.copy.Given as goal

abbrev pub invariant-loop-i : goal.invariant-loop-i
invariant-loop-i l = Agree l.out l.set l.i
