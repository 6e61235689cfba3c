use Rattle.nodesets.proofs.NodeSetLaws.{Again}
use Rattle.nodesets.proofs.meet_again.Given as goal

abbrev pub invariant-loop-i : goal.invariant-loop-i
invariant-loop-i l = Again l.initial.out l.a l.b l.apart l.out l.i
