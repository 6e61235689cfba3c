use Rattle.sets.proofs.SetLaws.{Joined}
use Rattle.sets.proofs.put_all.Given as goal

abbrev pub invariant-loop-i : goal.invariant-loop-i
invariant-loop-i l = Joined l.initial.set l.words l.start l.i l.set
