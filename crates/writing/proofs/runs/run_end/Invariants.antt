use Rattle.writing.proofs.RunLaws.{Lasts}
use Rattle.writing.proofs.runs.run_end.Given as goal

abbrev pub invariant-loop-hi : goal.invariant-loop-hi
invariant-loop-hi l = Lasts l.cells l.lo l.hi
