use Rattle.readings.specs.Lines.{Begun}
use Rattle.readings.proofs.add_all.Given as goal

abbrev pub invariant-loop-byte : goal.invariant-loop-byte
invariant-loop-byte g l = Begun l.line l.n
