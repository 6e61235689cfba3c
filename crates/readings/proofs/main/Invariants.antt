use Rattle.readings.specs.Lines.{Begun}
use Rattle.readings.proofs.main.Given as goal

abbrev pub invariant-loop : goal.invariant-loop
invariant-loop l = Begun l.line l.n
