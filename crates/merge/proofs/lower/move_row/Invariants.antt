use Rattle.merge.specs.Numbers.{Moved}
use Rattle.merge.proofs.lower.move_row.Given as goal

abbrev pub invariant-loop-b : goal.invariant-loop-b
invariant-loop-b l = Moved l.initial.cells l.number l.cells l.i l.q l.b
