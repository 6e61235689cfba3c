use Rattle.merge.proofs.NumberLaws.{Down}
use Rattle.merge.proofs.lower.move_down.Given as goal

abbrev pub invariant-loop-q : goal.invariant-loop-q
invariant-loop-q l = Down l.initial.cells l.initial.marks l.class l.number l.cells l.marks l.k l.q
