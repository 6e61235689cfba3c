use Rattle.columns.specs.Columns.{Begins}
use Rattle.columns.proofs.note_rows.Given as goal

abbrev pub invariant-loop-q : goal.invariant-loop-q
invariant-loop-q l = Begins l.cells l.begins l.q
