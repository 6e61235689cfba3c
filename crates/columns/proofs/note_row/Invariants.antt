use Rattle.columns.specs.Columns.{RowNoted}
use Rattle.columns.proofs.note_row.Given as goal

abbrev pub invariant-loop-b : goal.invariant-loop-b
invariant-loop-b l = RowNoted l.cells l.q l.initial.begins l.begins l.b
