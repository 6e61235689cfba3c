use Rattle.columns.proofs.ColumnLaws.{Gathering}
use Rattle.columns.proofs.gather.Given as goal

abbrev pub invariant-loop-b : goal.invariant-loop-b
invariant-loop-b l = Gathering l.begins l.bytes l.many l.b
