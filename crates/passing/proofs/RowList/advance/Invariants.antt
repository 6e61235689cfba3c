use Rattle.table.specs.Lent.{lent_table}
use Rattle.passing.specs.Run.{cut}
use Rattle.passing.proofs.RunLaws.{Running}
use Rattle.passing.proofs.RowList.advance.Given as goal

abbrev pub invariant-loop-i : goal.invariant-loop-i
invariant-loop-i l = Running (lent_table l.search.table) l.search.text.now l.fn.self l.p (cut l.self l.kept) l.i
