use Rattle.table.specs.Lent.{lent_table}
use Rattle.passing.proofs.RunLaws.{Closing}
use Rattle.passing.proofs.RowList.close_at_end.Given as goal

abbrev pub invariant-loop-entry : goal.invariant-loop-entry
invariant-loop-entry l = Closing (lent_table l.search.table) l.search.text.now l.self l.entry-index
