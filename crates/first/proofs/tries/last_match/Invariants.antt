use Rattle.table.specs.Lent.{lent_table}
use Rattle.first.proofs.TriesLaws.{Ending}
use Rattle.first.proofs.tries.last_match.Given as goal

abbrev pub invariant-loop-p : goal.invariant-loop-p
invariant-loop-p l = Ending (lent_table l.search.table) l.search.text.now l.fn.s l.row.0 l.best l.p
