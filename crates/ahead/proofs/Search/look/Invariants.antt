use Rattle.table.specs.Lent.{lent_table}
use Rattle.ahead.proofs.AheadLaws.{On}
use Rattle.ahead.proofs.Search.look.Given as goal

abbrev pub invariant-loop-p : goal.invariant-loop-p
invariant-loop-p l = On (lent_table l.self.table) l.self.text.now l.fn.q.0 l.from l.to l.row.0 l.p
