use Rattle.table.specs.Lent.{lent_table}
use Rattle.writing.proofs.Writings.{join}
use Rattle.writing.proofs.RowLaws.{rows_more}
use Rattle.dot.specs.Dot.{row_dot}
use Rattle.dot.proofs.put_rows.Goals as goal

pub loop-q-preserved : goal.loop-q-preserved
loop-q-preserved c = rw (rows_more (row_dot (lent_table c.args.table.now)) c.loop-q.q) (join c.loop-q.invariant c.put_row.ensures)
