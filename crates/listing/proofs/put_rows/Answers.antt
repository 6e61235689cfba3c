use Rattle.rules.specs.Listing.{row_line}
use Rattle.table.specs.Lent.{lent_table}
use Rattle.writing.specs.Writing.{Puts}
use Rattle.writing.proofs.Writings.{join}
use Rattle.writing.proofs.RowLaws.{rows_more}
use Rattle.listing.proofs.LineLaws.{part-line}
use Rattle.listing.proofs.put_rows.Goals as goal

pub loop-q-preserved : goal.loop-q-preserved
loop-q-preserved c =
    let w = lent_table c.args.table.now in
    let q = c.loop-q.q in
    let line : Puts c.loop-q.page (row_line w q) c.put_row.new.page = rw (part-line w q) c.put_row.ensures in
    rw (rows_more (row_line w) q) (join c.loop-q.invariant line)
