use lib.Dec.{eqb}
use borrow.Author.Rules.{rules}
use Rattle.table.proofs.CellLaws.{bits-on, no-bit}
use Rattle.table.proofs.all_to.Goals as goal

pub loop-cell-preserved : goal.loop-cell-preserved
loop-cell-preserved c =
    let A = c.args in
    bits-on (λ x. eqb x A.q.0) A.cells.now c.loop-cell.cell-index c.loop-cell.differing _ (search rules) (no-bit _ A.q.0) c.loop-cell.invariant
