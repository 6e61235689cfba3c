use mathlib.Core.Path.{refl}
use native.Mathlib.Omega.{arith}
use lib.ListN.{length}
use Rattle.table.specs.Stays.{no_byte_leaves}
use Rattle.table.proofs.StaysLaws.{stays}
use Rattle.table.proofs.CheckLaws.{well}
use Rattle.ends.proofs.ReadingLaws.{left-stays, row-cells, leads-over, leads_stays}
use Rattle.ends.proofs.last_row.Goals as goal

pub loop-p-init : goal.loop-p-init
loop-p-init c = let g = well c.args.checked.now.passed in
    (omega arith, record { row = omega arith; same = refl })

pub stays_on-requires : goal.stays_on-requires
stays_on-requires c = row-cells (well c.args.checked.now.passed) c.read_on-q.ensures.row

pub returns-then-stays_on : goal.returns-then-stays_on
returns-then-stays_on c =
    let C = c.args.checked.now in
    let q = c.read_on-q.result.0 in
    let left = left-stays c.stretch_end-to.result (length C.text.now) (no_byte_leaves C.table.cells.now q) c.stays_on.ensures c.if-stays_on.true in
    leads_stays (leads-over c.loop-p.invariant.1 c.read_on-q.ensures)
    (stays C.table.cells.now q (row-cells (well C.passed) c.read_on-q.ensures.row) left.1) C.passed.bytes
