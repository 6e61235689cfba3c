use native.Mathlib.Omega.{arith}
use lib.ListN.{length}
use Rattle.table.specs.Stays.{no_byte_leaves}
use Rattle.table.proofs.StaysLaws.{stays}
use Rattle.table.proofs.CheckLaws.{well}
use Rattle.ends.proofs.ReadingLaws.{left-stays, row-cells, finds-over, finds-last}
use Rattle.ends.proofs.Reading.find_most.Goals as goal

pub stays_on-requires : goal.stays_on-requires
stays_on-requires c = row-cells (well c.args.checked.now.passed) c.find_ends-read.ensures.0.row

pub returns-then-stays_on : goal.returns-then-stays_on
returns-then-stays_on c =
    let C = c.args.checked.now in
    let q = c.find_ends-read.result.row.0 in
    let left = left-stays c.stretch_end-to.result (length C.text.now) (no_byte_leaves C.table.cells.now q) c.stays_on.ensures c.if-stays_on.true in
    finds-last (finds-over c.loop-read.invariant c.find_ends-read.ensures.0) (omega arith)
    (stays C.table.cells.now q (row-cells (well C.passed) c.find_ends-read.ensures.0.row) left.1) C.passed.bytes
