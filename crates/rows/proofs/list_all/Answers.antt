use mathlib.Core.Path.{◌≡◌, refl, ◌∙◌}
use Prim.Native.Nat.{◌+◌, ◌/◌}
use native.Mathlib.Omega.{arith}
use lib.ListN.{length, take}
use lib.Seq.{length-take-le}
use Rattle.rows.proofs.RowByRow.{book-start, listed_start, listed-end}
use Rattle.rows.proofs.Listable.{rows_fit}
use Rattle.rows.proofs.list_all.Goals as goal

pub loop-q-init : goal.loop-q-init
loop-q-init c =
    let A = c.args in
    let f = rows_fit A.cells.now A.marks.now A.sets.now c.requires.1.1 in
    record {
      set_long = refl;
      pending_long = refl;
      cells_long = refl;
      marks_long = refl;
      sets_long = refl;
      room = refl;
      listed = listed_start (book-start ((length A.nodes.now + 63) / 64) A.sets.now c.requires.1.0 f.0 f.2);
    }

pub list_row-requires-clause-listed : goal.list_row-requires-clause-listed
list_row-requires-clause-listed c =
    let A = c.args in
    let I = c.loop-q.invariant in
    let w = (length A.nodes.now + 63) / 64 in
    let e : length (take w c.loop-q.set) ≡ w = length-take-le w c.loop-q.set (omega (arith, I.set_long, c.requires.0.short)) in
    let f = (rows_fit A.cells.now A.marks.now A.sets.now c.requires.1.1).1 in
    (rw e I.listed, (c.loop-q-test.true, record { cells-long = omega (arith, f.cells-long, I.cells_long, I.room); marks-long = omega (arith, f.marks-long, I.marks_long, I.room) }))

pub returns : goal.returns
returns c =
    listed-end c.loop-q.invariant.listed (omega arith) (c.loop-q.invariant.room ∙ c.requires.1.1)
