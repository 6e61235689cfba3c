use native.Mathlib.Omega.{arith}
use Rattle.merge.proofs.NumberLaws.{down-none, count-le, down-skip, down-move}
use Rattle.merge.proofs.lower.move_down.Goals.{then-class-q, else-class-q}
use Rattle.merge.proofs.lower.move_down.Goals as goal

pub loop-q-init : goal.loop-q-init
loop-q-init c = down-none c.args.cells.now c.args.marks.now c.args.class.now c.args.number.now

pub move_row-requires-clause-row : goal.move_row-requires-clause-row
move_row-requires-clause-row c =
    let D = c.loop-q.invariant in
    (omega (arith, D.cells-long, c.requires.0.long), count-le D (omega arith), omega (arith, c.requires.0.few))

pub bounds-marks-k : goal.bounds-marks-k
bounds-marks-k c = omega (arith, c.loop-q.invariant.marks-long, c.requires.1, count-le c.loop-q.invariant (omega arith))

pub overflow_add-k : goal.overflow_add-k
overflow_add-k c = omega (arith, count-le c.loop-q.invariant (omega arith), c.requires.0.few)

pub loop-q-preserved : goal.loop-q-preserved
loop-q-preserved c =
    let D = c.loop-q.invariant in
    elim c.if-class-q.branch [
      | then-class-q w ↦ rw (w.cells-is, w.marks-is, w.k-is) (down-move D (omega arith) w.if-class-q.true (omega (arith, D.marks-long, c.requires.1)) w.move_row.ensures)
      | else-class-q w ↦ rw (w.cells-is, w.marks-is, w.k-is) (down-skip D (omega arith) w.if-class-q.false)
    ]
