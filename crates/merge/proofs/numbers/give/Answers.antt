use native.Mathlib.Omega.{arith}
use Rattle.merge.proofs.NumberLaws.{counting-none, few-kept, counting_kept, counting-led}
use Rattle.merge.proofs.numbers.give.Goals.{then-l-q, else-l-q}
use Rattle.merge.proofs.numbers.give.Goals as goal

pub loop-q-init : goal.loop-q-init
loop-q-init c = counting-none c.args.class.now c.args.number.now c.requires.2

pub overflow_add-k : goal.overflow_add-k
overflow_add-k c = omega (arith, few-kept c.loop-q.invariant (omega arith), c.requires.1)

pub loop-q-preserved : goal.loop-q-preserved
loop-q-preserved c =
    let C = c.loop-q.invariant in
    elim c.if-l-q.branch [
      | then-l-q w ↦ rw (w.number-is, w.k-is) (counting_kept C (omega arith) w.if-l-q.true)
      | else-l-q w ↦ rw (w.number-is, w.k-is) (counting-led C (omega arith) c.requires.0 w.if-l-q.false)
    ]
