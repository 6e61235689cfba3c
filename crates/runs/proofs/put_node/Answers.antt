use mathlib.Core.Path.{sym, ◌∙◌}
use native.Mathlib.Omega.{arith}
use Rattle.rules.specs.Sizes.{words_a_row}
use Rattle.nodesets.proofs.NodeSetLaws.{part-long}
use Rattle.runs.proofs.Masks.{putting-in, putting-out}
use Rattle.runs.proofs.put_node.Goals as goal
use Rattle.runs.proofs.put_node.Goals.{then-has, else-has}

pub loop-k-preserved : goal.loop-k-preserved
loop-k-preserved c =
    let I = c.loop-k.invariant in
    let long = part-long c.loop-k.masks c.loop-k.k words_a_row (omega (arith, I.put.long)) in
    elim c.if-has.branch [
      | then-has w ↦ rw w.masks-is (putting-in I (omega arith) _ (sym c.has.ensures ∙ w.if-has.true) (omega (arith, I.put.long)) (w.put_in.ensures.0 ∙ long) w.put_in.ensures.1)
      | else-has w ↦ rw w.masks-is (putting-out I (omega arith) (sym c.has.ensures ∙ w.if-has.false))
    ]
