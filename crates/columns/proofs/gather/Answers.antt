use native.Mathlib.Omega.{arith}
use Rattle.columns.proofs.ColumnLaws.{gathering-hit, gathering-miss, gathering-all}
use Rattle.columns.proofs.gather.Goals as goal
use Rattle.columns.proofs.gather.Goals.{then-begins-b-ne0, else-begins-b-ne0}

pub loop-b-preserved : goal.loop-b-preserved
loop-b-preserved c = elim c.if-begins-b-ne0.branch [
  | then-begins-b-ne0 w ↦ rw (w.bytes-is, w.many-is) (gathering-hit c.loop-b.invariant (omega arith))
  | else-begins-b-ne0 w ↦ rw (w.bytes-is, w.many-is) (gathering-miss c.loop-b.invariant (omega arith) (omega arith))
]

pub returns : goal.returns
returns c = gathering-all c.loop-b.invariant (omega arith)
