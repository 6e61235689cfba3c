use native.Mathlib.Nat.{add-zero}
use Rattle.nodes.proofs.BuiltLaws.{joined-built}
use Rattle.nodes.proofs.fragment.combine.Goals as goal

-- `combine`: X's end is linked to Y's start.
pub returns-in-InRow : goal.returns-in-InRow
returns-in-InRow c =
    rw c.in-InRow.is (λ p X Y old m fx fy. joined-built p X Y _ _ _ old m _ _ (rw add-zero at fx) fy (rw c.empties.ensures at c.put.ensures))
