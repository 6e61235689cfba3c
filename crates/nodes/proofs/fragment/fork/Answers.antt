use Rattle.nodes.proofs.BuiltLaws.{forked-built}
use Rattle.nodes.proofs.fragment.fork.Goals as goal

-- `fork`: S, X's end and Y's end are written.
pub returns : goal.returns
returns c p X Y old m fx fy =
    forked-built p X Y _ _ _ _ old m _ _ _ _ fx fy c.in_ok-e.ensures.0 c.in_ok-e.ensures.1
    (rw c.empties.ensures at c.put.ensures)
    (rw c.empties-2.ensures at c.put-2.ensures)
    (rw c.empties-3.ensures at c.put-3.ensures)
