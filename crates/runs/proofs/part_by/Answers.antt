use native.Mathlib.Omega.{arith}
use Rattle.runs.proofs.Parting.{parted-by}
use Rattle.runs.proofs.part_by.Goals as goal

pub returns : goal.returns
returns c =
    let set = c.args.set in
    parted-by c.args.parted.now set.0 set.1 set.2 set.3 _ _ _ _ c.requires (omega arith) (omega arith) (omega arith)
    c.changes.ensures
    c.changes-2.ensures
    c.changes-3.ensures
    c.changes-4.ensures
