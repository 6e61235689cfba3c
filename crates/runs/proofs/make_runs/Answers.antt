use Rattle.entries.proofs.EntryLaws.{length-kinds}
use Rattle.runs.proofs.Masks.{parted-into}
use Rattle.runs.proofs.make_runs.Goals as goal

pub returns : goal.returns
returns c =
    let parted = rw (← length-kinds c.args.nodes.now) at c.part_bytes.ensures.1 in
    parted-into _ c.list_runs.ensures.0 c.list_runs.ensures.1 parted
