use lib.ListN.{set}
use Rattle.runs.proofs.Parting.{RunsTo}
use Rattle.runs.proofs.list_runs.Given as goal

abbrev pub invariant-loop-b : goal.invariant-loop-b
invariant-loop-b l = RunsTo l.parted (set l.starts l.k l.b) l.k l.b
