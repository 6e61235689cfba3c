use mathlib.Core.List.{map}
use Rattle.rules.specs.Tools.{flat}
use Rattle.rules.specs.Listing.{run_text, runs}
use Rattle.writing.specs.RunsLeft.{runs_left}
use Rattle.writing.proofs.Writings.{Left}
use Rattle.listing.proofs.put_runs.Given as goal

abbrev pub invariant-loop-run : goal.invariant-loop-run
invariant-loop-run l = Left l.initial.page (flat (map run_text (runs l.cells))) l.page (flat (map run_text (runs_left l.run-iterator)))
