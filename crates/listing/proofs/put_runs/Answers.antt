use mathlib.Core.Path.{ap}
use mathlib.Core.List.{List, map}
use Rattle.rules.specs.Tools.{flat}
use Rattle.rules.specs.Listing.{Run, run_text}
use Rattle.writing.proofs.Writings.{left_less, left-none}
use Rattle.listing.proofs.put_runs.Goals as goal

pub loop-run-preserved : goal.loop-run-preserved
loop-run-preserved c = left_less c.loop-run.invariant (ap (λ (rs : List Run). flat (map run_text rs)) c.in-Some.ensures.steps) c.put_run.ensures

pub returns : goal.returns
returns c = left-none c.loop-run.invariant (ap (λ (rs : List Run). flat (map run_text rs)) c.in-None.ensures.steps.0)
