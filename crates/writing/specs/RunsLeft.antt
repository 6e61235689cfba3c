-- The runs that are left, and each as the rules have it.
use Rattle.std.specs.Prelude.{List, drop}
use Rattle.rules.specs.Listing as rule
use Rattle.writing.specs.Runs.{run_of, runs_from}
use Rattle.writing.specs.declared.runs.Run.{Run}
use Rattle.writing.specs.declared.runs.Runs.{Runs}

abbrev pub run_view : Run → rule.Run
run_view r = run_of r.lo r.hi r.to.0

abbrev pub runs_left : Runs → List rule.Run
runs_left s = runs_from s.from (drop s.from s.cells.now)
