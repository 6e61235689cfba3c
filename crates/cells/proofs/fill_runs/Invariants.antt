use mathlib.Core.Path.{◌≡◌}
use lib.ListN.{length, get_or}
use Rattle.cells.specs.Cells.{FilledTo, TakenBefore}
use Rattle.cells.proofs.fill_runs.Given as goal

abbrev pub invariant-loop-k : goal.invariant-loop-k
invariant-loop-k l = record {
  row_long : length l.row ≡ 256;
  room : l.known.room ≡ l.initial.known.room;
  filled : FilledTo l.initial.known.room l.set l.runs.starts.now l.runs.masks.now l.runs.count
      l.initial.sets l.initial.known.rows l.sets l.known.heads l.known.nexts l.row l.known.rows (get_or l.runs.starts.now l.k 0);
  before : TakenBefore l.used.from l.used.to (length l.set) l.sets l.known.rows l.taken l.before;
}
