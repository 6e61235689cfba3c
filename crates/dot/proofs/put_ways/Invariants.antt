use mathlib.Core.List.{map}
use Prim.Native.Nat.{◌+◌, ◌*◌, ◌<◌}
use lib.Seq.{slice}
use Rattle.std.specs.Prelude.{All}
use Rattle.rules.specs.Tools.{flat}
use Rattle.rules.specs.Listing.{runs}
use Rattle.table.specs.Lent.{lent_table}
use Rattle.writing.specs.RunsLeft.{runs_left}
use Rattle.writing.proofs.Writings.{Left}
use Rattle.dot.specs.Dot.{arrow_unless_trap}
use Rattle.dot.proofs.put_ways.Given as goal

-- the runs that are left lead to rows of the table
abbrev pub invariant-loop-run : goal.invariant-loop-run
invariant-loop-run l =
    let f = arrow_unless_trap (lent_table l.table) l.q.0 in
    Left l.initial.page (flat (map f (runs (slice (256 * l.q.0) (256 * l.q.0 + 256) l.table.cells.now)))) l.page (flat (map f (runs_left l.run-iterator)))
    × All (λ r. r.to < l.table.rows) (runs_left l.run-iterator)
