use mathlib.Core.Path.{◌≡◌}
use Prim.Native.Nat.{◌+◌, ◌-◌, ◌/◌}
use lib.ListN.{length}
use Rattle.rules.specs.Sizes.{words_a_row}
use Rattle.rows.specs.Listing.{ListedBy}
use Rattle.rows.proofs.list_all.Given as goal

abbrev pub invariant-loop-q : goal.invariant-loop-q
invariant-loop-q l = record {
  set_long : length l.set ≡ words_a_row;
  pending_long : length l.pending ≡ words_a_row;
  cells_long : length l.cells ≡ length l.initial.cells;
  marks_long : length l.marks ≡ length l.initial.marks;
  sets_long : length l.sets ≡ length l.initial.sets;
  room : l.known.room ≡ l.room;
  listed : ListedBy l.nodes l.runs ((length l.nodes + 63) / 64) l.cells l.marks l.sets l.known l.q;
}

abbrev pub decreases-loop-q : goal.decreases-loop-q
decreases-loop-q l = l.room - l.q
