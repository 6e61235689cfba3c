-- What the lent room and the nodes of a tree give to the listing.
use mathlib.Core.Path.{◌≡◌}
use mathlib.Core.List.{List}
use Prim.Native.Nat.{ℕ, ◌+◌, ◌*◌, ◌/◌, ◌≤◌, min}
use native.Mathlib.Omega.{arith}
use lib.ListN.{length}
use Rattle.rules.specs.Sizes.{rows_most, words_a_row}
use Rattle.rules.specs.Tree.{Tree}
use Rattle.rules.specs.SetRows.{machine, row_count}
use Rattle.rules.specs.Compile.{rows_for}
use Rattle.rules.proofs.RowsRight.{nodes-below}
use Rattle.rules.proofs.SetRowsAll.{first_rows}
use Rattle.runs.specs.Runs.{Runs}
use Rattle.rows.specs.Rows.{NodesOf, SomeNodes, room as lent}
use Rattle.rows.specs.Listing.{Given, TreeOf, RoomFor}
use Rattle.rows.proofs.Leaving.{leaving, masks-under}
use Rattle.rows.proofs.SameClosing.{nodes-held}

-- ---- room

module _ (cells marks sets : List ℕ) where
  -- K, as the least of two at a time
  pub room-is : {a b room : ℕ} → a ≡ min rows_most (length cells / 256) → b ≡ min a (length marks) → room ≡ min b (length sets / words_a_row) → room ≡ rows_for (lent cells marks sets)
  unfolding rows_for
  room-is e f g = omega (arith, e, f, g)

  -- so many rows fit
  pub rows_fit : {room : ℕ} → room ≡ rows_for (lent cells marks sets) → (room ≤ rows_most) × RoomFor room cells marks × (words_a_row * room ≤ length sets)
  unfolding rows_for
  rows_fit e = (omega (arith, e), record { cells-long = omega (arith, e); marks-long = omega (arith, e) }, omega (arith, e))

-- the inside row and the head row
pub two-rows : (X : Tree) → 2 ≤ row_count X
unfolding row_count
two-rows X = (first_rows X).0

-- ---- nodes and runs

module _ {program kind to1 to2 atom starts masks : List ℕ} {runs : ℕ} (R : Runs program kind atom starts masks runs) where
  pub listing-given : SomeNodes program kind to1 to2 atom → Given kind to1 to2 starts masks runs ((length kind + 63) / 64)
  unfolding machine
  listing-given (X, N) = record {
    nodes = nodes-held (nodes-below X) N.hold N.firsts N.seconds;
    some = omega (arith, N.hold.count);
    wide = omega arith;
    short = omega (arith, N.hold.few);
    parted = R.are;
    long = R.long;
    under = masks-under ((length kind + 63) / 64) N R (omega arith) (omega (arith, N.hold.few));
  }

  pub listing-tree : {X : Tree} → NodesOf program X kind to1 to2 atom → TreeOf kind to1 to2 starts masks runs ((length kind + 63) / 64) X
  listing-tree N = record { bytes = _; hold = N.hold; masked = leaving ((length kind + 63) / 64) N R (omega arith) (omega (arith, N.hold.few)) }
