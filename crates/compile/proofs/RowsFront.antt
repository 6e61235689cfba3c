-- Set rows that are listed at the front of the room can be merged there, and merging leaves the compiled table.
use mathlib.Core.Path.{◌≡◌, sym, ap, subst, ◌∙◌}
use mathlib.Core.List.{List, [], map}
use Prim.Native.Nat.{ℕ, ◌*◌, ◌≤◌, ◌<◌}
use native.Mathlib.Omega.{arith}
use lib.ListN.{length, get_or, take, drop, length-drop}
use lib.Seq.{ext_get_or, get_or-take, length-take-le}
use Rattle.rules.specs.Tools.{all_bytes, place}
use Rattle.rules.specs.Sizes.{rows_most, words_a_row}
use Rattle.rules.specs.Tree.{Tree}
use Rattle.rules.specs.SetRows.{SetRow, Machine, machine, same_row, next, set_rows, row_count, mark_of}
use Rattle.rules.specs.Grid.{Grid}
use Rattle.rules.specs.Compiled.{cells_of, merged, compiled}
use Rattle.rules.specs.Compile.{Room, rows_for}
use Rattle.rules.proofs.Lists.{get_or-map-in, length-map}
use Rattle.rules.proofs.SetRowsAll.{byte-in, byte_at}
use Rattle.rules.proofs.CompiledTable.{G, rows_few}
use Rattle.rows.specs.Rows.{SameRoom, RowsIn}
use Rattle.cells.specs.Cells.{place_of}
use Rattle.grid.specs.Rows.{rows_of}
use Rattle.grid.proofs.GridLaws.{rows-length, row_at, cell_at}
use Rattle.merge.specs.Merge.{Lent, Stands}
use Rattle.compile.specs.Outcomes.{Front}

-- there is room for n rows
pub record RoomFor (l : Room) (n : ℕ) : Type 0 where
  pub few : n ≤ rows_most
  pub cells : 256 * n ≤ length l.cells
  pub marks : n ≤ length l.marks
  pub sets : words_a_row * n ≤ length l.sets

room_for : {old new : Room} {n : ℕ} → SameRoom old new → n ≤ rows_for old → RoomFor new n
unfolding rows_for
room_for s h = record { few = omega arith; cells = omega (arith, s.cells); marks = omega (arith, s.marks); sets = omega (arith, s.sets) }

module _ (X : Tree) {old new : Room} {n : ℕ} (same : SameRoom old new) (R : RowsIn (machine X) old new n) where
  abbrev w : Machine
  w = machine X

  abbrev rows : List SetRow
  rows = set_rows w

  fits : RoomFor new n
  fits = room_for same R.fits

  -- ---- what is listed are the cells and marks of the set rows

  grid-long : length (cells_of w rows) ≡ n
  unfolding cells_of
  grid-long = length-map (λ r. map (λ b. place (same_row (next w r b)) rows) all_bytes) rows ∙ sym R.all

  grid-at : (q b : ℕ) → q < n → b < 256 → get_or (get_or (cells_of w rows) q []) b 0 ≡ place_of w q b
  unfolding cells_of
  grid-at q b l lb =
      ap (λ (r : List ℕ). get_or r b 0) (get_or-map-in (λ r. map (λ b. place (same_row (next w r b)) rows) all_bytes) rows q _ [] (omega (arith, R.all)))
      ∙ get_or-map-in (place_of w q) all_bytes b 0 0 (byte-in b lb)
      ∙ ap (place_of w q) (byte_at b lb)

  row-wide : (q : ℕ) → q < n → length (get_or (rows_of new.cells n) q []) ≡ 256
  row-wide q l = ap length (row_at new.cells n q l) ∙ length-take-le 256 (drop (256 * q) new.cells) (omega (arith, fits.cells, length-drop (256 * q) new.cells))

  rows-listed : rows_of new.cells n ≡ cells_of w rows
  rows-listed = ext_get_or [] (rows_of new.cells n) (cells_of w rows) (rows-length new.cells n ∙ sym grid-long) (λ q l. row q (omega (arith, rows-length new.cells n)))
    where
      row : (q : ℕ) → q < n → get_or (rows_of new.cells n) q [] ≡ get_or (cells_of w rows) q []
      row q l = ext_get_or 0 (get_or (rows_of new.cells n) q []) (get_or (cells_of w rows) q []) (row-wide q l ∙ sym ((G X).wide q (omega (arith, grid-long))))
          (λ b lb. one b (omega (arith, row-wide q l)))
        where
          one : (b : ℕ) → b < 256 → get_or (get_or (rows_of new.cells n) q []) b 0 ≡ get_or (get_or (cells_of w rows) q []) b 0
          one b lb = cell_at new.cells n q b l lb ∙ R.cells q b l lb ∙ sym (grid-at q b l lb)

  marks-listed : take n new.marks ≡ map (mark_of w) rows
  marks-listed = ext_get_or 0 (take n new.marks) (map (mark_of w) rows) (front_long ∙ R.all ∙ sym (length-map (mark_of w) rows)) (λ q l. one q (omega (arith, front_long)))
    where
      front_long : length (take n new.marks) ≡ n
      front_long = length-take-le n new.marks fits.marks

      one : (q : ℕ) → q < n → get_or (take n new.marks) q 0 ≡ get_or (map (mark_of w) rows) q 0
      one q l = get_or-take n new.marks q 0 l ∙ R.marks q l ∙ sym (get_or-map-in (mark_of w) rows q _ 0 (omega (arith, R.all)))

  -- ---- so they can be merged

  pub rows-lent : Lent new.cells new.marks new.sets n
  rows-lent = record {
    grid = subst (λ (r : List (List ℕ)). Grid r (take n new.marks)) (sym rows-listed) (subst (Grid (cells_of w rows)) (sym marks-listed) (G X));
    few = fits.few;
    cells-long = fits.cells;
    marks-long = fits.marks;
    sets-long = fits.sets;
  }

  -- S is at most K
  pub rows_fit : row_count X ≤ rows_for old
  unfolding row_count
  rows_fit = omega (arith, R.all, R.fits)

  pub table-front : {left : Room} {count head : ℕ} → SameRoom new left → Stands (merged (rows_of new.cells n) (take n new.marks)) left.cells left.marks count head → Front (compiled X) left count head
  unfolding compiled row_count
  table-front {left} {count} {head} s m = go (rw (rows-listed, marks-listed) at m)
    where
      go : Stands (compiled X) left.cells left.marks count head → Front (compiled X) left count head
      go t = record {
        count = sym t.count;
        first = sym t.first;
        cells = t.cells-front;
        marks = t.marks-front;
        cells-long = omega (arith, t.count, rows_few X, R.all, fits.cells, s.cells);
        marks-long = omega (arith, t.count, rows_few X, R.all, fits.marks, s.marks);
      }
