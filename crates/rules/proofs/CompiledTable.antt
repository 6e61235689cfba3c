-- A tree's set rows as cells make a grid, and the compiled table goes as they do.
use mathlib.Core.Path.{◌≡◌, refl, ◌∙◌, sym, ap, subst}
use mathlib.Core.Logic.{◌⊎◌, inl, inr}
use mathlib.Core.Bool.{Bool, true, false}
use mathlib.Core.List.{List, [], ◌∷◌, map}
use Prim.Native.Nat.{ℕ, zero, suc, ◌<◌, ◌≤◌}
use native.Mathlib.Omega.{arith}
use lib.Dec.{T}
use lib.ListN.{length, get_or}
use lib.Seq.{slice}
use Rattle.rules.specs.Tools.{has, all_bytes, place}
use Rattle.rules.specs.Tree.{Tree}
use Rattle.rules.specs.SetRows.{SetRow, Machine, machine, next, at_the_end, mark_of, same_row, row_at, RowIn, targets, row_count}
use Rattle.rules.specs.Table.{after, begins, Mark}
use Rattle.rules.specs.Drawing.{Bytes}
use Rattle.rules.specs.Grid.{Came, Grid}
use Rattle.rules.specs.Compiled.{merged, cells_of, compiled}
use Rattle.rules.proofs.Lists.{at, length-up_from, place-le, place-hit, get_or-map-in, length-map}
use Rattle.rules.proofs.RowsListed.{same-row, row_same, Before}
use Rattle.rules.proofs.Classes.{run}
use Rattle.rules.proofs.MergedTable.{number, number-zero, merged-mark, merged-run, merged-few}
use Rattle.rules.proofs.RowsRight.{row_after, begin_row}
use Rattle.rules.proofs.SetRowsAll.{byte_at, byte-in, target_at, length-targets, to-byte, list, first_rows, distinct, target-in, ordered}
use Rattle.rules.proofs.Texts.{bytes-slice}

place-row : (rs : List SetRow) (x : SetRow) → RowIn x rs → (place (same_row x) rs < length rs) × (row_at rs (place (same_row x) rs) ≡ x)
place-row rs x y = (omega (arith, y.1, place-le (same_row x) rs y.0 _ y.1 hit), sym (same-row x (row_at rs (place (same_row x) rs)) (place-hit (same_row x) rs y.0 _ y.1 hit)))
  where
    hit : T (same_row x (row_at rs y.0))
    hit = subst (λ (z : SetRow). T (same_row x z)) (sym y.2) (row_same x)

mark-is : (w : Machine) (q : SetRow) → Mark (mark_of w q)
unfolding mark_of
mark-is w q = go (has q.nodes w.final) (has (at_the_end w q) w.final)
  where
    go : (a b : Bool) → Mark (elim a [ true ↦ 3 | false ↦ elim b [ true ↦ 2 | false ↦ 0 ] ])
    go true b = inr (inr refl)
    go false true = inr (inl refl)
    go false false = inl refl

module _ (X : Tree) where
  abbrev w : Machine
  w = machine X

  abbrev rows : List SetRow
  rows = list X

  -- the place of the row that row i goes to on b
  abbrev goal : ℕ → ℕ → ℕ
  goal i b = place (same_row (next w (row_at rows i) b)) rows

  -- ---- the grid

  abbrev pub grid : List (List ℕ)
  grid = cells_of w rows

  abbrev pub marks-of : List ℕ
  marks-of = map (mark_of w) rows

  length-grid : length grid ≡ length rows
  unfolding cells_of
  length-grid = length-map (λ q. map (λ b. place (same_row (next w q b)) rows) all_bytes) rows

  in_rows : (i : ℕ) → i < length grid → i < length rows
  in_rows i l = subst (λ (n : ℕ). i < n) length-grid l

  grid-row : (i : ℕ) → i < length grid → get_or grid i [] ≡ map (goal i) all_bytes
  unfolding cells_of
  grid-row i l = get_or-map-in (λ q. map (λ b. place (same_row (next w q b)) rows) all_bytes) rows i _ [] (in_rows i l)

  grid-at : (i b : ℕ) → i < length grid → b < 256 → at (get_or grid i []) b ≡ goal i b
  grid-at i b l lb =
      ap {B = ℕ} (λ (x : List ℕ). at x b) (grid-row i l) ∙ get_or-map-in (goal i) all_bytes b 0 0 (byte-in b lb) ∙ ap {B = ℕ} (goal i) (byte_at b lb)

  grid-wide : (i : ℕ) → i < length grid → length (get_or grid i []) ≡ 256
  grid-wide i l = ap {B = ℕ} (λ (x : List ℕ). length x) (grid-row i l) ∙ length-map (goal i) all_bytes ∙ length-up_from 0 256

  found : (i b : ℕ) → i < length grid → b < 256 → (goal i b < length rows) × (row_at rows (goal i b) ≡ next w (row_at rows i) b)
  found i b l lb = place-row rows (next w (row_at rows i) b) (target-in X i b (in_rows i l) lb)

  grid-in : (i b : ℕ) → i < length grid → b < 256 → at (get_or grid i []) b < length grid
  grid-in i b l lb = omega (arith, grid-at i b l lb, length-grid, (found i b l lb).0)

  grid-next : (i b : ℕ) → i < length grid → b < 256 → row_at rows (at (get_or grid i []) b) ≡ next w (row_at rows i) b
  grid-next i b l lb = ap {B = SetRow} (λ (x : ℕ). row_at rows x) (grid-at i b l lb) ∙ (found i b l lb).1

  came : (y q b : ℕ) → y < length grid → q < length grid → Before (targets w) 2 rows (distinct X) y q b → Came grid y q b
  came y q b ly lq (inl x) = inl x
  came y q b ly lq (inr x) = inr (
    x.0,
    x.1,
    x.2,
    lc,
    distinct X (at (get_or grid x.0 []) x.1) y (in_rows _ (grid-in x.0 x.1 lp lc)) (in_rows y ly)
        (grid-next x.0 x.1 lp lc ∙ sym (target_at X (row_at rows x.0) x.1 lc) ∙ x.4),
  )
    where
      lc : x.1 < 256
      lc = to-byte X (row_at rows x.0) x.1 x.3

      upto : (x.0 < q) ⊎ ((x.0 ≡ q) × (x.1 < b)) → x.0 < length grid
      upto (inl h) = omega arith
      upto (inr h) = omega (arith, h.0)

      lp : x.0 < length grid
      lp = upto x.2

  mark-at : (i : ℕ) → i < length grid → at marks-of i ≡ mark_of w (row_at rows i)
  mark-at i l = get_or-map-in (mark_of w) rows i _ 0 (in_rows i l)

  pub G : Grid grid marks-of
  G = record {
    two = omega (arith, length-grid, (first_rows X).0);
    wide = grid-wide;
    rows = grid-in;
    marked = length-map (mark_of w) rows ∙ sym length-grid;
    good = λ i l. subst Mark (sym (mark-at i l)) (mark-is w (row_at rows i));
    own = λ q l. came q q 0 l l (ordered X q (in_rows q l)).own;
    target = λ q b y l lb ly. came y q b (omega (arith, grid-in q b l lb)) l ((ordered X q (in_rows q l)).target b (at (get_or grid q []) b) y
        (subst (λ (n : ℕ). b < n) (sym (length-targets X (row_at rows q))) lb) (in_rows _ (grid-in q b l lb)) (grid-next q b l lb ∙ sym (target_at X (row_at rows q) b lb)) ly);
  }

  -- ---- the compiled table

  -- R is at most S
  pub rows_few : (compiled X).count ≤ row_count X
  unfolding compiled row_count
  rows_few = omega (arith, merged-few G, length-grid)

  grid-run : (bs : List ℕ) (i : ℕ) → Bytes bs → i < length grid → row_at rows (run grid i bs) ≡ row_after w (row_at rows i) bs
  unfolding row_after
  grid-run [] i h l = refl
  grid-run (b ∷ bs) i h l = grid-run bs (at (get_or grid i []) b) h.1 (grid-in i b l h.0) ∙ ap {B = SetRow} (λ (x : SetRow). row_after w x bs) (grid-next i b l h.0)

  abbrev start : ℕ → ℕ
  start zero = 1
  start (suc s) = 0

  start-in : (s : ℕ) → start s < length grid
  start-in zero = G.two
  start-in (suc s) = omega (arith, G.two)

  start-row : (s : ℕ) → row_at rows (start s) ≡ begin_row w s
  start-row zero = (first_rows X).1 1 (omega arith)
  start-row (suc s) = (first_rows X).1 0 (omega arith)

  begins-at : (s : ℕ) → begins (compiled X) s ≡ number G (start s)
  unfolding compiled merged
  begins-at zero = refl
  begins-at (suc s) = number-zero G

  -- the mark of the row reached is that of the set row reached
  pub mark-reached : (t : List ℕ) → Bytes t → (s e : ℕ)
      → at (compiled X).marks (after (compiled X) (begins (compiled X) s) (slice s e t)) ≡ mark_of w (row_after w (begin_row w s) (slice s e t))
  unfolding compiled
  mark-reached t h s e =
      ap {B = ℕ} (λ (q : ℕ). at (compiled X).marks (after (compiled X) q (slice s e t))) (begins-at s)
      ∙ ap {B = ℕ} (λ (q : ℕ). at (compiled X).marks q) ran.0
      ∙ merged-mark G (run grid (start s) (slice s e t)) ran.1
      ∙ mark-at (run grid (start s) (slice s e t)) ran.1
      ∙ ap {B = ℕ} (λ (q : SetRow). mark_of w q) (grid-run (slice s e t) (start s) (bytes-slice t h s e) (start-in s) ∙ ap {B = SetRow} (λ (q : SetRow). row_after w q (slice s e t)) (start-row s))
    where
      ran : (after (compiled X) (number G (start s)) (slice s e t) ≡ number G (run grid (start s) (slice s e t))) × (run grid (start s) (slice s e t) < length grid)
      ran = merged-run G (slice s e t) (start s) (bytes-slice t h s e) (start-in s)
