-- Rows as they stand in the cells.
use mathlib.Core.Path.{◌≡◌, sym, ap, ◌∙◌, subst}
use mathlib.Core.List.{List, []}
use Prim.Native.Nat.{ℕ, ◌+◌, ◌*◌, ◌/◌, ◌%◌, ◌≤◌, ◌<◌}
use native.Mathlib.Omega.{arith}
use lib.ListN.{length, get_or, take, drop}
use lib.Seq.{get_or-take, get_or-drop}
use Rattle.rules.specs.Tools.{up_from}
use Rattle.rules.specs.Sizes.{rows_most}
use Rattle.rules.specs.Grid.{Grid}
use Rattle.rules.proofs.Lists.{get_or-map-in, length-map, length-up_from, at-up_from}
use Rattle.grid.specs.Rows.{rows_of, Rows}

pub cell_in : {cells : List ℕ} {n : ℕ} → Rows cells n → (i b : ℕ) → i < n → b < 256 → get_or cells (256 * i + b) 0 < n
cell_in R i b li lb = R.inside (256 * i + b) (omega arith)

pub rows-length : (cells : List ℕ) (n : ℕ) → length (rows_of cells n) ≡ n
unfolding rows_of
rows-length cells n = length-map (λ q. take 256 (drop (256 * q) cells)) (up_from 0 n) ∙ length-up_from 0 n

pub row_at : (cells : List ℕ) (n i : ℕ) → i < n → get_or (rows_of cells n) i [] ≡ take 256 (drop (256 * i) cells)
unfolding rows_of
row_at cells n i l =
    get_or-map-in (λ q. take 256 (drop (256 * q) cells)) (up_from 0 n) i 0 [] (subst (λ (x : ℕ). i < x) (sym (length-up_from 0 n)) l)
    ∙ ap (λ (q : ℕ). take 256 (drop (256 * q) cells)) (at-up_from 0 n i l ∙ plain)
  where
    plain : 0 + i ≡ i
    plain = omega arith

pub cell_at : (cells : List ℕ) (n i b : ℕ) → i < n → b < 256 → get_or (get_or (rows_of cells n) i []) b 0 ≡ get_or cells (256 * i + b) 0
cell_at cells n i b l lb = ap (λ (x : List ℕ). get_or x b 0) (row_at cells n i l) ∙ get_or-take 256 (drop (256 * i) cells) b 0 lb ∙ get_or-drop (256 * i) cells b 0

module _ (cells : List ℕ) {marks : List ℕ} (n : ℕ) (G : Grid (rows_of cells n) marks) where
  pub in_rows : {i : ℕ} → i < n → i < length (rows_of cells n)
  in_rows {i} l = subst (λ (x : ℕ). i < x) (sym (rows-length cells n)) l

  pub out-rows : {i : ℕ} → i < length (rows_of cells n) → i < n
  out-rows {i} l = subst (λ (x : ℕ). i < x) (rows-length cells n) l

  pub rows_in : n ≤ rows_most → length cells ≡ 256 * n → Rows cells n
  rows_in few long = record { few = few; long = long; inside = λ i l. subst (λ (k : ℕ). get_or cells k 0 < n) (split i) (one (i / 256) (i % 256) (omega arith) (omega arith)) }
    where
      split : (i : ℕ) → 256 * (i / 256) + i % 256 ≡ i
      split i = omega arith

      one : (q b : ℕ) → q < n → b < 256 → get_or cells (256 * q + b) 0 < n
      one q b lq lb = omega (arith, G.rows q b (in_rows lq) lb, cell_at cells n q b lq lb, rows-length cells n)
