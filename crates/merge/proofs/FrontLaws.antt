-- The front of lent room that may be longer.
use mathlib.Core.Path.{◌≡◌, sym, ap, ◌∙◌, subst}
use mathlib.Core.List.{List, [], ◌++◌}
use Prim.Native.Nat.{ℕ, ◌+◌, ◌*◌, ◌≤◌, ◌<◌}
use native.Mathlib.Omega.{arith}
use lib.ListN.{length, get_or, take, drop, replicate, length-take, length-drop, length-replicate}
use lib.Seq.{get_or-take, get_or-drop, ext_get_or, length-take-le, take-append-le}
use Rattle.rules.specs.Sizes.{rows_most}
use Rattle.rules.specs.Grid.{Grid}
use Rattle.rules.specs.Compiled.{merged}
use Rattle.rules.proofs.MergedTable.{merged-exact}
use Rattle.grid.specs.Rows.{row_words}
use Rattle.grid.specs.Rows.{rows_of}
use Rattle.parting.specs.Room.{Room}
use Rattle.grid.proofs.GridLaws.{rows-length, row_at}
use Rattle.merge.specs.Merge.{Stands}

-- the front of a local array of zeros
pub zeros-front : (n : ℕ) → n ≤ rows_most → length {A = ℕ} (take n (replicate rows_most 0)) ≡ n
zeros-front n l = length-take-le {A = ℕ} n (replicate rows_most 0) (subst (λ (x : ℕ). n ≤ x) (sym (length-replicate {A = ℕ} rows_most 0)) l)

module _ (cells marks : List ℕ) (n : ℕ) (room : 256 * n ≤ length cells) (many : n ≤ length marks) where
  -- rows of the front, counted by the marks of the front, are the rows
  front-rows : rows_of (take (256 * n) cells) (length (take n marks)) ≡ rows_of cells n
  front-rows = ap (rows_of (take (256 * n) cells)) (length-take-le n marks many)
      ∙ ext_get_or [] (rows_of (take (256 * n) cells) n) (rows_of cells n) (rows-length (take (256 * n) cells) n ∙ sym (rows-length cells n))
      (λ i l. let li : i < n = subst (λ (x : ℕ). i < x) (rows-length (take (256 * n) cells) n) l in row_at (take (256 * n) cells) n i li ∙ part i li ∙ sym (row_at cells n i li))
    where
      part : (i : ℕ) → i < n → take 256 (drop (256 * i) (take (256 * n) cells)) ≡ take 256 (drop (256 * i) cells)
      part i l = ext_get_or 0 (take 256 (drop (256 * i) (take (256 * n) cells))) (take 256 (drop (256 * i) cells)) (simp (length-take, length-drop) (omega arith))
          (λ b lb. one b (omega (arith, lb, length-take 256 (drop (256 * i) (take (256 * n) cells)))))
        where
          one : (b : ℕ) → b < 256 → get_or (take 256 (drop (256 * i) (take (256 * n) cells))) b 0 ≡ get_or (take 256 (drop (256 * i) cells)) b 0
          one b lb = get_or-take 256 (drop (256 * i) (take (256 * n) cells)) b 0 lb ∙ get_or-drop (256 * i) (take (256 * n) cells) b 0 ∙ get_or-take (256 * n) cells (256 * i + b) 0 (omega arith)
              ∙ sym (get_or-drop (256 * i) cells b 0) ∙ sym (get_or-take 256 (drop (256 * i) cells) b 0 lb)

  pub front-grid : Grid (rows_of cells n) (take n marks) → Grid (rows_of (take (256 * n) cells) (length (take n marks))) (take n marks)
  front-grid = subst (λ (r : List (List ℕ)). Grid r (take n marks)) (sym front-rows)

  pub front-room : {preds class number order touched : List ℕ} → n ≤ rows_most → length preds ≡ row_words * n → length class ≡ n → length number ≡ n → length order ≡ n → length touched ≡ row_words
      → Room (take (256 * n) cells) preds class number order touched (length (take n marks))
  front-room {preds} {class} {number} {order} {touched} few p c x r d = subst (Room (take (256 * n) cells) preds class number order touched) (sym (length-take-le n marks many)) (record {
    few = few;
    cells-long = length-take-le (256 * n) cells room;
    preds-long = p;
    class-long = c;
    number-long = x;
    order-long = r;
    touched-long = d;
  })

  -- what stands at the front of the front stands at the front
  pub front-stands : {cells' marks' : List ℕ} {rows head : ℕ} → Grid (rows_of cells n) (take n marks)
      → Stands (merged (rows_of (take (256 * n) cells) (length (take n marks))) (take n marks)) cells' marks' rows head
      → Stands (merged (rows_of cells n) (take n marks)) (cells' ++ drop (256 * n) cells) (marks' ++ drop n marks) rows head
  front-stands {cells'} {marks'} {rows} {head} G = λ s. go (subst (λ (r : List (List ℕ)). Stands (merged r (take n marks)) cells' marks' rows head) front-rows s)
    where
      go : Stands (merged (rows_of cells n) (take n marks)) cells' marks' rows head
          → Stands (merged (rows_of cells n) (take n marks)) (cells' ++ drop (256 * n) cells) (marks' ++ drop n marks) rows head
      go s = record {
        count = s.count;
        first = s.first;
        cells-front = take-append-le (256 * rows) cells' (drop (256 * n) cells)
            (omega (arith, ap length s.cells-front, length-take (256 * rows) cells', (merged-exact G).cells-exact, s.count)) ∙ s.cells-front;
        marks-front = take-append-le rows marks' (drop n marks) (omega (arith, ap length s.marks-front, length-take rows marks', (merged-exact G).marks-exact, s.count)) ∙ s.marks-front;
      }
