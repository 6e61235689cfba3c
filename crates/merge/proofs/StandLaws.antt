-- The kept rows, moved down, are the merged table.
use mathlib.Core.Path.{◌≡◌, sym, ap, ◌∙◌, subst}
use mathlib.Core.List.{List}
use Prim.Native.Nat.{ℕ, ◌+◌, ◌*◌, ◌/◌, ◌%◌, ◌≤◌, ◌<◌}
use native.Mathlib.Omega.{arith}
use lib.ListN.{length, get_or, take}
use lib.Seq.{get_or-take, ext_get_or, length-take-le}
use Rattle.rules.specs.Grid.{Grid}
use Rattle.rules.specs.Table.{cell}
use Rattle.rules.specs.Compiled.{classes, merged}
use Rattle.rules.proofs.Lists.{kept-inj}
use Rattle.rules.proofs.Classes.{classes-named}
use Rattle.rules.proofs.MergedTable.{keep, number, number_at, keep-in, kept-own, number-keep, kept-cell, kept-mark, merged-exact, low, again}
use Rattle.grid.specs.Rows.{Rows, Names}
use Rattle.grid.proofs.GridLaws.{cell_in}
use Rattle.grid.specs.Rows.{rows_of}
use Rattle.grid.proofs.GridLaws.{rows-length, cell_at, in_rows, out-rows}
use Rattle.merge.specs.Merge.{Stands}
use Rattle.merge.specs.Numbers.{is_kept, rank, Numbering, Lowered}
use Rattle.merge.proofs.NumberLaws.{rank-le, rank_below, rank-place}

module _ (cells : List ℕ) {marks : List ℕ} (n : ℕ) (G : Grid (rows_of cells n) marks) where
  abbrev cl : List ℕ
  cl = classes (rows_of cells n) marks

  classes-long : length cl ≡ n
  classes-long = (classes-named G).sorted.long ∙ rows-length cells n

  pub two-rows : 1 < n
  two-rows = out-rows cells n G G.two

  -- ---- numbers are ranks

  rows-kept : length (keep G) ≡ rank cl n
  unfolding rank
  rows-kept = ap (rank cl) (rows-length cells n)

  number_is : (q : ℕ) → q < n → number G q ≡ rank cl (get_or cl q 0)
  number_is q l = kept-inj (is_kept cl) 0 (length (rows_of cells n)) (number G q) (rank cl (get_or cl q 0))
      (number_at G q (in_rows cells n G l)).0 (omega (arith, rows-kept, rank_below cl (get_or cl q 0) n (again G q (in_rows cells n G l)) low-in))
      ((number_at G q (in_rows cells n G l)).1 ∙ sym (rank-place cl (length (rows_of cells n)) (get_or cl q 0) (in_rows cells n G low-in) (again G q (in_rows cells n G l))))
    where
      low-in : get_or cl q 0 < n
      low-in = out-rows cells n G (low G q (in_rows cells n G l))

  -- row k of the merged table is the kept row at place k
  module _ (k : ℕ) (l : k < length (keep G)) where
    abbrev row : ℕ
    row = get_or (keep G) k 0

    row_in : row < n
    row_in = out-rows cells n G (keep-in G k l)

    row-rank : rank cl row ≡ k
    row-rank = ap (rank cl) (sym (kept-own G k l)) ∙ sym (number_is row row_in) ∙ number-keep G k l

  -- ---- the table stands

  stands : {number' cells' marks' : List ℕ} {rows : ℕ} → Rows cells n → length marks ≡ n → Numbering cl number' rows → Lowered cl number' cells marks cells' marks'
      → Stands (merged (rows_of cells n) marks) cells' marks' rows (get_or number' 1 0)
  unfolding merged
  stands {number'} {cells'} {marks'} {rows} R marked N L = record {
    count = is-count;
    first = N.numbers 1 (omega (arith, classes-long, two-rows)) ∙ sym (number_is 1 two-rows);
    cells-front = ext_get_or 0 (take (256 * rows) cells') (merged (rows_of cells n) marks).cells (omega (arith, cells-length, (merged-exact G).cells-exact, is-count))
        (λ j l. one_cell j (omega (arith, cells-length)));
    marks-front = ext_get_or 0 (take rows marks') (merged (rows_of cells n) marks).marks (omega (arith, marks-length, (merged-exact G).marks-exact, is-count))
        (λ j l. one-mark j (omega (arith, marks-length)));
  }
    where
      is-count : rows ≡ length (keep G)
      is-count = N.count ∙ ap (rank cl) classes-long ∙ sym rows-kept

      few : rows ≤ n
      few = omega (arith, is-count, rows-kept, rank-le cl n)

      cells-length : length (take (256 * rows) cells') ≡ 256 * rows
      cells-length = length-take-le (256 * rows) cells' (omega (arith, few, L.cells-long, R.long))

      marks-length : length (take rows marks') ≡ rows
      marks-length = length-take-le rows marks' (omega (arith, few, L.marks-long))

      in-class : {q : ℕ} → q < n → q < length cl
      in-class l = omega (arith, classes-long)

      cell-is : (k b : ℕ) → k < length (keep G) → b < 256 → get_or cells' (256 * k + b) 0 ≡ cell (merged (rows_of cells n) marks) k b
      cell-is k b l lb =
          ap (λ (x : ℕ). get_or cells' (256 * x + b) 0) (sym (row-rank k l))
          ∙ L.rows-down (row k l) b (in-class (row_in k l)) (kept-own G k l) lb
          ∙ N.numbers (get_or cells (256 * row k l + b) 0) (in-class target)
          ∙ sym (number_is (get_or cells (256 * row k l + b) 0) target)
          ∙ ap (number G) (sym (cell_at cells n (row k l) b (row_in k l) lb))
          ∙ sym (kept-cell G k b l lb)
        where
          target : get_or cells (256 * row k l + b) 0 < n
          target = cell_in R (row k l) b (row_in k l) lb

      one_cell : (j : ℕ) → j < 256 * rows → get_or (take (256 * rows) cells') j 0 ≡ get_or (merged (rows_of cells n) marks).cells j 0
      one_cell j l = get_or-take (256 * rows) cells' j 0 l ∙ subst (λ (x : ℕ). get_or cells' x 0 ≡ get_or (merged (rows_of cells n) marks).cells x 0) split
          (cell-is (j / 256) (j % 256) (omega (arith, is-count)) (omega arith))
        where
          split : 256 * (j / 256) + j % 256 ≡ j
          split = omega arith

      one-mark : (k : ℕ) → k < rows → get_or (take rows marks') k 0 ≡ get_or (merged (rows_of cells n) marks).marks k 0
      one-mark k l = get_or-take rows marks' k 0 l ∙ ap (λ (x : ℕ). get_or marks' x 0) (sym (row-rank k lk))
          ∙ L.marks-down (row k lk) (in-class (row_in k lk)) (kept-own G k lk) ∙ sym (kept-mark G k lk)
        where
          lk : k < length (keep G)
          lk = omega (arith, is-count)

  -- ---- the same, of a list that is the classes

  module _ {class : List ℕ} (e : class ≡ cl) where
    pub class-long : length class ≡ n
    class-long = ap length e ∙ classes-long

    pub class-names : Names class
    class-names = subst Names (sym e) (record {
      low = λ q l. (classes-named G).sorted.low q (in_rows cells n G (omega (arith, classes-long)));
      named = λ q l. again G q (in_rows cells n G (omega (arith, classes-long)));
    })

    pub table-stands : {number' cells' marks' : List ℕ} {rows : ℕ} → Rows cells n → length marks ≡ n → Numbering class number' rows → Lowered class number' cells marks cells' marks'
        → Stands (merged (rows_of cells n) marks) cells' marks' rows (get_or number' 1 0)
    table-stands {number'} {cells'} {marks'} {rows} R marked N L =
        stands R marked (subst (λ (c : List ℕ). Numbering c number' rows) e N) (subst (λ (c : List ℕ). Lowered c number' cells marks cells' marks') e L)
