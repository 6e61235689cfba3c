-- A row's line from the part that is lent on, and how long the listing gets.
use mathlib.Core.Path.{◌≡◌, sym, ap}
use mathlib.Core.Logic.{⊎_elim}
use Prim.Native.Nat.{ℕ, ◌+◌, ◌*◌, ◌≤◌, ◌<◌}
use native.Mathlib.Omega.{arith}
use lib.ListN.{length, get_or, length-append}
use Rattle.rules.specs.Table.{Table, WellFormed}
use Rattle.rules.specs.Answers.{given}
use Rattle.rules.specs.Listing.{decimal, Run, run_text, row_line, listing}
use Rattle.writing.proofs.Numbers.{decimal-short}
use Rattle.writing.proofs.RowLaws.{part, part_slice}
use Rattle.writing.proofs.Lengths.{rows-most, number_short, row-runs-most}
use Rattle.listing.specs.Lines.{line_of}

pub part-line : (w : Table) (q : ℕ) → row_line w q ≡ line_of q (get_or w.marks q 0) (part q w.cells)
part-line w q = ap (line_of q (get_or w.marks q 0)) (sym (part_slice (256 * q) (256 * q + 256) w.cells))

run-most : (r : Run) → r.lo < 256 → r.hi < 256 → r.to < 1024 → length (run_text r) ≤ 13
run-most r a b c = simp length-append (omega (arith, decimal-short 2 r.lo (omega arith), decimal-short 2 r.hi (omega arith), decimal-short 3 r.to (omega arith)))

module _ {w : Table} (f : WellFormed w) where
  line-most : {q : ℕ} → q < w.count → length (row_line w q) ≤ 3335
  line-most {q} h = rw (part-line w q) (simp length-append (omega (arith, number_short f h, mark-most, row-runs-most f h run_text 13 run-most)))
    where
      mark-most : length (decimal (get_or w.marks q 0)) ≤ 1
      mark-most = decimal-short 0 (get_or w.marks q 0) (⊎_elim (λ e. omega arith) (⊎_elim (λ e. omega arith) (λ e. omega arith)) (f.formed.marks-good q h))

  pub listing-most : length (listing (given w)) ≤ 20 + 3335 * w.count
  unfolding listing
  listing-most =
      simp length-append
      (omega (
        arith,
        decimal-short 3 w.count (omega (arith, f.few-rows)),
        decimal-short 3 w.head (omega (arith, f.few-rows, f.formed.head-row)),
        rows-most (row_line w) 3335 0 w.count (λ q l. line-most (omega arith)),
      ))
