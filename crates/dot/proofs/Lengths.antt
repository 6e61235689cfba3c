-- How long a graph gets.
use mathlib.Core.Path.{◌≡◌, refl, sym, ap}
use mathlib.Core.Bool.{Bool, true, false, ◌||◌}
use Prim.Native.Nat.{ℕ, ◌+◌, ◌*◌, ◌≤◌, ◌<◌}
use native.Mathlib.Decide.{ℕ_discrete}
use native.Mathlib.Omega.{arith}
use lib.Dec.{ltb, eqb}
use lib.ListN.{length, get_or, length-append}
use Rattle.rules.specs.Table.{Table, fits, WellFormed}
use Rattle.rules.specs.Listing.{decimal, Run}
use Rattle.writing.proofs.Numbers.{decimal-short}
use Rattle.writing.proofs.RowLaws.{part_slice}
use Rattle.writing.proofs.Lengths.{rows-most, number_short, row-runs-most}
use Rattle.dot.specs.Dot.{is_trap, byte_text, bytes_text, arrow_unless_trap, shape, row_dot, dot}
use Rattle.dot.proofs.DotLaws.{byte-digits, byte-behind, byte-itself, bytes_one, bytes-more, shape-match, shape-end, shape-plain, arrow-none, arrow-one, row-none, row_one}

byte-most : (b : ℕ) → length (byte_text b) ≤ 3
byte-most b = go (ltb b 33 || ltb 126 b) refl (eqb b 34 || eqb b 92) refl
  where
    go : (s : Bool) → ltb b 33 || ltb 126 b ≡ s → (t : Bool) → eqb b 34 || eqb b 92 ≡ t → length (byte_text b) ≤ 3
    go true e t g = omega (arith, ap length (byte-digits b e))
    go false e true g = omega (arith, ap length (byte-behind b e g))
    go false e false g = omega (arith, ap length (byte-itself b e g))

bytes_most : (lo hi : ℕ) → length (bytes_text lo hi) ≤ 7
bytes_most lo hi = go (ℕ_discrete lo hi)
  where
    go : Dec (lo ≡ hi) → length (bytes_text lo hi) ≤ 7
    go (yes e) = omega (arith, ap length (bytes_one lo hi e), byte-most lo)
    go (no n) = omega (arith, simp length-append at (ap length (bytes-more lo hi n)), byte-most lo, byte-most hi)

shape-most : (q mark : ℕ) → length (decimal q) ≤ 4 → length (shape q mark) ≤ 23
shape-most q mark l = go (fits mark false) refl (fits mark true) refl
  where
    go : (s : Bool) → fits mark false ≡ s → (t : Bool) → fits mark true ≡ t → length (shape q mark) ≤ 23
    go true e t g = omega (arith, ap length (shape-match q mark e))
    go false e true g = omega (arith, simp length-append at (ap length (shape-end q mark e g)))
    go false e false g = omega (arith, ap length (shape-plain q mark e g))

module _ {w : Table} (f : WellFormed w) {q : ℕ} (h : q < w.count) where
  arrow-most : (r : Run) → r.lo < 256 → r.hi < 256 → r.to < 1024 → length (arrow_unless_trap w q r) ≤ 32
  arrow-most r a b c = go (is_trap w r.to) refl
    where
      go : (t : Bool) → is_trap w r.to ≡ t → length (arrow_unless_trap w q r) ≤ 32
      go true e = omega (arith, ap length (arrow-none w q r e))
      go false e = rw (arrow-one w q r e) (simp length-append (omega (arith, number_short f h, decimal-short 3 r.to (omega arith), bytes_most r.lo r.hi)))

  row-most : length (row_dot w q) ≤ 8219
  row-most = go (is_trap w q) refl
    where
      go : (t : Bool) → is_trap w q ≡ t → length (row_dot w q) ≤ 8219
      go true e = omega (arith, ap length (row-none w q e))
      go false e =
          rw (row_one w q e, sym (part_slice (256 * q) (256 * q + 256) w.cells))
          (simp length-append (omega (arith, number_short f h, shape-most q (get_or w.marks q 0) (number_short f h), row-runs-most f h (arrow_unless_trap w q) 32 arrow-most)))

pub dot-most : {w : Table} → WellFormed w → length (dot w) ≤ 152 + 8219 * w.count
unfolding dot
dot-most {w} f =
    simp length-append
    (omega (arith, decimal-short 3 w.head (omega (arith, f.few-rows, f.formed.head-row)), rows-most (row_dot w) 8219 0 w.count (λ q l. row-most f (omega arith))))
