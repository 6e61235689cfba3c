-- How long texts get, one after the other.
use mathlib.Core.Path.{◌≡◌, ap}
use mathlib.Core.Bool.{Bool, true, false}
use mathlib.Core.List.{List, [], ◌∷◌, map}
use Prim.Native.Nat.{ℕ, zero, suc, ◌+◌, ◌*◌, ◌≤◌, ◌<◌}
use native.Mathlib.Nat.{mul-suc}
use native.Mathlib.Omega.{arith}
use lib.Dec.{eqb}
use lib.ListN.{length, get_or, length-append}
use Rattle.rules.specs.Tools.{up_from, flat}
use Rattle.rules.specs.Table.{Table, WellFormed}
use Rattle.rules.specs.Listing.{decimal, Run, runs_on, runs}
use Rattle.writing.specs.Runs.{run_of}
use Rattle.writing.proofs.Numbers.{decimal-short}
use Rattle.writing.proofs.RowLaws.{part, part_length, part_at}

-- of at most k bytes each
module _ (f : ℕ → List ℕ) (k : ℕ) where
  pub rows-most : (n c : ℕ) → ((q : ℕ) → q < n + c → length (f q) ≤ k) → length (flat (map f (up_from n c))) ≤ k * c
  rows-most n zero h = omega arith
  rows-most n (suc c) h = omega (arith, length-append (f n) (flat (map f (up_from (suc n) c))), h n (omega arith), rows-most (suc n) c (λ q l. h q (omega arith)), mul-suc k c)

module _ (f : Run → List ℕ) (k top : ℕ) (each : (r : Run) → r.lo < 256 → r.hi < 256 → r.to < top → length (f r) ≤ k) where
  runs-on-most : (cs : List ℕ) (lo hi q : ℕ) → lo ≤ hi → hi + length cs < 256 → q < top → ((i : ℕ) → i < length cs → get_or cs i 0 < top)
      → length (flat (map f (runs_on lo hi q cs))) ≤ k * suc (length cs)
  runs-on-most [] lo hi q a b l h = omega (arith, length-append (f (run_of lo hi q)) [], each (run_of lo hi q) (omega arith) (omega arith) l)
  runs-on-most (c ∷ cs) lo hi q a b l h =
      go (eqb c q) (runs-on-most cs lo (suc hi) q (omega arith) (omega arith) l rest) (runs-on-most cs (suc hi) (suc hi) c (omega arith) (omega arith) (h 0 (omega arith)) rest)
    where
      rest : (i : ℕ) → i < length cs → get_or cs i 0 < top
      rest i g = h (suc i) (omega arith)

      go : (b : Bool) → length (flat (map f (runs_on lo (suc hi) q cs))) ≤ k * suc (length cs) → length (flat (map f (runs_on (suc hi) (suc hi) c cs))) ≤ k * suc (length cs)
          → length (flat (map f (elim b [ true ↦ runs_on lo (suc hi) q cs | false ↦ run_of lo hi q ∷ runs_on (suc hi) (suc hi) c cs ]))) ≤ k * suc (suc (length cs))
      go true same other = omega (arith, mul-suc k (suc (length cs)))
      go false same other =
          omega (arith, mul-suc k (suc (length cs)), each (run_of lo hi q) (omega arith) (omega arith) l, length-append (f (run_of lo hi q)) (flat (map f (runs_on (suc hi) (suc hi) c cs))))

  runs-most : (cs : List ℕ) → length cs ≡ 256 → ((i : ℕ) → i < 256 → get_or cs i 0 < top) → length (flat (map f (runs cs))) ≤ k * 256
  runs-most [] e h = absurd (omega (arith, e))
  runs-most (c ∷ cs) e h = omega (arith, ap (λ (n : ℕ). k * n) e, runs-on-most cs 0 0 c (omega arith) (omega arith) (h 0 (omega arith)) (λ i g. h (suc i) (omega arith)))

-- ---- of the rows of a table

module _ {w : Table} (f : WellFormed w) {q : ℕ} (h : q < w.count) where
  pub number_short : length (decimal q) ≤ 4
  number_short = decimal-short 3 q (omega (arith, f.few-rows))

  -- a text of at most k bytes for each run
  pub row-runs-most : (g : Run → List ℕ) (k : ℕ) → ((r : Run) → r.lo < 256 → r.hi < 256 → r.to < 1024 → length (g r) ≤ k)
      → length (flat (map g (runs (part q w.cells)))) ≤ k * 256
  row-runs-most g k each = runs-most g k 1024 each (part q w.cells) (part_length q w.cells (omega (arith, f.formed.cells-long))) below
    where
      below : (i : ℕ) → i < 256 → get_or (part q w.cells) i 0 < 1024
      below i b = rw part_at (omega (arith, f.formed.cells-rows (256 * q + i) (omega arith), f.few-rows))
