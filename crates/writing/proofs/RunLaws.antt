-- Runs: one that is followed cell by cell, and what holds of the rows that they lead to.
use mathlib.Core.Path.{◌≡◌}
use mathlib.Core.Bool.{Bool, true, false}
use mathlib.Core.List.{List, [], ◌∷◌}
use Prim.Native.Nat.{ℕ, suc, ◌+◌, ◌≤◌, ◌<◌}
use native.Mathlib.Omega.{arith}
use lib.Dec.{eqb}
use lib.ListN.{length, get_or, drop}
use Rattle.std.specs.Prelude.{All}
use Rattle.std.proofs.lemmas.List.Elements.{All-nil, All-cons}
use Rattle.rules.specs.Listing.{Run, runs_on, runs}
use Rattle.writing.specs.Runs.{run_of, runs_from}

-- a run that begins at lo and lasts to hi at least
pub record Lasts (cells : List ℕ) (lo hi : ℕ) : Type 0 where
  pub from : lo ≤ hi
  pub inside : hi < length cells
  pub run : runs_from lo (drop lo cells) ≡ runs_on lo hi (get_or cells lo 0) (drop (hi + 1) cells)

-- ---- what holds of each cell holds of the row that each run leads to

module _ (P : ℕ → Type 0) where
  abbrev Leads : Run → Type 0
  Leads r = P r.to

  runs-on-all : (cs : List ℕ) (lo hi q : ℕ) → P q → ((i : ℕ) → i < length cs → P (get_or cs i 0)) → All Leads (runs_on lo hi q cs)
  runs-on-all [] lo hi q p h = All-cons Leads (run_of lo hi q) [] p (All-nil Leads)
  runs-on-all (c ∷ cs) lo hi q p h = go (eqb c q) (runs-on-all cs lo (suc hi) q p rest) (runs-on-all cs (suc hi) (suc hi) c (h 0 (omega arith)) rest)
    where
      rest : (i : ℕ) → i < length cs → P (get_or cs i 0)
      rest i g = h (suc i) (omega arith)

      go : (b : Bool) → All Leads (runs_on lo (suc hi) q cs) → All Leads (runs_on (suc hi) (suc hi) c cs)
          → All Leads (elim b [ true ↦ runs_on lo (suc hi) q cs | false ↦ run_of lo hi q ∷ runs_on (suc hi) (suc hi) c cs ])
      go true same other = same
      go false same other = All-cons Leads (run_of lo hi q) _ p other

  pub runs_all : (cs : List ℕ) → ((i : ℕ) → i < length cs → P (get_or cs i 0)) → All (λ r. P r.to) (runs cs)
  runs_all [] h = All-nil Leads
  runs_all (c ∷ cs) h = runs-on-all cs 0 0 c (h 0 (omega arith)) (λ i g. h (suc i) (omega arith))
