-- The listing's runs are the longest.
use mathlib.Core.Path.{◌≡◌, refl, ap}
use mathlib.Core.Bool.{Bool, true, false}
use mathlib.Core.List.{List, [], ◌∷◌, ◌++◌}
use Prim.Native.Nat.{ℕ, zero, suc, ◌+◌}
use native.Mathlib.Omega.{arith}
use lib.Dec.{eqb}
use borrow.Author.Tests.{eqb-true, eqb-false}
use Rattle.rules.specs.Tools.{copies}
use Rattle.rules.specs.Listing.{LongestRuns, end, run, runs_on, runs}

copies-on : (n q : ℕ) (cs : List ℕ) → copies n q ++ (q ∷ cs) ≡ copies (suc n) q ++ cs
copies-on zero q cs = refl
copies-on (suc n) q cs = ap (λ (l : List ℕ). q ∷ l) (copies-on n q cs)

runs-on : (cs : List ℕ) (b n q hi : ℕ) → hi ≡ b + n → LongestRuns b (copies (suc n) q ++ cs) (runs_on b hi q cs)
runs-on [] b n q hi e = rw e (run n end tt)
runs-on (c ∷ cs) b n q hi e = go (eqb c q) refl (runs-on cs b (suc n) q (suc hi) (omega arith)) (runs-on cs (suc hi) 0 c (suc hi) (omega arith))
  where
    go : (t : Bool) → eqb c q ≡ t → LongestRuns b (copies (suc (suc n)) q ++ cs) (runs_on b (suc hi) q cs) → LongestRuns (suc hi) (c ∷ cs) (runs_on (suc hi) (suc hi) c cs)
        → LongestRuns b (copies (suc n) q ++ (c ∷ cs)) (elim t [ true ↦ runs_on b (suc hi) q cs | false ↦ record { lo = b; hi = hi; to = q } ∷ runs_on (suc hi) (suc hi) c cs ])
    go true t same other = let z = eqb-true c q t in rw (z, copies-on (suc n) q cs) same
    go false t same other = rw e (run n (rw e at other) (eqb-false c q t))

pub runs-longest : (cs : List ℕ) → LongestRuns 0 cs (runs cs)
runs-longest [] = end
runs-longest (c ∷ cs) = runs-on cs 0 0 c 0 refl
