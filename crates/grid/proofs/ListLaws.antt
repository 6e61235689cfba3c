-- Lists that are written place by place.
use mathlib.Core.Path.{sym, subst}
use mathlib.Core.List.{List}
use Prim.Native.Nat.{ℕ, ◌+◌, ◌<◌}
use native.Mathlib.Omega.{arith}
use borrow.Author.Count.{below_more}
use lib.ListN.{length, get_or, set}
use lib.Seq.{get_or-set_same, get_or-set_other}

-- what holds of each place before r, and of v at r, holds of each place up to r once v is written there
pub set_next : (P : ℕ → ℕ → Type 0) (xs : List ℕ) (r v : ℕ) → r < length xs → ((j : ℕ) → j < r → P j (get_or xs j 0)) → P r v → (j : ℕ) → j < r + 1 → P j (get_or (set xs r v) j 0)
set_next P xs r v l f h = below_more (λ j. P j (get_or (set xs r v) j 0)) r
    (λ j lj. subst (P j) (sym (get_or-set_other xs r j v 0 (omega arith))) (f j lj)) (subst (P r) (sym (get_or-set_same xs r v 0 l)) h)
