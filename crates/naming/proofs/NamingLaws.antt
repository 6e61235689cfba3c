-- Classes named by their least rows, row by row.
use mathlib.Core.Path.{◌≡◌, refl, sym, ap, ◌∙◌, subst}
use mathlib.Core.Logic.{◌⊎◌, inl, inr, ⊎_elim, ◌≢◌}
use mathlib.Core.List.{List}
use Prim.Native.Nat.{ℕ, ◌+◌, ◌≤◌, ◌<◌}
use native.Mathlib.Decide.{ℕ_discrete}
use native.Mathlib.Omega.{arith}
use borrow.Author.Count.{below_more}
use lib.ListN.{length, get_or, set, length-set}
use lib.Seq.{get_or-set_same, get_or-set_other}
use Rattle.rules.specs.Sizes.{rows_most}
use Rattle.naming.specs.Naming.{LeastOf, FirstOf, NamedTo, Numbers}

module _ {number first class : List ℕ} {r : ℕ} (N : NamedTo number first class r) (U : Numbers number) (lr : r < length number) where
  in-class : r < length class
  in-class = omega (arith, N.class-long)

  -- a class that has come: its least row is r's name
  pub named_again : get_or first (get_or number r 0) 0 < r → NamedTo number first (set class r (get_or first (get_or number r 0) 0)) (r + 1)
  named_again l = record {
    first-long = N.first-long;
    class-long = length-set class r (get_or first (get_or number r 0) 0) ∙ N.class-long;
    known = λ c h. keep c (N.known c h) (ℕ_discrete (get_or number r 0) c);
    least = below_more (λ j. LeastOf number j (get_or (set class r (get_or first (get_or number r 0) 0)) j 0)) r
        (λ j lj. subst (LeastOf number j) (sym (get_or-set_other class r j (get_or first (get_or number r 0) 0) 0 (omega arith))) (N.least j lj))
        (subst (LeastOf number r) (sym (get_or-set_same class r (get_or first (get_or number r 0) 0) 0 in-class)) (own (N.known (get_or number r 0) (U.low r lr))));
  }
    where
      own : FirstOf number first r (get_or number r 0) → LeastOf number r (get_or first (get_or number r 0) 0)
      own k = ⊎_elim (λ x. absurd (omega (arith, x.0, l, U.few))) (λ x. record { below = omega (arith, x.0); like = x.1; none = x.2 }) k

      keep : (c : ℕ) → FirstOf number first r c → Dec (get_or number r 0 ≡ c) → FirstOf number first (r + 1) c
      keep c k (yes e) = ⊎_elim (λ x. absurd (omega (arith, x.0, subst (λ (z : ℕ). get_or first z 0 < r) e l, U.few))) (λ x. inr (omega (arith, x.0), x.1, x.2)) k
      keep c k (no e) = ⊎_elim (λ x. inl (x.0, below_more (λ j. get_or number j 0 ≢ c) r x.1 e)) (λ x. inr (omega (arith, x.0), x.1, x.2)) k

  -- a class that comes first with row r
  pub named_first : r ≤ get_or first (get_or number r 0) 0 → NamedTo number (set first (get_or number r 0) r) (set class r r) (r + 1)
  named_first l = record {
    first-long = length-set first (get_or number r 0) r ∙ N.first-long;
    class-long = length-set class r r ∙ N.class-long;
    known = λ c h. keep c (N.known c h) (ℕ_discrete (get_or number r 0) c);
    least = below_more (λ j. LeastOf number j (get_or (set class r r) j 0)) r
        (λ j lj. subst (LeastOf number j) (sym (get_or-set_other class r j r 0 (omega arith))) (N.least j lj))
        (subst (LeastOf number r) (sym (get_or-set_same class r r 0 in-class)) (record { below = omega arith; like = refl; none = none }));
  }
    where
      none : (j : ℕ) → j < r → get_or number j 0 ≢ get_or number r 0
      none j lj = ⊎_elim (λ x. x.1 j lj) (λ x. absurd (omega (arith, x.0, l))) (N.known (get_or number r 0) (U.low r lr))

      here : get_or (set first (get_or number r 0) r) (get_or number r 0) 0 ≡ r
      here = get_or-set_same first (get_or number r 0) r 0 (omega (arith, N.first-long, U.low r lr))

      own : FirstOf number (set first (get_or number r 0) r) (r + 1) (get_or number r 0)
      own = inr (omega (arith, here), ap (λ (x : ℕ). get_or number x 0) here, λ j lj. none j (omega (arith, here, lj)))

      keep : (c : ℕ) → FirstOf number first r c → Dec (get_or number r 0 ≡ c) → FirstOf number (set first (get_or number r 0) r) (r + 1) c
      keep c k (yes e) = subst (FirstOf number (set first (get_or number r 0) r) (r + 1)) e own
      keep c k (no e) = subst (λ (f : ℕ). ((f ≡ rows_most) × ((j : ℕ) → j < r + 1 → get_or number j 0 ≢ c)) ⊎ ((f < r + 1) × (get_or number f 0 ≡ c) × ((j : ℕ) → j < f → get_or number j 0 ≢ c)))
          (sym (get_or-set_other first (get_or number r 0) c r 0 (λ q. e (sym q))))
          (⊎_elim (λ x. inl (x.0, below_more (λ j. get_or number j 0 ≢ c) r x.1 e)) (λ x. inr (omega (arith, x.0), x.1, x.2)) k)
