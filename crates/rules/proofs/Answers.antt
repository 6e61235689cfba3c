-- The four answers: for any rule there is only one of each, and what the table's rule gives is computed.
use mathlib.Core.Path.{◌≡◌, refl, sym, ap, ap₂, subst}
use mathlib.Core.Bool.{Bool}
use mathlib.Core.List.{List, [], ◌∷◌}
use mathlib.Core.Option.{Option, none, some}
use Prim.Native.Nat.{ℕ, zero, suc, ◌+◌, ◌-◌, ◌<◌, ◌≤◌}
use native.Mathlib.Omega.{arith}
use native.Mathlib.Decide.{ℕ_discrete}
use lib.Dec.{T}
use lib.ListN.{length}
use Rattle.rules.specs.Tools.{any, kept, last}
use Rattle.rules.specs.Meaning.{IsWhole, IsLongest, IsFirst, IsStarts}
use Rattle.rules.specs.Table.{Table, takes, Takes, whole, places, longest, starts, first}
use Rattle.rules.proofs.Tests.{both_ways}
use Rattle.rules.proofs.Lists.{at, Among, Passes, length-up_from, at-up_from, in-up_from, kept-up, kept-has, kept_at, any_some, some-any}

-- ---- only one of each

module _ (M : ℕ → ℕ → Type 0) where
  pub whole-only : (n : ℕ) (a b : Bool) → IsWhole M n a → IsWhole M n b → a ≡ b
  whole-only n a b x y = both_ways a b (λ h. y.1 (x.0 h), λ h. x.1 (y.0 h))

  pub longest-only : (s : ℕ) (a b : Option ℕ) → IsLongest M s a → IsLongest M s b → a ≡ b
  longest-only s none none x y = refl
  longest-only s none (some e) x y = absurd (x e y.0)
  longest-only s (some e) none x y = absurd (y e x.0)
  longest-only s (some d) (some e) x y = ap {B = Option ℕ} some (one (x.1 e y.0) (y.1 d x.0))
    where
      one : e ≤ d → d ≤ e → d ≡ e
      one a b = omega arith

  pub first-only : (a b : Option (ℕ × ℕ)) → IsFirst M a → IsFirst M b → a ≡ b
  first-only none none x y = refl
  first-only none (some b) x y = absurd (x b.0 b.1 y.0.0)
  first-only (some a) none x y = absurd (y a.0 a.1 x.0.0)
  first-only (some a) (some b) x y = ap₂ {C = Option (ℕ × ℕ)} (λ (s e : ℕ). some (s, e)) starts-one (ends-one x.0 (subst (λ (s : ℕ). IsLongest M s (some b.1)) (sym starts-one) y.0))
    where
      starts-one : a.0 ≡ b.0
      starts-one = omega (arith, x.1 b.0 b.1 y.0.0, y.1 a.0 a.1 x.0.0)

      ends-one : IsLongest M a.0 (some a.1) → IsLongest M a.0 (some b.1) → a.1 ≡ b.1
      ends-one p q = omega (arith, p.1 b.1 q.0, q.1 a.1 p.0)

abbrev Rising : List ℕ → Type 0
Rising xs = (i j : ℕ) → i < j → j < length xs → at xs i < at xs j

abbrev Within : List ℕ → List ℕ → Type 0
Within xs ys = (i : ℕ) → i < length xs → (j : ℕ) × (j < length ys) × (at ys j ≡ at xs i)

-- rising lists with the same numbers are one
rising-one : (xs ys : List ℕ) → Rising xs → Rising ys → Within xs ys → Within ys xs → xs ≡ ys
rising-one [] [] rx ry a b = refl
rising-one [] (y ∷ ys) rx ry a b = absurd (omega (arith, (b 0 (omega arith)).1))
rising-one (x ∷ xs) [] rx ry a b = absurd (omega (arith, (a 0 (omega arith)).1))
rising-one (x ∷ xs) (y ∷ ys) rx ry a b =
    ap₂ {C = List ℕ} (λ (n : ℕ) (l : List ℕ). n ∷ l) heads
    (rising-one xs ys (λ i j l h. rx (suc i) (suc j) (omega arith) (omega arith)) (λ i j l h. ry (suc i) (suc j) (omega arith) (omega arith))
    (tails x xs y ys rx a heads) (tails y ys x xs ry b (sym heads)))
  where
    least : (x : ℕ) (xs : List ℕ) → Rising (x ∷ xs) → (i : ℕ) → i < suc (length xs) → x ≤ at (x ∷ xs) i
    least x xs r zero l = omega arith
    least x xs r (suc i) l = omega (arith, r 0 (suc i) (omega arith) l)

    heads : x ≡ y
    heads = omega (arith, (a 0 (omega arith)).2, (b 0 (omega arith)).2, least y ys ry (a 0 (omega arith)).0 (a 0 (omega arith)).1, least x xs rx (b 0 (omega arith)).0 (b 0 (omega arith)).1)

    tails : (x : ℕ) (xs : List ℕ) (y : ℕ) (ys : List ℕ) → Rising (x ∷ xs) → Within (x ∷ xs) (y ∷ ys) → x ≡ y → Within xs ys
    tails x xs y ys r h e i l = go (h (suc i) (omega arith)).0 (h (suc i) (omega arith)).1 (h (suc i) (omega arith)).2
      where
        go : (j : ℕ) → j < suc (length ys) → at (y ∷ ys) j ≡ at xs i → (j : ℕ) × (j < length ys) × (at ys j ≡ at xs i)
        go zero lj q = absurd (omega (arith, r 0 (suc i) (omega arith) (omega arith)))
        go (suc j) lj q = (j, omega arith, q)

pub starts-only : {M : ℕ → ℕ → Type 0} (xs ys : List ℕ) → IsStarts M xs → IsStarts M ys → xs ≡ ys
starts-only xs ys x y = rising-one xs ys x.ascending y.ascending
    (λ i l. y.complete (at xs i) (x.sound i l).0 (x.sound i l).1) (λ i l. x.complete (at ys i) (y.sound i l).0 (y.sound i l).1)

-- ---- what is computed

last-case : (C : Option ℕ → Type 0) (xs : List ℕ) → (length xs ≡ 0 → C none) → ((k : ℕ) → suc k ≡ length xs → C (some (at xs k))) → C (last xs)
last-case C [] a b = a refl
last-case C (x ∷ []) a b = b 0 refl
last-case C (x ∷ y ∷ xs) a b = last-case C (y ∷ xs) (λ e. absurd (omega (arith, e))) (λ k e. b (suc k) (ap suc e))

module _ (w : Table) (t : List ℕ) where
  pub whole_is : IsWhole (Takes w t) (length t) (whole w t)
  unfolding whole
  whole_is = (λ h. (omega arith, omega arith, h), λ h. h.2)

  abbrev ends : ℕ → List ℕ
  ends s = kept (takes w t s) (places t s)

  end-in : (s e : ℕ) → Takes w t s e → Among e (ends s)
  end-in s e h = kept-has (takes w t s) s (1 + length t - s) e (h.0, omega (arith, h.0, h.1), h.2)

  end-takes : (s k : ℕ) → k < length (ends s) → Takes w t s (at (ends s) k)
  end-takes s k l = let x : Passes (takes w t s) s (1 + length t - s) (at (ends s) k) = kept_at (takes w t s) s (1 + length t - s) k l in
      (x.0, omega (arith, x.0, x.1), x.2)

  pub longest-is : (s : ℕ) → IsLongest (Takes w t) s (longest w t s)
  unfolding Among longest
  longest-is s = last-case (IsLongest (Takes w t) s) (ends s) (λ z e h. omega (arith, z, (end-in s e h).1)) (λ k z. (end-takes s k (omega arith), λ d h. most k z d (end-in s d h)))
    where
      most : (k : ℕ) → suc k ≡ length (ends s) → (d : ℕ) → Among d (ends s) → d ≤ at (ends s) k
      most k z d x = go (ℕ_discrete x.0 k)
        where
          go : Dec (x.0 ≡ k) → d ≤ at (ends s) k
          go (yes q) = omega (arith, x.2, ap {B = ℕ} (λ (i : ℕ). at (ends s) i) q)
          go (no n) = omega (arith, x.2, kept-up (takes w t s) s (1 + length t - s) x.0 k (omega (arith, x.1)) (omega arith))

  -- some stretch from s is taken
  abbrev begun : ℕ → Bool
  begun s = any (takes w t s) (places t s)

  begun-takes : (s : ℕ) → T (begun s) → (e : ℕ) × Takes w t s e
  begun-takes s h =
      let x : (i : ℕ) × (i < length (places t s)) × T (takes w t s (at (places t s) i)) = any_some (takes w t s) (places t s) 0 h in
      let l : x.0 < 1 + length t - s = subst (λ (n : ℕ). x.0 < n) (length-up_from s (1 + length t - s)) x.1 in
      (s + x.0, (omega arith, omega arith, subst (λ (e : ℕ). T (takes w t s e)) (at-up_from s (1 + length t - s) x.0 l) x.2))

  takes-begun : (s e : ℕ) → Takes w t s e → T (begun s)
  takes-begun s e h =
      let y : (e - s < length (places t s)) × (at (places t s) (e - s) ≡ e) = in-up_from s (1 + length t - s) e h.0 (omega (arith, h.0, h.1)) in
      some-any (takes w t s) (places t s) (e - s) 0 y.0 (subst (λ (z : ℕ). T (takes w t s z)) (sym y.1) h.2)

  pub starts_is : IsStarts (Takes w t) (starts w t)
  unfolding Among starts
  starts_is = record {
    sound = λ i l. begun-takes (at (starts w t) i) (kept_at begun 0 (1 + length t - 0) i l).2;
    complete = λ s e h. kept-has begun 0 (1 + length t - 0) s (omega arith, omega (arith, h.0, h.1), takes-begun s e h);
    ascending = λ i j l h. kept-up begun 0 (1 + length t - 0) i j l h;
  }

  pub first-is : IsFirst (Takes w t) (first w t)
  unfolding first
  first-is = go (starts w t) starts_is
    where
      go : (xs : List ℕ) → IsStarts (Takes w t) xs → IsFirst (Takes w t) (elim xs [ [] ↦ none | s ∷ ss ↦ elim (longest w t s) [ none ↦ none | some e ↦ some (s, e) ] ])
      go [] h = λ s e x. absurd (omega (arith, (h.complete s e x).1))
      go (s ∷ ss) h = ended (longest w t s) (longest-is s)
        where
          least : (s' e : ℕ) → Takes w t s' e → s ≤ s'
          least s' e x = by_place (h.complete s' e x).0 (h.complete s' e x).1 (h.complete s' e x).2
            where
              by_place : (i : ℕ) → i < suc (length ss) → at (s ∷ ss) i ≡ s' → s ≤ s'
              by_place zero l q = omega arith
              by_place (suc i) l q = omega (arith, h.ascending 0 (suc i) (omega arith) l)

          ended : (o : Option ℕ) → IsLongest (Takes w t) s o → IsFirst (Takes w t) (elim o [ none ↦ none | some e ↦ some (s, e) ])
          ended none x = absurd (x (h.sound 0 (omega arith)).0 (h.sound 0 (omega arith)).1)
          ended (some e) x = (x, least)
