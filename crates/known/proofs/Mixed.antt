-- Words mixed, and the bucket of a set.
use mathlib.Core.Path.{◌≡◌, refl, sym, ap, ◌∙◌}
use mathlib.Core.Logic.{◌≢◌}
use mathlib.Core.Bool.{Bool, true, false}
use mathlib.Core.List.{List, [], ◌∷◌}
use Prim.Native.Nat.{ℕ, zero, suc, ◌+◌, ◌*◌, ◌≤◌, ◌<◌}
use native.Mathlib.Decide.{ℕ_discrete}
use native.Mathlib.Nat.{add-zero}
use native.Mathlib.Numerals.{add-one}
use native.Mathlib.Omega.{arith}
use borrow.Author.Tests.{eq-eqb, ne_eqb}
use lib.Bits.{bit_xor, xor_zero_l}
use lib.ListN.{length, get_or, drop}
use lib.Seq.{drop-cons, get_or-drop, ext_get_or}
use Rattle.mixing.specs.Mixing.{buckets, mixed, bucket_for}
use Rattle.nodesets.specs.NodeSets.{Within}
use Rattle.known.specs.Known.{mixed_in, all_mixed, bucket_in, bucket_of}

module _ (h i x : ℕ) where
  pub mixed-past : x ≡ 0 → h ≡ mixed_in h i x
  unfolding mixed_in
  mixed-past e = sym (ap (λ (b : Bool). elim b [ true ↦ h | false ↦ mixed (bit_xor h x) + i * 2246822519 ]) (eq-eqb x 0 e))

  pub mixed-word : x ≢ 0 → mixed (bit_xor h x) + i * 2246822519 ≡ mixed_in h i x
  unfolding mixed_in
  mixed-word ne = sym (ap (λ (b : Bool). elim b [ true ↦ h | false ↦ mixed (bit_xor h x) + i * 2246822519 ]) (ne_eqb x 0 ne))

-- ---- words that are not in use

mixed-unused : (ws : List ℕ) (n i h : ℕ) → n ≤ length ws → ((j : ℕ) → j < n → get_or ws j 0 ≡ 0) → all_mixed h (i + n) (drop n ws) ≡ all_mixed h i ws
unfolding all_mixed
mixed-unused ws zero i h l z = ap (λ (k : ℕ). all_mixed h k ws) (add-zero i)
mixed-unused [] (suc n) i h l z = absurd (omega arith)
mixed-unused (x ∷ ws) (suc n) i h l z = ap (λ (k : ℕ). all_mixed h k (drop n ws)) shift ∙ mixed-unused ws n (suc i) h (omega arith) (λ j m. z (suc j) (omega arith))
    ∙ ap (λ (g : ℕ). all_mixed g (suc i) ws) (mixed-past h i x (z 0 (omega arith)))
  where
    shift : i + suc n ≡ suc i + n
    shift = omega arith

mixed-none : (ws : List ℕ) (i h : ℕ) → ((j : ℕ) → get_or ws j 0 ≡ 0) → all_mixed h i ws ≡ h
unfolding all_mixed
mixed-none [] i h z = refl
mixed-none (x ∷ ws) i h z = ap (λ (g : ℕ). all_mixed g (suc i) ws) (sym (mixed-past h i x (z 0))) ∙ mixed-none ws (suc i) h (λ j. z (suc j))

-- ---- the words so far, and what is left to mix in

module _ (words : List ℕ) where
  pub mixed-first : {from to : ℕ} → Within from to words → all_mixed 0 from (drop from words) ≡ all_mixed 0 0 words
  mixed-first {from} W = ap (λ (k : ℕ). all_mixed 0 k (drop from words)) at_first ∙ mixed-unused words from 0 0 (omega (arith, W.low, W.high)) W.before
    where
      at_first : from ≡ 0 + from
      at_first = omega arith

  module _ (i h : ℕ) where
    pub mixed-more : {g : ℕ} → i < length words → g ≡ mixed_in h i (get_or words i 0) → all_mixed h i (drop i words) ≡ all_mixed 0 0 words
        → all_mixed g (i + 1) (drop (i + 1) words) ≡ all_mixed 0 0 words
    unfolding all_mixed
    mixed-more l e k = rw (e, add-one) (ap (all_mixed h i) (sym (drop-cons words i 0 l)) ∙ k)

    pub mixed-end : {from to : ℕ} → Within from to words → to ≤ i → all_mixed h i (drop i words) ≡ all_mixed 0 0 words → h ≡ all_mixed 0 0 words
    mixed-end W l k = sym (mixed-none (drop i words) i h (λ j. get_or-drop i words j 0 ∙ W.after (i + j) (omega arith))) ∙ k

-- ---- the bucket

module _ (words : List ℕ) {h : ℕ} (e : h ≡ all_mixed 0 0 words) where
  pub bucket-none : h ≡ 0 → buckets ≡ bucket_of words
  unfolding bucket_of
  bucket-none z = sym (ap bucket_in (sym e ∙ z))

  pub bucket-some : {k : ℕ} → h ≢ 0 → k ≡ bucket_for h → k ≡ bucket_of words
  unfolding bucket_of
  bucket-some ne q = q ∙ sym (ap (λ (b : Bool). elim b [ true ↦ buckets | false ↦ bucket_for h ]) (ne_eqb h 0 ne)) ∙ ap bucket_in e

bucket-in : (h : ℕ) → Dec (h ≡ 0) → bucket_in h ≡ buckets → h ≡ 0
bucket-in h (yes e) q = e
bucket-in h (no ne) q = absurd (omega (arith, is))
  where
    is : bucket_in h ≡ bucket_for h
    is = ap (λ (b : Bool). elim b [ true ↦ buckets | false ↦ bucket_for h ]) (ne_eqb h 0 ne)

-- ---- the empty set

-- what is mixed comes to 0 only where no word is in use
zero-past : (ws : List ℕ) (i h : ℕ) → 0 < i → all_mixed h i ws ≡ 0 → (h ≡ 0) × ((j : ℕ) → get_or ws j 0 ≡ 0)
unfolding all_mixed
zero-past [] i h l e = (e, λ j. refl)
zero-past (x ∷ ws) i h l e = go (zero-past ws (suc i) (mixed_in h i x) (omega arith) e) (ℕ_discrete x 0)
  where
    go : (mixed_in h i x ≡ 0) × ((j : ℕ) → get_or ws j 0 ≡ 0) → Dec (x ≡ 0) → (h ≡ 0) × ((j : ℕ) → get_or (x ∷ ws) j 0 ≡ 0)
    go r (yes q) = (mixed-past h i x q ∙ r.0, λ j. each j)
      where
        each : (j : ℕ) → get_or (x ∷ ws) j 0 ≡ 0
        each zero = q
        each (suc j) = r.1 j
    go r (no n) = absurd (omega (arith, mixed-word h i x n, r.0))

mixed-zero : (x : ℕ) → mixed x ≡ 0 → x ≡ 0
mixed-zero x e = omega arith

zero-unused : (ws : List ℕ) → all_mixed 0 0 ws ≡ 0 → (j : ℕ) → get_or ws j 0 ≡ 0
unfolding all_mixed
zero-unused [] e j = refl
zero-unused (x ∷ ws) e j = go j (ℕ_discrete x 0)
  where
    rest : (mixed_in 0 0 x ≡ 0) × ((j : ℕ) → get_or ws j 0 ≡ 0)
    rest = zero-past ws 1 (mixed_in 0 0 x) (omega arith) e

    go : (j : ℕ) → Dec (x ≡ 0) → get_or (x ∷ ws) j 0 ≡ 0
    go zero (yes q) = q
    go zero (no n) = mixed-zero x (ap mixed (sym (xor_zero_l x)) ∙ omega (arith, mixed-word 0 0 x n, rest.0))
    go (suc j) d = rest.1 j

unused : (ws : List ℕ) → bucket_of ws ≡ buckets → (j : ℕ) → get_or ws j 0 ≡ 0
unfolding bucket_of
unused ws e = zero-unused ws (bucket-in (all_mixed 0 0 ws) (ℕ_discrete (all_mixed 0 0 ws) 0) e)

-- sets of its bucket are the same
pub empty-same : (a b : List ℕ) → length a ≡ length b → bucket_of a ≡ buckets → bucket_of b ≡ buckets → a ≡ b
empty-same a b l ea eb = ext_get_or 0 a b l (λ j m. unused a ea j ∙ sym (unused b eb j))

pub bucket-empty : (ws : List ℕ) → ((j : ℕ) → get_or ws j 0 ≡ 0) → bucket_of ws ≡ buckets
bucket-empty ws z = sym (bucket-none ws (sym (mixed-none ws 0 0 z)) refl)
