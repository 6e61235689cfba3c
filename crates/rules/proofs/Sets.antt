-- Sets as numbers: what `with` adds, what two sets have, and that sets with the same members are one number.
use mathlib.Core.Path.{◌≡◌, refl, ◌∙◌, sym, ap}
use mathlib.Core.Logic.{◌≢◌, ◌⊎◌, inl, inr}
use mathlib.Core.Bool.{true, false, ◌&&◌, ◌||◌}
use Prim.Native.Nat.{ℕ, zero, suc, ◌+◌, ◌/◌, ◌%◌, ◌<◌, ◌≤◌, ◌^◌}
use native.Mathlib.Nat.{pow-succ', div-one, div-div-eq-div-mul}
use native.Mathlib.Decide.{ℕ_discrete}
use native.Mathlib.Omega.{arith}
use lib.Bits.{bit_and, bit_or, and_shr, or_shr, and_mod, or_mod}
use lib.Dec.{T, eqb, eqb→eq}
use Rattle.rules.specs.Tools.{has, with}
use Rattle.rules.proofs.Tests.{eq_test, by-test}

-- ---- bits

abbrev pub bit : ℕ → ℕ → ℕ
bit m k = m / 2 ^ k % 2

pub bit-zero : (m : ℕ) → bit m 0 ≡ m % 2
bit-zero m = ap (λ (x : ℕ). x % 2) (div-one m)

pub bit-suc : (m k : ℕ) → bit m (suc k) ≡ bit (m / 2) k
bit-suc m k = ap (λ (x : ℕ). x % 2) (ap (λ (x : ℕ). m / x) (pow-succ' 2 k) ∙ sym (div-div-eq-div-mul m 2 (2 ^ k)))

-- a bit is 1 where the set has the number, else 0
pub has-bit : (m k : ℕ) → T (has m k) → bit m k ≡ 1
has-bit m k = eqb→eq (bit m k) 1

pub bit-has : (m k : ℕ) → bit m k ≡ 1 → T (has m k)
bit-has m k = eq_test (bit m k) 1

pub not-bit : (m k : ℕ) → (T (has m k) → ⊥) → bit m k ≡ 0
not-bit m k n = zero-or-one (λ e. n (bit-has m k e))
  where
    zero-or-one : bit m k ≢ 1 → bit m k ≡ 0
    zero-or-one h = omega arith

half_pow : (m k : ℕ) → (m + 2 ^ suc k) / 2 ≡ m / 2 + 2 ^ k
half_pow m k = omega arith

-- 2 ^ k added where bit k is 0: bit k becomes 1, the others stay
bit_added : (k m : ℕ) → bit m k ≡ 0 → bit (m + 2 ^ k) k ≡ 1
bit_added zero m h = omega (arith, bit-zero m, bit-zero (m + 1))
bit_added (suc k) m h = bit-suc (m + 2 ^ suc k) k ∙ ap (λ (x : ℕ). bit x k) (half_pow m k) ∙ bit_added k (m / 2) (sym (bit-suc m k) ∙ h)

bit-other : (k j m : ℕ) → bit m k ≡ 0 → j ≢ k → bit (m + 2 ^ k) j ≡ bit m j
bit-other zero zero m h n = absurd (n refl)
bit-other zero (suc j) m h n = bit-suc (m + 1) j ∙ ap (λ (x : ℕ). bit x j) even ∙ sym (bit-suc m j)
  where
    even : (m + 1) / 2 ≡ m / 2
    even = omega (arith, bit-zero m)
bit-other (suc k) zero m h n = omega (arith, bit-zero m, bit-zero (m + 2 ^ suc k))
bit-other (suc k) (suc j) m h n =
    bit-suc (m + 2 ^ suc k) j ∙ ap (λ (x : ℕ). bit x j) (half_pow m k)
    ∙ bit-other k j (m / 2) (sym (bit-suc m k) ∙ h) (λ e. n (ap suc e)) ∙ sym (bit-suc m j)

added-lt : (n k m : ℕ) → k < n → m < 2 ^ n → bit m k ≡ 0 → m + 2 ^ k < 2 ^ n
added-lt zero k m l hm h = absurd (omega arith)
added-lt (suc n) zero m l hm h = omega (arith, bit-zero m)
added-lt (suc n) (suc k) m l hm h = omega (arith, half_pow m k, added-lt n k (m / 2) (omega arith) (omega arith) (sym (bit-suc m k) ∙ h))

-- ---- sets with the same members are one number

same_bits : (n m q : ℕ) → m < 2 ^ n → q < 2 ^ n → ((k : ℕ) → bit m k ≡ bit q k) → m ≡ q
same_bits zero m q hm hq h = omega arith
same_bits (suc n) m q hm hq h = whole (same_bits n (m / 2) (q / 2) (omega arith) (omega arith) (λ k. sym (bit-suc m k) ∙ h (suc k) ∙ bit-suc q k))
  where
    whole : m / 2 ≡ q / 2 → m ≡ q
    whole e = omega (arith, h 0, bit-zero m, bit-zero q)

pub same-members : (n m q : ℕ) → m < 2 ^ n → q < 2 ^ n → ((k : ℕ) → T (has m k) → T (has q k)) → ((k : ℕ) → T (has q k) → T (has m k)) → m ≡ q
same-members n m q hm hq to fro = same_bits n m q hm hq (λ k. by-test (has m k) (λ b. bit m k ≡ bit q k)
    (λ h. has-bit m k h ∙ sym (has-bit q k (to k h))) (λ h. not-bit m k h ∙ sym (not-bit q k (λ g. h (fro k g)))))

-- ---- one number more

module _ (m k : ℕ) where
  -- a statement about `with m k`, in its two cases
  with-case : (C : ℕ → Type 0) → (T (has m k) → C m) → (bit m k ≡ 0 → C (m + 2 ^ k)) → C (with m k)
  with-case C f g = by-test (has m k) (λ b. C (elim b [ true ↦ m | false ↦ m + 2 ^ k ])) f (λ h. g (not-bit m k h))

  pub with-has : T (has (with m k) k)
  with-has = with-case (λ x. T (has x k)) (λ h. h) (λ h. bit-has (m + 2 ^ k) k (bit_added k m h))

  pub with-keeps : (j : ℕ) → T (has m j) → T (has (with m k) j)
  with-keeps j hj = with-case (λ x. T (has x j)) (λ h. hj) (λ h. bit-has (m + 2 ^ k) j (bit-other k j m h (other h) ∙ has-bit m j hj))
    where
      other : bit m k ≡ 0 → j ≢ k
      other h e = omega (arith, has-bit m j hj, ap (λ (x : ℕ). bit m x) e)

  pub with-only : (j : ℕ) → T (has (with m k) j) → (j ≡ k) ⊎ T (has m j)
  with-only j = with-case (λ x. T (has x j) → (j ≡ k) ⊎ T (has m j)) (λ h g. inr g) (λ h g. pick h g (ℕ_discrete j k))
    where
      pick : bit m k ≡ 0 → T (has (m + 2 ^ k) j) → Dec (j ≡ k) → (j ≡ k) ⊎ T (has m j)
      pick h g (yes e) = inl e
      pick h g (no ne) = inr (bit-has m j (sym (bit-other k j m h ne) ∙ has-bit (m + 2 ^ k) j g))

  pub with-ge : m ≤ with m k
  with-ge = with-case (λ x. m ≤ x) (λ h. omega arith) (λ h. omega arith)

  pub with-lt : (n : ℕ) → k < n → m < 2 ^ n → with m k < 2 ^ n
  with-lt n l hm = with-case (λ x. x < 2 ^ n) (λ h. hm) (λ h. added-lt n k m l hm h)

-- ---- the set of nothing, and the set of 0 alone

pub zero_has : (k : ℕ) → T (has 0 k) → ⊥
zero_has k h = omega (arith, zero_bit k, has-bit 0 k h)
  where
    zero_bit : (k : ℕ) → bit 0 k ≡ 0
    zero_bit zero = refl
    zero_bit (suc k) = bit-suc 0 k ∙ zero_bit k

pub one_has : (k : ℕ) → T (has 1 k) → k ≡ 0
one_has zero h = refl
one_has (suc k) h = absurd (zero_has k (bit-has 0 k (sym (bit-suc 1 k) ∙ has-bit 1 (suc k) h)))

-- ---- what either of two sets has, and what both have

-- a statement about the lowest bit of a number, or of two, in its cases
of-bit : (C : ℕ → Type 0) → C 0 → C 1 → (m : ℕ) → C (m % 2)
of-bit C f g m = go (m % 2) (omega arith)
  where
    go : (x : ℕ) → x < 2 → C x
    go zero l = f
    go (suc zero) l = g
    go (suc (suc x)) l = absurd (omega arith)

of-bits : (C : ℕ → ℕ → Type 0) → C 0 0 → C 0 1 → C 1 0 → C 1 1 → (m q : ℕ) → C (m % 2) (q % 2)
of-bits C a b c d m q = of-bit (λ x. C x (q % 2)) (of-bit (C 0) a b q) (of-bit (C 1) c d q) m

pub has-or : (m q k : ℕ) → has (bit_or m q) k ≡ (has m k || has q k)
has-or m q k = ap (λ (x : ℕ). eqb (x % 2) 1) (or_shr m q k) ∙ ap (λ (x : ℕ). eqb x 1) (or_mod (m / 2 ^ k) (q / 2 ^ k) 1)
    ∙ of-bits (λ x y. eqb (bit_or x y) 1 ≡ (eqb x 1 || eqb y 1)) refl refl refl refl (m / 2 ^ k) (q / 2 ^ k)

pub has-and : (m q k : ℕ) → has (bit_and m q) k ≡ (has m k && has q k)
has-and m q k = ap (λ (x : ℕ). eqb (x % 2) 1) (and_shr m q k) ∙ ap (λ (x : ℕ). eqb x 1) (and_mod (m / 2 ^ k) (q / 2 ^ k) 1)
    ∙ of-bits (λ x y. eqb (bit_and x y) 1 ≡ (eqb x 1 && eqb y 1)) refl refl refl refl (m / 2 ^ k) (q / 2 ^ k)
