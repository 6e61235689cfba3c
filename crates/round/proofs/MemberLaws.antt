-- Rows of a set, one after the other.
use mathlib.Core.Path.{◌≡◌, refl, sym, ap, ◌∙◌, subst}
use mathlib.Core.Logic.{◌≢◌}
use mathlib.Core.Bool.{false}
use mathlib.Core.List.{List}
use Prim.Native.Nat.{ℕ, zero, suc, ◌+◌, ◌-◌, ◌*◌, ◌/◌, ◌%◌, ◌^◌, ◌≤◌, ◌<◌}
use native.Mathlib.Decide.{dec_lt}
use native.Mathlib.Nat.{div-eq_of_lt}
use native.Mathlib.Omega.{arith}
use lib.Count.{count_trailing_zeros, under}
use lib.Dec.{eqb}
use lib.ListN.{get_or}
use lib.Pow.{pow_pos, shr_lt, shr-shr}
use Rattle.rules.specs.Tools.{has}
use Rattle.rules.proofs.Sets.{bit, bit-zero, bit-suc}
use Rattle.sets.specs.Sets.{member}
use Rattle.round.specs.Members.{PastWord}

-- ---- trailing zeros

tz-in : (d e x : ℕ) → x ≢ 0 → x < 2 ^ e → count_trailing_zeros d x < e
unfolding count_trailing_zeros
tz-in d zero x ne l = absurd (ne (omega arith))
tz-in zero (suc e) x ne l = omega arith
tz-in (suc d) (suc e) x ne l = go (x % 2) refl (tz-in d e (x / 2))
  where
    go : (r : ℕ) → x % 2 ≡ r → (x / 2 ≢ 0 → x / 2 < 2 ^ e → count_trailing_zeros d (x / 2) < e) → under r (count_trailing_zeros d (x / 2)) < suc e
    go zero q rec = omega (arith, rec (λ z. ne (omega arith)) (omega arith))
    go (suc r) q rec = omega arith

tz-low : (d x j : ℕ) → j < count_trailing_zeros d x → bit x j ≡ 0
unfolding count_trailing_zeros
tz-low zero x j l = absurd (omega arith)
tz-low (suc d) x j l = go (x % 2) refl j l (tz-low d (x / 2))
  where
    go : (r : ℕ) → x % 2 ≡ r → (j : ℕ) → j < under r (count_trailing_zeros d (x / 2)) → ((i : ℕ) → i < count_trailing_zeros d (x / 2) → bit (x / 2) i ≡ 0) → bit x j ≡ 0
    go zero q zero l rec = bit-zero x ∙ q
    go zero q (suc j) l rec = bit-suc x j ∙ rec j (omega arith)
    go (suc r) q j l rec = absurd (omega arith)

-- ---- a place on in a word

module _ (word r : ℕ) where
  abbrev pub after : ℕ
  after = word / 2 ^ (r % 64) / 2

  after-bit : (j : ℕ) → r < j → j / 64 ≡ r / 64 → bit word (j % 64) ≡ bit after (j - r - 1)
  after-bit j l e = ap (λ (k : ℕ). bit word k) place ∙ ap (λ (x : ℕ). x % 2) (sym (shr-shr word (r % 64) (suc (j - r - 1)))) ∙ bit-suc (word / 2 ^ (r % 64)) (j - r - 1)
    where
      place : j % 64 ≡ r % 64 + suc (j - r - 1)
      place = omega arith

  pub past-none : after ≡ 0 → PastWord word r (r / 64 * 64 + 64)
  past-none e = record {
    later = omega arith;
    none = λ j a b. (omega arith, ap (λ (x : ℕ). eqb x 1) (after-bit j a (omega arith) ∙ ap (λ (x : ℕ). bit x (j - r - 1)) e ∙ ap (λ (x : ℕ). x % 2) (div-eq_of_lt (pow_pos (j - r - 1)))));
  }

  pub past-some : after ≢ 0 → word < 2 ^ 64 → PastWord word r (r + 1 + count_trailing_zeros 64 after)
  past-some ne l = record {
    later = omega arith;
    none = λ j a b. (inside j a b, ap (λ (x : ℕ). eqb x 1) (after-bit j a (inside j a b) ∙ tz-low 64 after (j - r - 1) (omega arith)));
  }
    where
      high : word / 2 ^ (r % 64) < 2 ^ suc (63 - r % 64)
      high = let e : 64 ≡ suc (63 - r % 64) + r % 64 = omega arith in shr_lt (suc (63 - r % 64)) (r % 64) (subst (λ (k : ℕ). word < 2 ^ k) e l)

      inside : (j : ℕ) → r < j → j < r + 1 + count_trailing_zeros 64 after → j / 64 ≡ r / 64
      inside j a b = omega (arith, tz-in 64 (63 - r % 64) after ne (omega (arith, high)))

-- ---- none on the way

pub none-past : (set : List ℕ) {from r p : ℕ} → ((j : ℕ) → from ≤ j → j < r → member set j ≡ false) → member set r ≡ false → PastWord (get_or set (r / 64) 0) r p
    → (j : ℕ) → from ≤ j → j < p → member set j ≡ false
unfolding member
none-past set {from} {r} {p} f c P j a b = go (dec_lt j r) (dec_lt r j)
  where
    go : Dec (j < r) → Dec (r < j) → member set j ≡ false
    go (yes l) d = f j a l
    go (no l) (yes m) = ap (λ (x : ℕ). has (get_or set x 0) (j % 64)) (P.none j m b).0 ∙ (P.none j m b).1
    go (no l) (no m) = subst (λ (x : ℕ). member set x ≡ false) same c
      where
        same : r ≡ j
        same = omega arith
