-- Laws of numbers in decimal: the last digit, and how many digits there are.
use mathlib.Core.Path.{◌≡◌, refl, ap, ◌∙◌}
use mathlib.Core.Bool.{Bool, true, false}
use mathlib.Core.List.{List, [], ◌∷◌, ◌++◌}
use Prim.Native.Nat.{ℕ, zero, suc, ◌+◌, ◌/◌, ◌%◌, ◌^◌, ◌≤◌, ◌<◌}
use native.Mathlib.Nat.{pow-suc}
use native.Mathlib.Decide.{dec_lt}
use native.Mathlib.Omega.{arith}
use borrow.Author.Tests.{lt-ltb, le-ltb, ltb-false}
use lib.Dec.{ltb}
use lib.ListN.{length, length-append}
use Rattle.rules.specs.Listing.{digits_of, decimal}

abbrev digit : ℕ → List ℕ
digit n = (48 + n) ∷ []

digits-enough : (f g n : ℕ) → n < f → n < g → digits_of f n ≡ digits_of g n
digits-enough zero g n a b = absurd (omega (arith, a))
digits-enough (suc f) zero n a b = absurd (omega (arith, b))
digits-enough (suc f) (suc g) n a b = go (ltb n 10) refl (digits-enough f g (n / 10))
  where
    go : (t : Bool) → ltb n 10 ≡ t → (n / 10 < f → n / 10 < g → digits_of f (n / 10) ≡ digits_of g (n / 10))
        → ◌≡◌ {A = List ℕ} (elim t [ true ↦ digit n | false ↦ digits_of f (n / 10) ++ digit (n % 10) ]) (elim t [ true ↦ digit n | false ↦ digits_of g (n / 10) ++ digit (n % 10) ])
    go true e rec = refl
    go false e rec = let big : 10 ≤ n = ltb-false n 10 e in ap (λ (l : List ℕ). l ++ digit (n % 10)) (rec (omega arith) (omega arith))

pub decimal_digit : (n : ℕ) → n < 10 → decimal n ≡ digit n
unfolding decimal
decimal_digit n h = ap (λ (t : Bool). elim t [ true ↦ digit n | false ↦ digits_of n (n / 10) ++ digit (n % 10) ]) (lt-ltb n 10 h)

pub decimal-more : (n : ℕ) → 10 ≤ n → decimal n ≡ decimal (n / 10) ++ digit (n % 10)
unfolding decimal
decimal-more n h =
    ap (λ (t : Bool). elim t [ true ↦ digit n | false ↦ digits_of n (n / 10) ++ digit (n % 10) ]) (le-ltb n 10 h)
    ∙ ap (λ (l : List ℕ). l ++ digit (n % 10)) (digits-enough n (suc (n / 10)) (n / 10) (omega arith) (omega arith))

pub decimal-length : (n : ℕ) → 10 ≤ n → length (decimal n) ≡ length (decimal (n / 10)) + 1
decimal-length n h = ap length (decimal-more n h) ∙ length-append (decimal (n / 10)) (digit (n % 10))

-- a number below 10 ^ k has at most k digits
pub decimal-short : (k n : ℕ) → n < 10 ^ suc k → length (decimal n) ≤ suc k
decimal-short zero n h = omega (arith, ap length (decimal_digit n (omega (arith, h))))
decimal-short (suc k) n h = go (dec_lt n 10) (decimal-short k (n / 10))
  where
    go : Dec (n < 10) → (n / 10 < 10 ^ suc k → length (decimal (n / 10)) ≤ suc k) → length (decimal n) ≤ suc (suc k)
    go (yes l) rec = omega (arith, ap length (decimal_digit n l))
    go (no l) rec = omega (arith, rec (omega (arith, h, pow-suc 10 (suc k))), decimal-length n (omega arith))
