-- Numbers and counts.
use mathlib.Core.Path.{◌≡◌, refl, ap, ◌∙◌}
use mathlib.Core.Bool.{Bool, true, false}
use mathlib.Core.List.{List, [], ◌∷◌}
use mathlib.Core.Option.{Option, none, some}
use Prim.Native.Nat.{ℕ, zero, suc, ◌+◌, ◌*◌, ◌≤◌, ◌<◌}
use native.Mathlib.Decide.{dec_lt}
use native.Mathlib.Omega.{arith}
use lib.Dec.{leb}
use lib.ListN.{length, get_or, drop}
use Rattle.rules.specs.Tools.{guard}
use Rattle.rules.specs.Sizes.{count_most}
use Rattle.rules.specs.Signs.{digit}
use Rattle.rules.specs.Reader.{digits, number}
use Rattle.signs.specs.Answers.{first_of, Reads}
use Rattle.signs.specs.Counts.{limited}
use Rattle.signs.proofs.Places.{here, at-end}

-- a digit that is found stands at a place of the pattern
first-here : (p : List ℕ) (i : ℕ) {x : ℕ} → first_of digit (drop i p) ≡ some x → (i < length p) × (digit (get_or p i 0) ≡ some x)
first-here p i {x} e = go (dec_lt i (length p))
  where
    go : Dec (i < length p) → (i < length p) × (digit (get_or p i 0) ≡ some x)
    go (yes h) = (h, rw (here p i h) at e)
    go (no h) = let n : length p ≤ i = omega arith in let q = rw (at-end p i n) at e in cc

pub digit-within : (p : List ℕ) (i : ℕ) {x : ℕ} → first_of digit (drop i p) ≡ some x → i < length p
digit-within p i e = (first-here p i e).0

-- ---- one to three digits

digits-stop : (k n : ℕ) (s : List ℕ) → first_of digit s ≡ none → digits k n s ≡ (n, s)
digits-stop zero n s e = refl
digits-stop (suc k) n [] e = refl
digits-stop (suc k) n (c ∷ s) e = rw e

digits_more : (k n c : ℕ) (s : List ℕ) {x : ℕ} → digit c ≡ some x → digits (suc k) n (c ∷ s) ≡ digits k (10 * n + x) s
digits_more k n c s e = rw e

number_of : (c : ℕ) (s u : List ℕ) (n : ℕ) {x : ℕ} → digit c ≡ some x → digits 2 x s ≡ (n, u) → number (c ∷ s) ≡ guard (leb n count_most) (n, u)
unfolding number
number_of c s u n e q = rw (e, q)

module _ (p : List ℕ) (i : ℕ) {x : ℕ} (first : first_of digit (drop i p) ≡ some x) where
  number-here : (n : ℕ) (u : List ℕ) → digits 2 x (drop (i + 1) p) ≡ (n, u) → number (drop i p) ≡ guard (leb n count_most) (n, u)
  number-here n u e = let h = first-here p i first in ap number (here p i h.0) ∙ number_of (get_or p i 0) (drop (i + 1) p) u n h.1 e

  pub one-digit : first_of digit (drop (i + 1) p) ≡ none → number (drop i p) ≡ guard (leb x count_most) (x, drop (i + 1) p)
  one-digit e = number-here x (drop (i + 1) p) (digits-stop 2 x (drop (i + 1) p) e)

  next_place : (k : ℕ) → drop (i + k + 1) p ≡ drop (i + suc k) p
  next_place k = let e : i + k + 1 ≡ i + suc k = omega arith in ap (λ (n : ℕ). drop n p) e

  next-digit : (k n j : ℕ) {y : ℕ} → first_of digit (drop j p) ≡ some y → digits (suc k) n (drop j p) ≡ digits k (10 * n + y) (drop (j + 1) p)
  next-digit k n j e = let h = first-here p j e in ap (λ (s : List ℕ). digits (suc k) n s) (here p j h.0) ∙ digits_more k n (get_or p j 0) (drop (j + 1) p) h.1

  pub two_digits : {y : ℕ} → first_of digit (drop (i + 1) p) ≡ some y → first_of digit (drop (i + 2) p) ≡ none → number (drop i p) ≡ guard (leb (10 * x + y) count_most) (10 * x + y, drop (i + 2) p)
  two_digits {y} e f = number-here (10 * x + y) (drop (i + 2) p)
      (next-digit 1 x (i + 1) e ∙ ap (λ (s : List ℕ). digits 1 (10 * x + y) s) (next_place 1) ∙ digits-stop 1 (10 * x + y) (drop (i + 2) p) f)

  pub three-digits : {y z : ℕ} → first_of digit (drop (i + 1) p) ≡ some y → first_of digit (drop (i + 2) p) ≡ some z
      → number (drop i p) ≡ guard (leb (10 * (10 * x + y) + z) count_most) (10 * (10 * x + y) + z, drop (i + 3) p)
  three-digits {y} {z} e f = number-here (10 * (10 * x + y) + z) (drop (i + 3) p)
      (next-digit 1 x (i + 1) e ∙ ap (λ (s : List ℕ). digits 1 (10 * x + y) s) (next_place 1)
      ∙ next-digit 0 (10 * x + y) (i + 2) f ∙ ap (λ (s : List ℕ). digits 0 (10 * (10 * x + y) + z) s) (next_place 2))

-- a number that is not over the most is read
pub limited-reads : (p : List ℕ) (i n next : ℕ) {r : Option (ℕ × ℕ)} → r ≡ limited n next → number (drop i p) ≡ guard (leb n count_most) (n, drop next p)
    → i + 1 ≤ next → next ≤ length p → Reads 1 number p i r
limited-reads p i n next e q l h = rw e (go (leb n count_most) q)
  where
    go : (b : Bool) → number (drop i p) ≡ guard b (n, drop next p) → Reads 1 number p i (guard b (n, next))
    go true q = record { is = rw q; moves = (l, h) }
    go false q = record { is = rw q; moves = tt }
