-- The bits of words, of sets in words, and of a range of bytes.
use mathlib.Core.Path.{◌≡◌, refl, sym, ap, ◌∙◌, subst}
use mathlib.Core.Logic.{◌⊎◌, inl, inr}
use mathlib.Core.Bool.{Bool, true, false, ◌&&◌, ◌||◌}
use mathlib.Core.List.{[], ◌∷◌}
use Prim.Native.Nat.{ℕ, zero, suc, ◌+◌, ◌*◌, ◌-◌, ◌/◌, ◌%◌, ◌^◌, ◌≤◌, ◌<◌, min}
use native.Mathlib.Decide.{ℕ_discrete, dec_lt}
use native.Mathlib.Nat.{pow-succ', mul_assoc, mul-suc, mul-le-mul_left}
use native.Mathlib.Omega.{arith}
use lib.Dec.{T, eqb, leb}
use lib.Pow.{pow_pos, pow-add, pow_mono}
use lib.Bits.{bit_or, or_lt}
use borrow.Author.Tests.{le-leb, lt-leb, eq-eqb}
use Rattle.rules.specs.Tools.{has, with, with_all, up_from, range, find}
use Rattle.rules.specs.Signs.{within}
use Rattle.rules.proofs.Tests.{is_true, within_both}
use Rattle.bytesets.specs.ByteSets.{joined, InWord}
use Rattle.rules.proofs.Sets.{has-or, bit, bit-zero, bit-suc, same-members, with-has, with-keeps, with-only, with-lt}

-- ---- bits

-- a number has no bit above it
small : (k m : ℕ) → m < 2 ^ k → bit m k ≡ 0
small zero m h = omega (arith, bit-zero m)
small (suc k) m h = bit-suc m k ∙ small k (m / 2) (omega arith)

-- 2 ^ b - 2 ^ a has the bits from a on and below b
bits_in : (a b k : ℕ) → a ≤ k → k < b → bit (2 ^ b - 2 ^ a) k ≡ 1
bits_in a zero k h l = absurd (omega arith)
bits_in zero (suc b) zero h l = omega (arith, bit-zero (2 ^ suc b - 1), pow_pos b)
bits_in zero (suc b) (suc k) h l = let e : (2 ^ suc b - 1) / 2 ≡ 2 ^ b - 1 = omega (arith, pow_pos b) in
    bit-suc (2 ^ suc b - 1) k ∙ ap (λ (m : ℕ). bit m k) e ∙ bits_in zero b k (omega arith) (omega arith)
bits_in (suc a) (suc b) zero h l = absurd (omega arith)
bits_in (suc a) (suc b) (suc k) h l = let e : (2 ^ suc b - 2 ^ suc a) / 2 ≡ 2 ^ b - 2 ^ a = omega arith in
    bit-suc (2 ^ suc b - 2 ^ suc a) k ∙ ap (λ (m : ℕ). bit m k) e ∙ bits_in a b k (omega arith) (omega arith)

bits-low : (a b k : ℕ) → a ≤ b → k < a → bit (2 ^ b - 2 ^ a) k ≡ 0
bits-low zero b k h l = absurd (omega arith)
bits-low (suc a) zero k h l = absurd (omega arith)
bits-low (suc a) (suc b) zero h l = omega (arith, bit-zero (2 ^ suc b - 2 ^ suc a))
bits-low (suc a) (suc b) (suc k) h l = let e : (2 ^ suc b - 2 ^ suc a) / 2 ≡ 2 ^ b - 2 ^ a = omega arith in
    bit-suc (2 ^ suc b - 2 ^ suc a) k ∙ ap (λ (m : ℕ). bit m k) e ∙ bits-low a b k (omega arith) (omega arith)

bits-high : (a b k : ℕ) → b ≤ k → bit (2 ^ b - 2 ^ a) k ≡ 0
bits-high a b k h = small k (2 ^ b - 2 ^ a) (omega (arith, pow_pos a, pow_pos k, pow_mono {i = b} {j = k} h))

-- ---- tests

bit-true : (m k : ℕ) → bit m k ≡ 1 → has m k ≡ true
bit-true m k e = eq-eqb (bit m k) 1 e

bit-false : (m k : ℕ) → bit m k ≡ 0 → has m k ≡ false
bit-false m k e = ap (λ (x : ℕ). eqb x 1) e

within-true : (lo hi c : ℕ) → lo ≤ c → c ≤ hi → within lo hi c ≡ true
within-true lo hi c h l = rw (le-leb lo c h, le-leb c hi l)

within_low : (lo hi c : ℕ) → c < lo → within lo hi c ≡ false
within_low lo hi c h = rw (lt-leb lo c h)

within-high : (lo hi c : ℕ) → hi < c → within lo hi c ≡ false
within-high lo hi c h = rw (lt-leb c hi h) (no_more (leb lo c))
  where
    no_more : (b : Bool) → (b && false) ≡ false
    no_more true = refl
    no_more false = refl

    none : (k : ℕ) → bit 0 k ≡ 0
    none zero = refl
    none (suc k) = bit-suc 0 k ∙ none k

-- ---- the bits of a word that are bytes from lo to hi

module _ (lo hi first : ℕ) (h : lo ≤ hi) where
  pub word-range : InWord lo hi first ((2 ^ min (hi + 1 - first) 64 - 1) - (2 ^ min (lo - first) 64 - 1))
  word-range j l = ap (λ (m : ℕ). has m j) whole ∙ go (dec_lt (first + j) lo) (dec_lt hi (first + j))
    where
      a : ℕ
      a = min (lo - first) 64

      b : ℕ
      b = min (hi + 1 - first) 64

      whole : (2 ^ min (hi + 1 - first) 64 - 1) - (2 ^ min (lo - first) 64 - 1) ≡ 2 ^ min (hi + 1 - first) 64 - 2 ^ min (lo - first) 64
      whole = omega (arith, pow_pos (min (hi + 1 - first) 64), pow_pos (min (lo - first) 64))

      go : Dec (first + j < lo) → Dec (hi < first + j) → has (2 ^ min (hi + 1 - first) 64 - 2 ^ min (lo - first) 64) j ≡ within lo hi (first + j)
      go (yes p) q = bit-false _ j (bits-low (min (lo - first) 64) (min (hi + 1 - first) 64) j (omega arith) (omega arith)) ∙ sym (within_low lo hi (first + j) p)
      go (no p) (yes q) = bit-false _ j (bits-high (min (lo - first) 64) (min (hi + 1 - first) 64) j (omega arith)) ∙ sym (within-high lo hi (first + j) q)
      go (no p) (no q) = bit-true _ j (bits_in (min (lo - first) 64) (min (hi + 1 - first) 64) j (omega arith) (omega arith)) ∙ sym (within-true lo hi (first + j) (omega arith) (omega arith))

-- ---- a word, and the words above it

double : (n m : ℕ) → 2 ^ suc n * m ≡ 2 * (2 ^ n * m)
double n m = ap (λ (x : ℕ). x * m) (pow-succ' 2 n) ∙ mul_assoc 2 (2 ^ n) m

half : (n a m : ℕ) → (a + 2 ^ suc n * m) / 2 ≡ a / 2 + 2 ^ n * m
half n a m = omega (arith, double n m)

word_low : (n k a m : ℕ) → k < n → bit (a + 2 ^ n * m) k ≡ bit a k
word_low zero k a m h = absurd (omega arith)
word_low (suc n) zero a m h = let e : (a + 2 ^ suc n * m) % 2 ≡ a % 2 = omega (arith, double n m) in bit-zero (a + 2 ^ suc n * m) ∙ e ∙ sym (bit-zero a)
word_low (suc n) (suc k) a m h =
    bit-suc (a + 2 ^ suc n * m) k ∙ ap (λ (x : ℕ). bit x k) (half n a m) ∙ word_low n k (a / 2) m (omega arith) ∙ sym (bit-suc a k)

word-high : (n k a m : ℕ) → a < 2 ^ n → bit (a + 2 ^ n * m) (n + k) ≡ bit m k
word-high zero k a m h = let e : a + 2 ^ 0 * m ≡ m = omega arith in let z : 0 + k ≡ k = omega arith in rw (e, z)
word-high (suc n) k a m h =
    let e : suc n + k ≡ suc (n + k) = omega arith in
    ap (λ (i : ℕ). bit (a + 2 ^ suc n * m) i) e ∙ bit-suc (a + 2 ^ suc n * m) (n + k) ∙ ap (λ (x : ℕ). bit x (n + k)) (half n a m) ∙ word-high n k (a / 2) m (omega arith)

pub has-low : (k a m : ℕ) → k < 64 → has (a + 2 ^ 64 * m) k ≡ has a k
has-low k a m h = ap (λ (x : ℕ). eqb x 1) (word_low 64 k a m h)

pub has-high : (k a m : ℕ) → a < 2 ^ 64 → has (a + 2 ^ 64 * m) (64 + k) ≡ has m k
has-high k a m h = ap (λ (x : ℕ). eqb x 1) (word-high 64 k a m h)

-- ---- a range of bytes in four words

module _ (lo hi : ℕ) where
  -- the set q is the set m and the bytes from lo to hi, where both begin with the byte `first`
  abbrev Adds : ℕ → ℕ → ℕ → Type 0
  Adds first m q = (k : ℕ) → has q k ≡ (has m k || within lo hi (first + k))

  word-adds : (first a x m q : ℕ) → a < 2 ^ 64 → x < 2 ^ 64 → InWord lo hi first x → Adds (first + 64) m q → Adds first (a + 2 ^ 64 * m) (bit_or a x + 2 ^ 64 * q)
  word-adds first a x m q ha hx w r k = go (dec_lt k 64)
    where
      go : Dec (k < 64) → has (bit_or a x + 2 ^ 64 * q) k ≡ (has (a + 2 ^ 64 * m) k || within lo hi (first + k))
      go (yes l) = has-low k (bit_or a x) q l ∙ has-or a x k ∙ rw (w k l, has-low k a m l)
      go (no n) = let e : k ≡ 64 + (k - 64) = omega arith in
          rw e (has-high (k - 64) (bit_or a x) q (or_lt 64 a x ha hx) ∙ r (k - 64) ∙ rw (has-high (k - 64) a m ha) (ap (λ (i : ℕ). has m (k - 64) || within lo hi i) (omega arith)))

  last-adds : (d x : ℕ) → hi < 256 → x < 2 ^ 64 → InWord lo hi 192 x → Adds 192 d (bit_or d x)
  last-adds d x h hx w k = has-or d x k ∙ ap (λ (b : Bool). has d k || b) (go (dec_lt k 64))
    where
      go : Dec (k < 64) → has x k ≡ within lo hi (192 + k)
      go (yes l) = w k l
      go (no n) = bit-false x k (small k x (omega (arith, pow_mono {i = 64} {j = k} (omega arith)))) ∙ sym (within-high lo hi (192 + k) (omega arith))

-- ---- bytes added one by one

module _ (k : ℕ) where
  keeps : (n lo m : ℕ) → T (has m k) → T (has (with_all m (up_from lo n)) k)
  keeps zero lo m h = h
  keeps (suc n) lo m h = keeps n (suc lo) (with m lo) (with-keeps m lo k h)

  adds : (n lo m : ℕ) → lo ≤ k → k < lo + n → T (has (with_all m (up_from lo n)) k)
  adds zero lo m h l = absurd (omega arith)
  adds (suc n) lo m h l = go (ℕ_discrete k lo) (adds n (suc lo) (with m lo))
    where
      go : Dec (k ≡ lo) → (suc lo ≤ k → k < suc lo + n → T (has (with_all (with m lo) (up_from (suc lo) n)) k)) → T (has (with_all (with m lo) (up_from (suc lo) n)) k)
      go (yes e) more = keeps n (suc lo) (with m lo) (rw e (with-has m lo))
      go (no e) more = more (omega arith) (omega arith)

  only : (n lo m : ℕ) → T (has (with_all m (up_from lo n)) k) → T (has m k) ⊎ ((lo ≤ k) × (k < lo + n))
  only zero lo m h = inl h
  only (suc n) lo m h = go (only n (suc lo) (with m lo) h)
    where
      there : (k ≡ lo) ⊎ T (has m k) → T (has m k) ⊎ ((lo ≤ k) × (k < lo + suc n))
      there (inl e) = inr (omega arith, omega arith)
      there (inr x) = inl x

      go : T (has (with m lo) k) ⊎ ((suc lo ≤ k) × (k < suc lo + n)) → T (has m k) ⊎ ((lo ≤ k) × (k < lo + suc n))
      go (inl x) = there (with-only m lo k x)
      go (inr x) = inr (omega arith, omega arith)

all-lt : (b n lo m : ℕ) → lo + n ≤ b → m < 2 ^ b → with_all m (up_from lo n) < 2 ^ b
all-lt b zero lo m h l = l
all-lt b (suc n) lo m h l = all-lt b n (suc lo) (with m lo) (omega arith) (with-lt m lo b (omega arith) l)

-- ---- so the words hold what is added one by one

true-is : (b : Bool) → T b → b ≡ true
true-is true h = refl
true-is false h = elim h [ ]

either-test : (a b : Bool) → T (a || b) → T a ⊎ T b
either-test true b h = inl h
either-test false b h = inr h

pub left-test : (a b : Bool) → T a → T (a || b)
left-test true b h = tt
left-test false b h = elim h [ ]

pub right-test : (a b : Bool) → T b → T (a || b)
right-test true b h = tt
right-test false b h = h

range-added : (lo hi m q : ℕ) → lo ≤ hi → hi < 256 → m < 2 ^ 256 → q < 2 ^ 256 → ((k : ℕ) → has q k ≡ (has m k || within lo hi (0 + k))) → q ≡ with_all m (range lo hi)
range-added lo hi m q h l hm hq e = same-members 256 q (with_all m (range lo hi)) hq (all-lt 256 (1 + hi - lo) lo m (omega arith) hm) to fro
  where
    low : (k : ℕ) → T (within lo hi (0 + k)) → (lo ≤ k) × (k < lo + (1 + hi - lo))
    low k t = let x = within_both lo hi (0 + k) (true-is (within lo hi (0 + k)) t) in (omega arith, omega arith)

    to : (k : ℕ) → T (has q k) → T (has (with_all m (range lo hi)) k)
    to k t = go (either-test (has m k) (within lo hi (0 + k)) (subst (λ (b : Bool). T b) (e k) t))
      where
        go : T (has m k) ⊎ T (within lo hi (0 + k)) → T (has (with_all m (range lo hi)) k)
        go (inl x) = keeps k (1 + hi - lo) lo m x
        go (inr x) = let y = low k x in adds k (1 + hi - lo) lo m y.0 y.1

    fro : (k : ℕ) → T (has (with_all m (range lo hi)) k) → T (has q k)
    fro k t = subst (λ (b : Bool). T b) (sym (e k)) (go (only k (1 + hi - lo) lo m t))
      where
        go : T (has m k) ⊎ ((lo ≤ k) × (k < lo + (1 + hi - lo))) → T (has m k || within lo hi (0 + k))
        go (inl x) = left-test (has m k) (within lo hi (0 + k)) x
        go (inr x) = right-test (has m k) (within lo hi (0 + k)) (is_true (within lo hi (0 + k)) (within-true lo hi (0 + k) (omega arith) (omega arith)))

word_lt : (n k a m : ℕ) → a < 2 ^ n → m < 2 ^ k → a + 2 ^ n * m < 2 ^ (n + k)
word_lt n k a m ha hm = rw (pow-add 2 n k) (wide (2 ^ n) (2 ^ k) ha hm)
  where
    wide : (p q : ℕ) → a < p → m < q → a + p * m < p * q
    wide p q l h = omega (arith, mul-le-mul_left {m = suc m} {n = q} p (omega arith), mul-suc p m)

joined-lt : (a b c d : ℕ) → a < 2 ^ 64 → b < 2 ^ 64 → c < 2 ^ 64 → d < 2 ^ 64 → joined a b c d < 2 ^ 256
joined-lt a b c d ha hb hc hd = word_lt 64 192 a _ ha (word_lt 64 128 b _ hb (word_lt 64 64 c d hc hd))

-- four words with the bits of the range put in
module _ (lo hi : ℕ) (h : lo ≤ hi) (l : hi < 256) (a b c d x y z w : ℕ) where
  pub words-added : a < 2 ^ 64 → b < 2 ^ 64 → c < 2 ^ 64 → d < 2 ^ 64 → x < 2 ^ 64 → y < 2 ^ 64 → z < 2 ^ 64 → w < 2 ^ 64
      → InWord lo hi 0 x → InWord lo hi 64 y → InWord lo hi 128 z → InWord lo hi 192 w
      → joined (bit_or a x) (bit_or b y) (bit_or c z) (bit_or d w) ≡ with_all (joined a b c d) (range lo hi)
  words-added ha hb hc hd hx hy hz hw ix iy iz iw =
      range-added lo hi (joined a b c d) (joined (bit_or a x) (bit_or b y) (bit_or c z) (bit_or d w)) h l (joined-lt a b c d ha hb hc hd)
      (joined-lt (bit_or a x) (bit_or b y) (bit_or c z) (bit_or d w) (or_lt 64 a x ha hx) (or_lt 64 b y hb hy) (or_lt 64 c z hc hz) (or_lt 64 d w hd hw))
      (word-adds lo hi 0 a x _ _ ha hx ix (word-adds lo hi 64 b y _ _ hb hy iy (word-adds lo hi 128 c z _ _ hc hz iz (last-adds lo hi d w l hw iw))))

-- ---- a byte's bit is in the word of its number

module _ (a b c d v : ℕ) (ha : a < 2 ^ 64) (hb : b < 2 ^ 64) (hc : c < 2 ^ 64) (hv : v < 256) where
  abbrev at : ℕ → ℕ
  at k = find d k ((0, a) ∷ (1, b) ∷ (2, c) ∷ [])

  moved : (q r : ℕ) → v / 64 ≡ q → v % 64 ≡ r → has (at (v / 64)) (v % 64) ≡ has (at q) r
  moved q r e f = rw (e, f)

  pub four-has : has (at (v / 64)) (v % 64) ≡ has (joined a b c d) v
  four-has = go (dec_lt v 64) (dec_lt v 128) (dec_lt v 192)
    where
      go : Dec (v < 64) → Dec (v < 128) → Dec (v < 192) → has (at (v / 64)) (v % 64) ≡ has (joined a b c d) v
      go (yes l) m n = moved 0 v (omega arith) (omega arith) ∙ sym (has-low v a (b + 2 ^ 64 * (c + 2 ^ 64 * d)) l)
      go (no l) (yes m) n =
          let e : v ≡ 64 + (v - 64) = omega arith in
          moved 1 (v - 64) (omega arith) (omega arith)
          ∙ sym (ap (λ (k : ℕ). has (joined a b c d) k) e ∙ has-high (v - 64) a (b + 2 ^ 64 * (c + 2 ^ 64 * d)) ha ∙ has-low (v - 64) b (c + 2 ^ 64 * d) (omega arith))
      go (no l) (no m) (yes n) =
          let e : v ≡ 64 + (64 + (v - 128)) = omega arith in
          moved 2 (v - 128) (omega arith) (omega arith)
          ∙ sym (ap (λ (k : ℕ). has (joined a b c d) k) e ∙ has-high (64 + (v - 128)) a (b + 2 ^ 64 * (c + 2 ^ 64 * d)) ha ∙ has-high (v - 128) b (c + 2 ^ 64 * d) hb
          ∙ has-low (v - 128) c d (omega arith))
      go (no l) (no m) (no n) =
          let e : v ≡ 64 + (64 + (64 + (v - 192))) = omega arith in
          moved 3 (v - 192) (omega arith) (omega arith)
          ∙ sym (ap (λ (k : ℕ). has (joined a b c d) k) e ∙ has-high (64 + (64 + (v - 192))) a (b + 2 ^ 64 * (c + 2 ^ 64 * d)) ha ∙ has-high (64 + (v - 192)) b (c + 2 ^ 64 * d) hb
          ∙ has-high (v - 192) c d hc)
