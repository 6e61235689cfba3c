-- Words and the sets that they hold.
use mathlib.Core.Path.{◌≡◌, refl, sym, ap, ap₂, ◌∙◌, subst}
use mathlib.Core.Logic.{◌≢◌, ⊎_elim, ◌↔◌}
use mathlib.Core.Bool.{true, false, ◌&&◌}
use mathlib.Core.List.{List, [], ◌∷◌, ◌++◌, append-nil}
use Prim.Native.Nat.{ℕ, zero, suc, ◌+◌, ◌*◌, ◌-◌, ◌/◌, ◌%◌, ◌^◌, ◌≤◌, ◌<◌}
use native.Mathlib.Nat.{pow-suc, one-mul, suc-mul, mul_assoc, mul-add-div_right, mod-lt, mod-eq_of_lt}
use native.Mathlib.Numerals.{add-one}
use borrow.Author.Count.{below_more}
use borrow.Author.Tests.{eq-eqb}
use native.Mathlib.Decide.{ℕ_discrete, dec_lt}
use native.Mathlib.Omega.{arith}
use lib.Bits.{bit_and, bit_or, bit_xor, and_zero_l, and_zero_r, and_le_l, and_le_r, or_add_and, xor_add_and, xor_self}
use lib.Count.{count_trailing_zeros, under}
use lib.Dec.{T, eqb, eqb→eq, lit<}
use lib.ListN.{length, get_or, set, take, drop, replicate, length-set, length-drop, drop_of_length-le}
use lib.Pow.{pow_pos, pow-add, shr-shr, split, high, mod-pow-add, shl_exact}
use lib.Seq.{length-take-le, get_or-set_same, get_or-set_other, ext_get_or, take_all, take-suc-set, append_snoc, drop-cons}
use Rattle.rules.specs.Tools.{has, with, same}
use Rattle.rules.specs.Sizes.{words_a_row}
use Rattle.rules.proofs.Tests.{both_left, both_ways, eq_test, by-test}
use Rattle.rules.proofs.Lists.{same-eq, same_refl}
use Rattle.rules.proofs.Sets.{bit, bit-zero, bit-suc, has-bit, bit-has, zero_has, same-members, with-has, with-keeps, with-only, with-lt, has-and}
use Rattle.sets.specs.Sets.{member, put_in}
use Rattle.sets.proofs.SetLaws.{put-long, put-in, put_other}
use Rattle.nodesets.specs.NodeSets.{mask_of, row_words, meets, Within, doubled, TakenOut}

-- ---- bits

-- what lies above bit v does not count there
low_bit : (M x v d : ℕ) → bit (M * 2 ^ (suc d + v) + x) v ≡ bit x v
low_bit M x v d =
    ap (λ (z : ℕ). (M * z + x) / 2 ^ v % 2) (pow-add 2 (suc d) v)
    ∙ ap (λ (z : ℕ). (z + x) / 2 ^ v % 2) (sym (mul_assoc M (2 ^ suc d) (2 ^ v)))
    ∙ ap (λ (z : ℕ). z % 2) (mul-add-div_right (pow_pos v) (M * 2 ^ suc d) x)
    ∙ ap (λ (z : ℕ). (M * z + x / 2 ^ v) % 2) (pow-suc 2 d)
    ∙ ap (λ (z : ℕ). (z + x / 2 ^ v) % 2) (sym (mul_assoc M (2 ^ d) 2)) ∙ even (M * 2 ^ d) (x / 2 ^ v)
  where
    even : (a y : ℕ) → (a * 2 + y) % 2 ≡ y % 2
    even a y = omega arith

-- of a number put on a word, the low 64 bits are the word's
word_low : (M x v : ℕ) → v < 64 → bit (M * 2 ^ 64 + x % 2 ^ 64) v ≡ bit x v
word_low M x v l = below (63 - v) (omega arith)
  where
    whole : x / 2 ^ 64 * 2 ^ 64 + x % 2 ^ 64 ≡ x
    whole = omega arith

    below : (d : ℕ) → 64 ≡ suc d + v → bit (M * 2 ^ 64 + x % 2 ^ 64) v ≡ bit x v
    below d e =
        ap (λ (z : ℕ). bit (M * 2 ^ z + x % 2 ^ 64) v) e ∙ low_bit M (x % 2 ^ 64) v d ∙ sym (low_bit (x / 2 ^ 64) (x % 2 ^ 64) v d)
        ∙ ap (λ (z : ℕ). bit (x / 2 ^ 64 * 2 ^ z + x % 2 ^ 64) v) (sym e) ∙ ap (λ (z : ℕ). bit z v) whole

word-high : (M x u : ℕ) → bit (M * 2 ^ 64 + x % 2 ^ 64) (64 + u) ≡ bit M u
word-high M x u = ap (λ (z : ℕ). z % 2) (sym (shr-shr (M * 2 ^ 64 + x % 2 ^ 64) 64 u)) ∙ ap (λ (z : ℕ). z / 2 ^ u % 2) (high M 64 (mod-lt x (omega arith)))

-- the set has what the words have
pub mask-has : (ws : List ℕ) (v : ℕ) → has (mask_of ws) v ≡ member ws v
unfolding mask_of member
mask-has [] v = both_ways (has 0 v) (has 0 (v % 64)) ((λ h. absurd (zero_has v h)), λ h. absurd (zero_has (v % 64) h))
mask-has (x ∷ xs) v = go (dec_lt v 64) (mask-has xs (v - 64))
  where
    go : Dec (v < 64) → has (mask_of xs) (v - 64) ≡ has (get_or xs ((v - 64) / 64) 0) ((v - 64) % 64)
        → has (mask_of xs * 2 ^ 64 + x % 2 ^ 64) v ≡ has (get_or (x ∷ xs) (v / 64) 0) (v % 64)
    go (yes l) rest = ap (λ (z : ℕ). eqb z 1) (word_low (mask_of xs) x v l) ∙ ap₂ (λ (i j : ℕ). has (get_or (x ∷ xs) i 0) j) quotient remainder
      where
        quotient : 0 ≡ v / 64
        quotient = omega arith

        remainder : v ≡ v % 64
        remainder = omega arith
    go (no n) rest = ap (λ (z : ℕ). has (mask_of xs * 2 ^ 64 + x % 2 ^ 64) z) past ∙ ap (λ (z : ℕ). eqb z 1) (word-high (mask_of xs) x (v - 64)) ∙ rest
        ∙ ap₂ (λ (i j : ℕ). has (get_or (x ∷ xs) i 0) j) quotient remainder
      where
        past : v ≡ 64 + (v - 64)
        past = omega arith

        quotient : suc ((v - 64) / 64) ≡ v / 64
        quotient = omega arith

        remainder : (v - 64) % 64 ≡ v % 64
        remainder = omega arith

pub mask_lt : (ws : List ℕ) → mask_of ws < 2 ^ (64 * length ws)
unfolding mask_of
mask_lt [] = omega arith
mask_lt (x ∷ xs) = subst (λ (z : ℕ). mask_of xs * 2 ^ 64 + x % 2 ^ 64 < z) (sym (pow-add 2 (64 * length xs) 64) ∙ ap (λ (z : ℕ). 2 ^ z) more) (wide (2 ^ (64 * length xs)) (mask_lt xs))
  where
    more : 64 * length xs + 64 ≡ 64 * suc (length xs)
    more = omega arith

    wide : (p : ℕ) → mask_of xs < p → mask_of xs * 2 ^ 64 + x % 2 ^ 64 < p * 2 ^ 64
    wide p l = omega arith

-- words that hold the same set are the same
pub mask-told : (a b : List ℕ) → length a ≡ length b → ((i : ℕ) → get_or a i 0 < 2 ^ 64) → ((i : ℕ) → get_or b i 0 < 2 ^ 64) → mask_of a ≡ mask_of b → a ≡ b
unfolding mask_of
mask-told [] [] e la lb q = refl
mask-told [] (y ∷ b) e la lb q = absurd (omega arith)
mask-told (x ∷ a) [] e la lb q = absurd (omega arith)
mask-told (x ∷ a) (y ∷ b) e la lb q = ap₂ {C = List ℕ} ◌∷◌ (omega (arith, la 0, lb 0)) (mask-told a b (omega arith) (λ i. la (suc i)) (λ i. lb (suc i)) (omega arith))

-- sets that have the same nodes are one
pub same-has : (n m q : ℕ) → m < 2 ^ n → q < 2 ^ n → ((v : ℕ) → has m v ≡ has q v) → m ≡ q
same-has n m q lm lq h = same-members n m q lm lq (λ v. subst T (h v)) (λ v. subst T (sym (h v)))

-- ---- putting in, and taking out

module _ (m v : ℕ) where
  with-here : has (with m v) v ≡ true
  with-here = both_ways (has (with m v) v) true ((λ h. tt), λ h. with-has m v)

  with-other : (x : ℕ) → x ≢ v → has (with m v) x ≡ has m x
  with-other x ne = both_ways (has (with m v) x) (has m x) ((λ h. ⊎_elim (λ e. absurd (ne e)) (λ g. g) (with-only m v x h)), with-keeps m v x)

  pub with-new : (T (has m v) → ⊥) → with m v ≡ m + 2 ^ v
  with-new n = by-test (has m v) (λ b. elim b [ true ↦ m | false ↦ m + 2 ^ v ] ≡ m + 2 ^ v) (λ h. absurd (n h)) (λ g. refl)

pub mask-put : (ws : List ℕ) (v : ℕ) → v < 64 * length ws → mask_of (put_in ws v) ≡ with (mask_of ws) v
mask-put ws v l = same-has (64 * length ws) (mask_of (put_in ws v)) (with (mask_of ws) v) (rw (put-long ws v) at (mask_lt (put_in ws v)))
    (with-lt (mask_of ws) v (64 * length ws) l (mask_lt ws)) (λ x. mask-has (put_in ws v) x ∙ go x (ℕ_discrete x v))
  where
    go : (x : ℕ) → Dec (x ≡ v) → member (put_in ws v) x ≡ has (with (mask_of ws) v) x
    go x (yes e) = rw e (put-in ws v l ∙ sym (with-here (mask_of ws) v))
    go x (no ne) = put_other ws v x l ne ∙ sym (mask-has ws x) ∙ sym (with-other (mask_of ws) v x ne)

-- trailing zeros count up to a bit that is 1
pub tz-bit : (d x : ℕ) → x ≢ 0 → x < 2 ^ d → (count_trailing_zeros d x < d) × (bit x (count_trailing_zeros d x) ≡ 1)
unfolding count_trailing_zeros
tz-bit zero x ne l = absurd (ne (omega arith))
tz-bit (suc d) x ne l = go (x % 2) refl (tz-bit d (x / 2))
  where
    go : (r : ℕ) → x % 2 ≡ r → (x / 2 ≢ 0 → x / 2 < 2 ^ d → (count_trailing_zeros d (x / 2) < d) × (bit (x / 2) (count_trailing_zeros d (x / 2)) ≡ 1))
        → (under r (count_trailing_zeros d (x / 2)) < suc d) × (bit x (under r (count_trailing_zeros d (x / 2))) ≡ 1)
    go zero e rec =
        let h : (count_trailing_zeros d (x / 2) < d) × (bit (x / 2) (count_trailing_zeros d (x / 2)) ≡ 1) = rec (λ z. ne (omega arith)) (omega arith) in
        (omega (arith, h.0), bit-suc x (count_trailing_zeros d (x / 2)) ∙ h.1)
    go (suc r) e rec = (omega arith, omega (arith, bit-zero x))

-- a bit that is 1 taken off
module _ (x k : ℕ) (h : bit x k ≡ 1) where
  bit-off : (2 ^ k ≤ x) × (T (has (x - 2 ^ k) k) → ⊥)
  bit-off = go (x / 2 ^ k) refl
    where
      go : (q : ℕ) → x / 2 ^ k ≡ q → (2 ^ k ≤ x) × (T (has (x - 2 ^ k) k) → ⊥)
      go zero e = absurd (omega (arith, h, e))
      go (suc q) e = (omega (arith, whole), λ g. omega (arith, h, e, has-bit (x - 2 ^ k) k g, ap (λ (z : ℕ). z % 2) (ap (λ (z : ℕ). z / 2 ^ k) less ∙ high q k (mod-lt x (pow_pos k)))))
        where
          whole : q * 2 ^ k + 2 ^ k + x % 2 ^ k ≡ x
          whole = ap (λ (z : ℕ). z + x % 2 ^ k) (sym (suc-mul q (2 ^ k))) ∙ ap (λ (z : ℕ). z * 2 ^ k + x % 2 ^ k) (sym e) ∙ split x k

          less : x - 2 ^ k ≡ q * 2 ^ k + x % 2 ^ k
          less = omega (arith, whole)

  off-other : (j : ℕ) → j ≢ k → has (x - 2 ^ k) j ≡ has x j
  off-other j ne = sym (with-other (x - 2 ^ k) k j ne) ∙ ap (λ (z : ℕ). has z j) (with-new (x - 2 ^ k) k bit-off.1 ∙ back)
    where
      back : x - 2 ^ k + 2 ^ k ≡ x
      back = omega (arith, bit-off.0)

-- word i with its lowest bit taken off
module _ (ws : List ℕ) (i : ℕ) (li : i < length ws) (ne : get_or ws i 0 ≢ 0) (lw : get_or ws i 0 < 2 ^ 64) where
  abbrev lowest : ℕ
  lowest = count_trailing_zeros 64 (get_or ws i 0)

  pub lowest-lt : lowest < 64
  lowest-lt = (tz-bit 64 (get_or ws i 0) ne lw).0

  -- the bit, as it is shifted to its place
  shifted : (1 * 2 ^ lowest) % 2 ^ 64 ≡ 2 ^ lowest
  shifted = shl_exact 1 lowest 64 (lit< tt) (omega (arith, lowest-lt)) ∙ one-mul (2 ^ lowest)

  pub shifted-le : (1 * 2 ^ lowest) % 2 ^ 64 ≤ get_or ws i 0
  shifted-le = rw shifted (bit-off (get_or ws i 0) lowest (tz-bit 64 (get_or ws i 0) ne lw).1).0

  pub mask-out : TakenOut ws (set ws i (get_or ws i 0 - (1 * 2 ^ lowest) % 2 ^ 64)) i (64 * i + lowest)
  unfolding member
  mask-out = rw shifted (record {
    long = long;
    there = (omega arith, omega (arith, lowest-lt));
    out = λ h. gone (subst T (mask-has new v ∙ here) h);
    rest = same-has (64 * length ws) (mask_of ws) (with (mask_of new) v) (mask_lt ws) (with-lt (mask_of new) v (64 * length ws) (omega (arith, lowest-lt)) (rw long at (mask_lt new)))
        (λ x. both-sides x (ℕ_discrete x v));
  })
    where
      new : List ℕ
      new = set ws i (get_or ws i 0 - 2 ^ lowest)

      v : ℕ
      v = 64 * i + lowest

      long : length new ≡ length ws
      long = length-set ws i (get_or ws i 0 - 2 ^ lowest)

      the-bit : bit (get_or ws i 0) lowest ≡ 1
      the-bit = (tz-bit 64 (get_or ws i 0) ne lw).1

      gone : T (has (get_or ws i 0 - 2 ^ lowest) lowest) → ⊥
      gone = (bit-off (get_or ws i 0) lowest the-bit).1

      word : v / 64 ≡ i
      word = omega (arith, lowest-lt)

      place : v % 64 ≡ lowest
      place = omega (arith, lowest-lt)

      at_i : get_or new i 0 ≡ get_or ws i 0 - 2 ^ lowest
      at_i = get_or-set_same ws i (get_or ws i 0 - 2 ^ lowest) 0 li

      here : member new v ≡ has (get_or ws i 0 - 2 ^ lowest) lowest
      here = ap₂ (λ (j k : ℕ). has (get_or new j 0) k) word place ∙ ap (λ (z : ℕ). has z lowest) at_i

      other : (x : ℕ) → x ≢ v → Dec (x / 64 ≡ i) → member new x ≡ member ws x
      other x nx (yes e) = ap (λ (j : ℕ). has (get_or new j 0) (x % 64)) e ∙ ap (λ (z : ℕ). has z (x % 64)) at_i
          ∙ off-other (get_or ws i 0) lowest the-bit (x % 64) (λ q. nx (omega arith)) ∙ ap (λ (j : ℕ). has (get_or ws j 0) (x % 64)) (sym e)
      other x nx (no n) = ap (λ (z : ℕ). has z (x % 64)) (get_or-set_other ws i (x / 64) (get_or ws i 0 - 2 ^ lowest) 0 n)

      both-sides : (x : ℕ) → Dec (x ≡ v) → has (mask_of ws) x ≡ has (with (mask_of new) v) x
      both-sides x (yes e) = rw e (mask-has ws v ∙ ap₂ (λ (j k : ℕ). has (get_or ws j 0) k) word place ∙ eq-eqb (bit (get_or ws i 0) lowest) 1 the-bit ∙ sym (with-here (mask_of new) v))
      both-sides x (no n) = mask-has ws x ∙ sym (other x n (ℕ_discrete (x / 64) i)) ∙ sym (mask-has new x) ∙ sym (with-other (mask_of new) v x n)

-- ---- what both have

pub get_or-meets : (a b : List ℕ) (i : ℕ) → get_or (meets a b) i 0 ≡ bit_and (get_or a i 0) (get_or b i 0)
unfolding meets
get_or-meets [] b i = sym (and_zero_l (get_or b i 0))
get_or-meets (x ∷ a) [] i = sym (and_zero_r (get_or (x ∷ a) i 0))
get_or-meets (x ∷ a) (y ∷ b) zero = refl
get_or-meets (x ∷ a) (y ∷ b) (suc i) = get_or-meets a b i

pub length_meets : (a b : List ℕ) → length b ≡ length a → length (meets a b) ≡ length a
unfolding meets
length_meets [] b e = refl
length_meets (x ∷ a) [] e = absurd (omega arith)
length_meets (x ∷ a) (y ∷ b) e = ap suc (length_meets a b (omega arith))

pub meets-has : (a b : List ℕ) (v : ℕ) → has (mask_of (meets a b)) v ≡ (has (mask_of a) v && has (mask_of b) v)
unfolding member
meets-has a b v = mask-has (meets a b) v ∙ ap (λ (z : ℕ). has z (v % 64)) (get_or-meets a b (v / 64)) ∙ has-and (get_or a (v / 64) 0) (get_or b (v / 64) 0) (v % 64)
    ∙ ap₂ ◌&&◌ (sym (mask-has a v)) (sym (mask-has b v))

-- ---- twice a set

over : (ws : List ℕ) (c : ℕ) → c < 2 → (o : ℕ) × (mask_of (doubled c ws) + o * 2 ^ (64 * length ws) ≡ mask_of ws * 2 + c)
unfolding mask_of doubled
over [] c l = (c, omega arith)
over (x ∷ ws) c l = let h : (o : ℕ) × (mask_of (doubled (x / 2 ^ 63 % 2) ws) + o * 2 ^ (64 * length ws) ≡ mask_of ws * 2 + x / 2 ^ 63 % 2) = over ws (x / 2 ^ 63 % 2) (omega arith) in
    (h.0, sum (mask_of (doubled (x / 2 ^ 63 % 2) ws)) (h.0 * 2 ^ (64 * length ws)) (h.0 * 2 ^ (64 * suc (length ws))) (mask_of ws) (shifted h.0) h.1)
  where
    shifted : (o : ℕ) → o * 2 ^ (64 * suc (length ws)) ≡ o * 2 ^ (64 * length ws) * 2 ^ 64
    shifted o = ap (λ (z : ℕ). o * 2 ^ z) more ∙ ap (λ (z : ℕ). o * z) (pow-add 2 (64 * length ws) 64) ∙ sym (mul_assoc o (2 ^ (64 * length ws)) (2 ^ 64))
      where
        more : 64 * suc (length ws) ≡ 64 * length ws + 64
        more = omega arith

    sum : (d z q m : ℕ) → q ≡ z * 2 ^ 64 → d + z ≡ m * 2 + x / 2 ^ 63 % 2 → d * 2 ^ 64 + (x % 2 ^ 63 * 2 + c) % 2 ^ 64 + q ≡ (m * 2 ^ 64 + x % 2 ^ 64) * 2 + c
    sum d z q m e f = omega (arith, fits, mod-pow-add x 1 63)
      where
        fits : (x % 2 ^ 63 * 2 + c) % 2 ^ 64 ≡ x % 2 ^ 63 * 2 + c
        fits = mod-eq_of_lt (omega arith)

pub length-doubled : (c : ℕ) (ws : List ℕ) → length (doubled c ws) ≡ length ws
unfolding doubled
length-doubled c [] = refl
length-doubled c (x ∷ ws) = ap suc (length-doubled (x / 2 ^ 63 % 2) ws)

pub mask-doubled : (ws : List ℕ) → mask_of ws * 2 < 2 ^ (64 * length ws) → mask_of (doubled 0 ws) ≡ mask_of ws * 2
mask-doubled ws l = none (over ws 0 (omega arith)).0 (over ws 0 (omega arith)).1
  where
    none : (o : ℕ) → mask_of (doubled 0 ws) + o * 2 ^ (64 * length ws) ≡ mask_of ws * 2 + 0 → mask_of (doubled 0 ws) ≡ mask_of ws * 2
    none zero e = omega arith
    none (suc o) e = absurd (omega (arith, suc-mul o (2 ^ (64 * length ws))))

-- the words so far, and what is left to double
module _ (out ws : List ℕ) (i c : ℕ) (le : length out ≡ length ws) (h : take i out ++ doubled c (drop i ws) ≡ doubled 0 ws) where
  pub doubled-more : i < length ws → take (i + 1) (set out i (get_or ws i 0 % 2 ^ 63 * 2 + c)) ++ doubled (get_or ws i 0 / 2 ^ 63 % 2) (drop (i + 1) ws) ≡ doubled 0 ws
  unfolding doubled
  doubled-more l = simp (add-one i, take-suc-set out i (get_or ws i 0 % 2 ^ 63 * 2 + c) (omega arith))
      (append_snoc (take i out) (get_or ws i 0 % 2 ^ 63 * 2 + c) (doubled (get_or ws i 0 / 2 ^ 63 % 2) (drop (suc i) ws))
      ∙ ap (λ (xs : List ℕ). take i out ++ doubled c xs) (sym (drop-cons ws i 0 l)) ∙ h)

  pub doubled-end : length ws ≤ i → out ≡ doubled 0 ws
  unfolding doubled
  doubled-end l = sym (take_all i out (omega arith)) ∙ sym (append-nil (take i out)) ∙ ap (λ (xs : List ℕ). take i out ++ doubled c xs) (sym (drop_of_length-le ws l)) ∙ h

-- ---- words that are the same

-- numbers below i agree
abbrev pub Agree : List ℕ → List ℕ → ℕ → Type 0
Agree a b i = (j : ℕ) → j < i → get_or a j 0 ≡ get_or b j 0

pub agree_same : (a b : List ℕ) → length a ≡ length b → Agree a b (length a) → a ≡ b
agree_same a b e h = ext_get_or 0 a b e h

pub agree-set : (a b : List ℕ) (i x : ℕ) → i < length a → x ≡ get_or b i 0 → Agree a b i → Agree (set a i x) b (i + 1)
agree-set a b i x l e h j lj = go (ℕ_discrete j i)
  where
    go : Dec (j ≡ i) → get_or (set a i x) j 0 ≡ get_or b j 0
    go (yes q) = rw q (get_or-set_same a i x 0 l ∙ e)
    go (no n) = get_or-set_other a i j x 0 n ∙ h j (omega arith)

apart_none : (x y z : ℕ) → (bit_or z (bit_xor x y) ≡ 0) ↔ ((z ≡ 0) × (x ≡ y))
apart_none x y z = (parts, join)
  where
    parts : bit_or z (bit_xor x y) ≡ 0 → (z ≡ 0) × (x ≡ y)
    parts e =
        let d : bit_xor x y ≡ 0 = omega (arith, or_add_and z (bit_xor x y), and_le_l z (bit_xor x y)) in
        (omega (arith, or_add_and z (bit_xor x y), and_le_r z (bit_xor x y)), omega (arith, xor_add_and x y, and_le_l x y, and_le_r x y))

    join : (z ≡ 0) × (x ≡ y) → bit_or z (bit_xor x y) ≡ 0
    join h = rw (h.0, h.1, xor_self) refl

pub apart_more : (a b : List ℕ) (i d : ℕ) → (d ≡ 0) ↔ Agree a b i → (bit_or d (bit_xor (get_or a i 0) (get_or b i 0)) ≡ 0) ↔ Agree a b (i + 1)
apart_more a b i d h = ((λ e. below_more _ i (h.0 (split-apart.0 e).0) (split-apart.0 e).1), λ g. split-apart.1 (h.1 (λ j l. g j (omega arith)), g i (omega arith)))
  where
    split-apart : (bit_or d (bit_xor (get_or a i 0) (get_or b i 0)) ≡ 0) ↔ ((d ≡ 0) × (get_or a i 0 ≡ get_or b i 0))
    split-apart = apart_none (get_or a i 0) (get_or b i 0) d

pub same_test : (a b : List ℕ) (d i : ℕ) → length a ≡ length b → i ≡ length a → (d ≡ 0) ↔ Agree a b i → eqb d 0 ≡ same a b
same_test a b d i e q h = both_ways (eqb d 0) (same a b)
    ((λ t. rw (agree_same a b e (rw q at (h.0 (eqb→eq d 0 t)))) (same_refl b)), λ t. eq_test d 0 (h.1 (λ j l. ap (λ (xs : List ℕ). get_or xs j 0) (same-eq a b t))))

-- ---- words in use

pub unused-more : (ws : List ℕ) (end : ℕ) → 0 < end → get_or ws (end - 1) 0 ≡ 0 → ((i : ℕ) → end ≤ i → get_or ws i 0 ≡ 0) → (i : ℕ) → end - 1 ≤ i → get_or ws i 0 ≡ 0
unused-more ws end some e h i l = go (ℕ_discrete i (end - 1))
  where
    go : Dec (i ≡ end - 1) → get_or ws i 0 ≡ 0
    go (yes q) = ap (λ (j : ℕ). get_or ws j 0) q ∙ e
    go (no n) = h i (omega arith)

-- words from `from` on met again, up to word i: those before are what both have, the others are as they were
pub record Again (old a b : List ℕ) (apart : ℕ) (out : List ℕ) (i : ℕ) : Type 0 where
  pub long : length out ≡ length old
  pub done : Agree out (meets a b) i
  pub rest : (j : ℕ) → i ≤ j → get_or out j 0 ≡ get_or old j 0
  pub told : (apart ≡ 0) ↔ Agree old (meets a b) i

module _ (a b : List ℕ) where
  -- a word that is not in use in a
  meets-unused : (j : ℕ) → get_or a j 0 ≡ 0 → get_or (meets a b) j 0 ≡ 0
  meets-unused j e = get_or-meets a b j ∙ ap (λ (z : ℕ). bit_and z (get_or b j 0)) e ∙ and_zero_l (get_or b j 0)

  pub meets-within : {from to : ℕ} → length b ≡ length a → Within from to a → Within from to (meets a b)
  meets-within e W = record {
    low = W.low;
    high = omega (arith, W.high, length_meets a b e);
    before = λ i l. meets-unused i (W.before i l);
    after = λ i l. meets-unused i (W.after i l);
  }

module _ (old a b : List ℕ) where
  pub again-first : {from to : ℕ} → Within from to a → Within from to old → Again old a b 0 old from
  again-first {from} W O = record { long = refl; done = none; rest = λ j l. refl; told = ((λ e. none), λ h. refl) }
    where
      none : Agree old (meets a b) from
      none j l = O.before j l ∙ sym (meets-unused a b j (W.before j l))

  module _ {apart i : ℕ} {out : List ℕ} (A : Again old a b apart out i) where
    pub again-more : i < length old → Again old a b (bit_or apart (bit_xor (get_or out i 0) (bit_and (get_or a i 0) (get_or b i 0)))) (set out i (bit_and (get_or a i 0) (get_or b i 0))) (i + 1)
    again-more l = record {
      long = length-set out i (bit_and (get_or a i 0) (get_or b i 0)) ∙ A.long;
      done = agree-set out (meets a b) i (bit_and (get_or a i 0) (get_or b i 0)) (omega (arith, A.long)) (sym (get_or-meets a b i)) A.done;
      rest = λ j h. get_or-set_other out i j (bit_and (get_or a i 0) (get_or b i 0)) 0 (omega arith) ∙ A.rest j (omega arith);
      told = rw (A.rest i (omega arith), sym (get_or-meets a b i)) (apart_more old (meets a b) i apart A.told);
    }

    pub again-end : {from to : ℕ} → length old ≡ length a → length b ≡ length a → i ≡ to → Within from to a → Within from to old → (out ≡ meets a b) × (eqb apart 0 ≡ same old out)
    again-end e f q W O = (is, same-test-all)
      where
        long : length out ≡ length (meets a b)
        long = A.long ∙ e ∙ sym (length_meets a b f)

        past : (j : ℕ) → i ≤ j → get_or out j 0 ≡ get_or (meets a b) j 0
        past j l = A.rest j l ∙ O.after j (omega arith) ∙ sym (meets-unused a b j (W.after j (omega arith)))

        each : (j : ℕ) → get_or out j 0 ≡ get_or (meets a b) j 0
        each j = go (dec_lt j i)
          where
            go : Dec (j < i) → get_or out j 0 ≡ get_or (meets a b) j 0
            go (yes l) = A.done j l
            go (no n) = past j (omega arith)

        is : out ≡ meets a b
        is = agree_same out (meets a b) long (λ j l. each j)

        old-past : (j : ℕ) → i ≤ j → get_or old j 0 ≡ get_or (meets a b) j 0
        old-past j l = O.after j (omega arith) ∙ sym (meets-unused a b j (W.after j (omega arith)))

        same-test-all : eqb apart 0 ≡ same old out
        same-test-all = rw is (same_test old (meets a b) apart (length old) (e ∙ sym (length_meets a b f)) refl
            ((λ z j l. wide z j (dec_lt j i)), λ h. A.told.1 (λ j l. h j (omega (arith, O.high)))))
          where
            wide : apart ≡ 0 → (j : ℕ) → Dec (j < i) → get_or old j 0 ≡ get_or (meets a b) j 0
            wide z j (yes l) = A.told.0 z j l
            wide z j (no n) = old-past j (omega arith)

-- ---- sets of numbers below a bound

-- a set of nodes below n
pub below-lt : (n m : ℕ) → ((v : ℕ) → T (has m v) → v < n) → m < 2 ^ n
below-lt zero m h = go (dec_lt m 1)
  where
    small : (x : ℕ) → x < 2 ^ x
    small zero = omega arith
    small (suc x) = omega (arith, small x)

    go : Dec (m < 1) → m < 1
    go (yes l) = l
    go (no n) = let t : (_ < m) × (bit m _ ≡ 1) = tz-bit m m (λ e. n (omega arith)) (small m) in absurd (omega (arith, h _ (bit-has m _ t.1)))
below-lt (suc n) m h = omega (arith, below-lt n (m / 2) (λ v g. omega (arith, h (suc v) (bit-has m (suc v) (bit-suc m v ∙ has-bit (m / 2) v g)))))

-- of nodes that are below n, so that the next ones are too
pub next-lt : (n m : ℕ) → ((v : ℕ) → T (has m v) → v + 1 < n) → m * 2 < 2 ^ n
next-lt zero m h = go (dec_lt m 1)
  where
    none : m < 2 ^ 0
    none = below-lt 0 m (λ v g. omega (arith, h v g))

    go : Dec (m < 1) → m * 2 < 1
    go (yes l) = omega arith
    go (no n) = absurd (n none)
next-lt (suc n) m h = omega (arith, below-lt n m (λ v g. omega (arith, h v g)))

pub meets-lt : (n : ℕ) (a b : List ℕ) → ((v : ℕ) → T (has (mask_of a) v) → v < n) → mask_of (meets a b) < 2 ^ n
meets-lt n a b h = below-lt n (mask_of (meets a b)) (λ v g. h v (both_left (has (mask_of a) v) (has (mask_of b) v) (subst T (meets-has a b v) g)))

pub mask-none : (n : ℕ) → mask_of (replicate n 0) ≡ 0
unfolding mask_of
mask-none zero = refl
mask-none (suc n) = omega (arith, mask-none n)

-- ---- rows of set words

-- the part from word a on of w words, as it is lent
pub part-size : (a w : ℕ) → a + w - a ≡ w
part-size a w = omega arith

pub row-part : (sets : List ℕ) (r w : ℕ) → take (words_a_row * r + w - words_a_row * r) (drop (words_a_row * r) sets) ≡ row_words w sets r
row-part sets r w = ap (λ (k : ℕ). take k (drop (words_a_row * r) sets)) (part-size (words_a_row * r) w)

pub row-long : (sets : List ℕ) (r w : ℕ) → words_a_row * r + w ≤ length sets → length (row_words w sets r) ≡ w
row-long sets r w l = length-take-le w (drop (words_a_row * r) sets) (simp length-drop (omega arith))

pub part-long : (sets : List ℕ) (r w : ℕ) → words_a_row * r + w ≤ length sets → length (take (words_a_row * r + w - words_a_row * r) (drop (words_a_row * r) sets)) ≡ w
part-long sets r w l = ap length (row-part sets r w) ∙ row-long sets r w l
