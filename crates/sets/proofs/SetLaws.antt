-- What is in a set of words after a number, or another set, was put in.
use mathlib.Core.Path.{◌≡◌, sym, ap, ap₂, ◌∙◌}
use mathlib.Core.Logic.{◌≢◌}
use mathlib.Core.Bool.{Bool, true, false, ◌||◌}
use mathlib.Core.List.{List}
use Prim.Native.Nat.{ℕ, suc, ◌+◌, ◌*◌, ◌-◌, ◌/◌, ◌%◌, ◌^◌, ◌≤◌, ◌<◌}
use native.Mathlib.Nat.{div_self, div-eq_of_lt, mul-mod_left, pow-suc}
use native.Mathlib.Decide.{ℕ_discrete, dec_lt}
use native.Mathlib.Omega.{arith}
use lib.Bits.{bit_or}
use lib.Dec.{eqb}
use lib.ListN.{length, get_or, set, replicate, length-set, length-replicate, get_or-replicate, get_or-eq_default}
use lib.Pow.{pow_pos, pow-lt, pow-add, shl-shr}
use lib.Seq.{get_or-set_same, get_or-set_other}
use Rattle.std.proofs.Math.Bool.{or-true, or-false}
use Rattle.rules.specs.Tools.{has}
use Rattle.rules.proofs.Sets.{has-or}
use Rattle.sets.specs.Sets.{member, put_in, AllIn}

-- ---- one word

-- a power of two has one bit
power-has : (k : ℕ) → has (2 ^ k) k ≡ true
power-has k = ap (λ (n : ℕ). eqb (n % 2) 1) (div_self (pow_pos k))

power-other : (k j : ℕ) → k ≢ j → has (2 ^ k) j ≡ false
power-other k j ne = go (dec_lt k j)
  where
    up : (d : ℕ) → k ≡ suc d + j → has (2 ^ k) j ≡ false
    up d e = ap (λ (n : ℕ). has (2 ^ n) j) e ∙ ap (λ (n : ℕ). has n j) (pow-add 2 (suc d) j) ∙ ap (λ (n : ℕ). eqb (n % 2) 1) (shl-shr (2 ^ suc d) j)
        ∙ ap (λ (n : ℕ). eqb (n % 2) 1) (pow-suc 2 d) ∙ ap (λ (n : ℕ). eqb n 1) (mul-mod_left (2 ^ d) 2)

    go : Dec (k < j) → has (2 ^ k) j ≡ false
    go (yes l) = ap (λ (n : ℕ). eqb (n % 2) 1) (div-eq_of_lt (pow-lt l))
    go (no n) = up (k - j - 1) (omega arith)

-- ---- one number put in

module _ (ws : List ℕ) (x : ℕ) where
  pub put-long : length (put_in ws x) ≡ length ws
  unfolding put_in
  put-long = length-set ws (x / 64) (bit_or (get_or ws (x / 64) 0) (2 ^ (x % 64)))

  pub put-in : x < 64 * length ws → member (put_in ws x) x ≡ true
  unfolding member put_in
  put-in l = ap (λ (w : ℕ). has w (x % 64)) (get_or-set_same ws (x / 64) (bit_or (get_or ws (x / 64) 0) (2 ^ (x % 64))) 0 (omega arith))
      ∙ has-or (get_or ws (x / 64) 0) (2 ^ (x % 64)) (x % 64)
      ∙ ap (λ (b : Bool). has (get_or ws (x / 64) 0) (x % 64) || b) (power-has (x % 64)) ∙ or-true (has (get_or ws (x / 64) 0) (x % 64))

  pub put_other : (u : ℕ) → x < 64 * length ws → u ≢ x → member (put_in ws x) u ≡ member ws u
  unfolding member put_in
  put_other u l ne = go (ℕ_discrete (u / 64) (x / 64))
    where
      v : ℕ
      v = bit_or (get_or ws (x / 64) 0) (2 ^ (x % 64))

      go : Dec (u / 64 ≡ x / 64) → has (get_or (set ws (x / 64) v) (u / 64) 0) (u % 64) ≡ has (get_or ws (u / 64) 0) (u % 64)
      go (yes e) =
          let k : x % 64 ≢ u % 64 = λ q. ne (omega arith) in
          ap (λ (i : ℕ). has (get_or (set ws (x / 64) v) i 0) (u % 64)) e
          ∙ ap (λ (w : ℕ). has w (u % 64)) (get_or-set_same ws (x / 64) v 0 (omega arith))
          ∙ has-or (get_or ws (x / 64) 0) (2 ^ (x % 64)) (u % 64)
          ∙ ap (λ (b : Bool). has (get_or ws (x / 64) 0) (u % 64) || b) (power-other (x % 64) (u % 64) k)
          ∙ or-false (has (get_or ws (x / 64) 0) (u % 64))
          ∙ ap (λ (i : ℕ). has (get_or ws i 0) (u % 64)) (sym e)
      go (no n) = ap (λ (w : ℕ). has w (u % 64)) (get_or-set_other ws (x / 64) (u / 64) v 0 n)

  -- what was in is in still
  pub put-still : (u : ℕ) → x < 64 * length ws → member ws u ≡ true → member (put_in ws x) u ≡ true
  put-still u l h = go (ℕ_discrete u x)
    where
      go : Dec (u ≡ x) → member (put_in ws x) u ≡ true
      go (yes e) = ap (λ (y : ℕ). member (put_in ws x) y) e ∙ put-in l
      go (no n) = put_other u l n ∙ h

-- ---- nothing is in words of 0

pub none_in : (n x : ℕ) → member (replicate n 0) x ≡ false
unfolding member
none_in n x = go (dec_lt (x / 64) n)
  where
    zero_has : has 0 (x % 64) ≡ false
    zero_has = ap (λ (m : ℕ). eqb (m % 2) 1) (div-eq_of_lt (pow_pos (x % 64)))

    go : Dec (x / 64 < n) → has (get_or (replicate n 0) (x / 64) 0) (x % 64) ≡ false
    go (yes l) = ap (λ (w : ℕ). has w (x % 64)) (get_or-replicate n (x / 64) 0 0 l) ∙ zero_has
    go (no m) = ap (λ (w : ℕ). has w (x % 64)) (get_or-eq_default (replicate n 0) 0 (omega (arith, length-replicate {A = ℕ} n 0))) ∙ zero_has

-- ---- a set put in, word by word

pub record Joined (ws vs : List ℕ) (start i : ℕ) (new : List ℕ) : Type 0 where
  pub long : length new ≡ length ws
  pub done : (j : ℕ) → j < i → get_or new j 0 ≡ bit_or (get_or ws j 0) (get_or vs (start + j) 0)
  pub rest : (j : ℕ) → i ≤ j → get_or new j 0 ≡ get_or ws j 0

module _ {ws vs new : List ℕ} {start i : ℕ} (J : Joined ws vs start i new) where
  pub joined_more : i < length ws → Joined ws vs start (i + 1) (set new i (bit_or (get_or new i 0) (get_or vs (start + i) 0)))
  joined_more l = record {
    long = length-set new i v ∙ J.long;
    done = λ j lj. go j lj (ℕ_discrete j i);
    rest = λ j lj. get_or-set_other new i j v 0 (omega arith) ∙ J.rest j (omega arith);
  }
    where
      v : ℕ
      v = bit_or (get_or new i 0) (get_or vs (start + i) 0)

      go : (j : ℕ) → j < i + 1 → Dec (j ≡ i) → get_or (set new i v) j 0 ≡ bit_or (get_or ws j 0) (get_or vs (start + j) 0)
      go j lj (yes e) = ap (λ (k : ℕ). get_or (set new i v) k 0) e ∙ get_or-set_same new i v 0 (omega (arith, J.long))
          ∙ ap (λ (w : ℕ). bit_or w (get_or vs (start + i) 0)) (J.rest i (omega arith)) ∙ ap (λ (k : ℕ). bit_or (get_or ws k 0) (get_or vs (start + k) 0)) (sym e)
      go j lj (no n) = get_or-set_other new i j v 0 n ∙ J.done j (omega arith)

  pub joined_all : length ws ≤ i → AllIn ws vs start new
  unfolding AllIn member
  joined_all l x lx = ap (λ (w : ℕ). has w (x % 64)) (J.done (x / 64) (omega arith))
      ∙ has-or (get_or ws (x / 64) 0) (get_or vs (start + x / 64) 0) (x % 64)
      ∙ ap₂ (λ (i k : ℕ). has (get_or ws (x / 64) 0) (x % 64) || has (get_or vs i 0) k) word bit
    where
      word : start + x / 64 ≡ (64 * start + x) / 64
      word = omega arith

      bit : x % 64 ≡ (64 * start + x) % 64
      bit = omega arith
