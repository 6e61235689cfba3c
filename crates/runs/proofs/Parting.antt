-- Bytes that are parted from the byte before, and runs of bytes that are not.
use mathlib.Core.Bool.{◌||◌}
use mathlib.Core.Path.{◌≡◌, sym, ap, ◌∙◌, subst}
use mathlib.Core.Logic.{◌≢◌}
use mathlib.Core.List.{List}
use Prim.Native.Nat.{ℕ, zero, suc, ◌+◌, ◌*◌, ◌-◌, ◌/◌, ◌%◌, ◌^◌, ◌≤◌, ◌<◌}
use native.Mathlib.Decide.{ℕ_discrete, dec_lt}
use native.Mathlib.Numerals.{add-one}
use native.Mathlib.Omega.{arith}
use borrow.Author.Count.{below_more}
use lib.Bits.{bit_or, bit_xor, xor_shr, xor_add_and}
use lib.Dec.{T, eqb}
use lib.ListN.{length, get_or, set, length-set}
use lib.Seq.{get_or-set_same, get_or-set_other}
use Rattle.rules.specs.Tools.{has}
use Rattle.rules.proofs.Sets.{bit, bit-suc, not-bit}
use Rattle.sets.specs.Sets.{member}
use Rattle.rules.proofs.Sets.{has-or}
use Rattle.bytesets.specs.ByteSets.{joined}
use Rattle.program.specs.Program.{atom_bytes}
use Rattle.bytesets.proofs.ByteSetLaws.{has-low, has-high, left-test, right-test}
use Rattle.runs.specs.Runs.{Starts, InRun, Changes, Parts, PartedBy, PartedTo, Whole}

-- ---- the bits of a word that differ from the bit below

xor-none : (x y j : ℕ) → (T (has (bit_xor x y) j) → ⊥) → has x j ≡ has y j
xor-none x y j n = ap (λ (z : ℕ). eqb z 1) (lowest (x / 2 ^ j) (y / 2 ^ j) (ap (λ (z : ℕ). z % 2) (sym (xor_shr x y j)) ∙ not-bit (bit_xor x y) j n))
  where
    lowest : (a c : ℕ) → bit_xor a c % 2 ≡ 0 → a % 2 ≡ c % 2
    lowest a c e = omega (arith, xor_add_and a c)

pub changes-are : (word below : ℕ) → Changes word below (bit_xor word (word % 2 ^ 63 * 2 + below))
changes-are word below j l n = xor-none word (word % 2 ^ 63 * 2 + below) j n ∙ sym (ap (λ (z : ℕ). has z j) whole ∙ has-low j (word % 2 ^ 63 * 2 + below) (word / 2 ^ 63) l)
  where
    whole : word * 2 + below ≡ word % 2 ^ 63 * 2 + below + 2 ^ 64 * (word / 2 ^ 63)
    whole = omega arith

-- ---- the same of a set in words

-- of the first n bits those that are not in P are as the bit below; c is the bit below the lowest
abbrev SameBelow : ℕ → (ℕ → Type 0) → ℕ → ℕ → Type 0
SameBelow n P c m = (v : ℕ) → v < n → (P v → ⊥) → has m v ≡ has (m * 2 + c) v

-- a word, and the words above it
word_below : (n c a m : ℕ) (P : ℕ → Type 0) → a < 2 ^ 64 → c < 2 → SameBelow 64 P c a → SameBelow n (λ v. P (64 + v)) (a / 2 ^ 63) m → SameBelow (64 + n) P c (a + 2 ^ 64 * m)
word_below n c a m P la lc low high v lv np = go (dec_lt v 64)
  where
    twice-low : (a + 2 ^ 64 * m) * 2 + c ≡ a * 2 + c + 2 ^ 64 * (m * 2)
    twice-low = omega arith

    twice-high : (a + 2 ^ 64 * m) * 2 + c ≡ a % 2 ^ 63 * 2 + c + 2 ^ 64 * (m * 2 + a / 2 ^ 63)
    twice-high = omega arith

    go : Dec (v < 64) → has (a + 2 ^ 64 * m) v ≡ has ((a + 2 ^ 64 * m) * 2 + c) v
    go (yes l) = has-low v a m l ∙ low v l np ∙ sym (ap (λ (z : ℕ). has z v) twice-low ∙ has-low v (a * 2 + c) (m * 2) l)
    go (no l) = subst (λ (k : ℕ). has (a + 2 ^ 64 * m) k ≡ has ((a + 2 ^ 64 * m) * 2 + c) k) (sym past)
        (has-high (v - 64) a m la ∙ high (v - 64) (omega arith) (λ p. np (subst P (sym past) p))
        ∙ sym (ap (λ (z : ℕ). has z (64 + (v - 64))) twice-high ∙ has-high (v - 64) (a % 2 ^ 63 * 2 + c) (m * 2 + a / 2 ^ 63) (omega arith)))
      where
        past : v ≡ 64 + (v - 64)
        past = omega arith

same_parts : (parted : List ℕ) (B : ℕ) → SameBelow 256 (λ v. T (member parted v)) 0 B → Parts parted B
same_parts parted B same b l n = same (b + 1) (omega arith) n ∙ ap (λ (k : ℕ). has (B * 2 + 0) k) (add-one b) ∙ ap (λ (z : ℕ). eqb z 1) (bit-suc (B * 2 + 0) b ∙ ap (λ (z : ℕ). bit z b) half)
  where
    half : (B * 2 + 0) / 2 ≡ B
    half = omega arith

-- ---- bits put into a word

abbrev pub or_in : List ℕ → ℕ → ℕ → List ℕ
or_in ws i r = set ws i (bit_or (get_or ws i 0) r)

module _ (ws : List ℕ) (i r : ℕ) (l : i < length ws) where
  or_at : (j : ℕ) → has (get_or (or_in ws i r) i 0) j ≡ (has (get_or ws i 0) j || has r j)
  or_at j = ap (λ (z : ℕ). has z j) (get_or-set_same ws i (bit_or (get_or ws i 0) r) 0 l) ∙ has-or (get_or ws i 0) r j

  or-keeps : (v : ℕ) → T (member ws v) → T (member (or_in ws i r) v)
  unfolding member
  or-keeps v h = go (ℕ_discrete (v / 64) i)
    where
      go : Dec (v / 64 ≡ i) → T (has (get_or (or_in ws i r) (v / 64) 0) (v % 64))
      go (yes e) = rw (e, or_at (v % 64)) (left-test (has (get_or ws i 0) (v % 64)) (has r (v % 64)) (rw e at h))
      go (no n) = rw (get_or-set_other ws i (v / 64) (bit_or (get_or ws i 0) r) 0 n) h

  or-adds : (v j : ℕ) → v ≡ 64 * i + j → j < 64 → T (has r j) → T (member (or_in ws i r) v)
  unfolding member
  or-adds v j e lj h = rw (word, place, or_at j) (right-test (has (get_or ws i 0) j) (has r j) h)
    where
      word : v / 64 ≡ i
      word = omega arith

      place : v % 64 ≡ j
      place = omega arith

-- the bits that change in the four words of a set put in
pub parted-by : (p : List ℕ) (a b c d r s t q : ℕ) → length p ≡ 4 → a < 2 ^ 64 → b < 2 ^ 64 → c < 2 ^ 64
    → Changes a 0 r → Changes b (a / 2 ^ 63) s → Changes c (b / 2 ^ 63) t → Changes d (c / 2 ^ 63) q → PartedBy p (or_in (or_in (or_in (or_in p 0 r) 1 s) 2 t) 3 q) (joined a b c d)
parted-by p a b c d r s t q long la lb lc ca cb cc cd = record {
  long = simp length-set;
  keeps = λ v h. keeps₃ v (keeps₂ v (keeps₁ v (or-keeps p 0 r (omega arith) v h)));
  parts = same_parts p₄ (joined a b c d)
      (word_below 192 0 a _ P la (omega arith) (λ j l n. ca j l (λ h. n (keeps₃ j (keeps₂ j (keeps₁ j (or-adds p 0 r (omega arith) j j (omega arith) l h))))))
      (word_below 128 (a / 2 ^ 63) b _ (λ v. P (64 + v)) lb (omega arith) (λ j l n. cb j l (λ h. n (keeps₃ (64 + j) (keeps₂ (64 + j) (or-adds p₁ 1 s long₁ (64 + j) j (omega arith) l h)))))
      (word_below 64 (b / 2 ^ 63) c d (λ v. P (64 + (64 + v))) lc (omega arith) (λ j l n. cc j l (λ h. n (keeps₃ (64 + (64 + j)) (or-adds p₂ 2 t long₂ (64 + (64 + j)) j (omega arith) l h))))
      (λ j l n. cd j l (λ h. n (or-adds p₃ 3 q long₃ (64 + (64 + (64 + j))) j (omega arith) l h))))));
}
  where
    p₁ : List ℕ
    p₁ = or_in p 0 r

    p₂ : List ℕ
    p₂ = or_in p₁ 1 s

    p₃ : List ℕ
    p₃ = or_in p₂ 2 t

    p₄ : List ℕ
    p₄ = or_in p₃ 3 q

    P : ℕ → Type 0
    P v = T (member p₄ v)

    long₁ : 1 < length p₁
    long₁ = simp length-set (omega arith)

    long₂ : 2 < length p₂
    long₂ = simp length-set (omega arith)

    long₃ : 3 < length p₃
    long₃ = simp length-set (omega arith)

    keeps₁ : (v : ℕ) → T (member p₁ v) → T (member p₂ v)
    keeps₁ = or-keeps p₁ 1 s long₁

    keeps₂ : (v : ℕ) → T (member p₂ v) → T (member p₃ v)
    keeps₂ = or-keeps p₂ 2 t long₂

    keeps₃ : (v : ℕ) → T (member p₃ v) → T (member p₄ v)
    keeps₃ = or-keeps p₃ 3 q long₃

-- ---- node after node

module _ (program kind atom : List ℕ) {n : ℕ} (old : List ℕ) (P : PartedTo n program kind atom old) where
  pub parted-in : {new : List ℕ} {B : ℕ} → B ≡ atom_bytes program (get_or atom n 0) → PartedBy old new B → PartedTo (n + 1) program kind atom new
  parted-in {new} {B} e N = below_more (λ u. get_or kind u 0 ≡ 4 → Parts new (atom_bytes program (get_or atom u 0))) n
      (λ u l f b lb out. P u l f b lb (λ h. out (N.keeps (b + 1) h))) (λ f. subst (Parts new) e N.parts)

  pub parted-out : get_or kind n 0 ≢ 4 → PartedTo (n + 1) program kind atom old
  parted-out ne = below_more (λ u. get_or kind u 0 ≡ 4 → Parts old (atom_bytes program (get_or atom u 0))) n P (λ f. absurd (ne f))

-- ---- runs listed so far

-- the bytes before b are in runs, of which b ends the last
pub record RunsTo (parted starts : List ℕ) (runs b : ℕ) : Type 0 where
  pub long : length starts ≡ 257
  pub some : 1 ≤ runs
  pub few : runs ≤ b
  pub first : get_or starts 0 0 ≡ 0
  pub last : get_or starts runs 0 ≡ b
  pub rises : (k : ℕ) → k < runs → (get_or starts k 0 < get_or starts (k + 1) 0) × (get_or starts (k + 1) 0 ≤ b)
  pub whole : Whole parted starts runs

module _ {parted starts : List ℕ} {runs b : ℕ} (R : RunsTo parted starts runs b) (l : b < 256) where
  -- byte b begins a run
  pub runs-next : RunsTo parted (set starts (runs + 1) (b + 1)) (runs + 1) (b + 1)
  runs-next = record {
    long = length-set starts (runs + 1) (b + 1) ∙ R.long;
    some = omega arith;
    few = omega (arith, R.few);
    first = old 0 (omega arith) ∙ R.first;
    last = end;
    rises = below_more (λ k. (get_or new k 0 < get_or new (k + 1) 0) × (get_or new (k + 1) 0 ≤ b + 1)) runs
        (λ k lk. rw (old k (omega arith), old (k + 1) (omega arith)) (omega (arith, R.rises k lk))) (rw (old runs (omega arith), end) (omega (arith, R.last)));
    whole = λ k c lk. below_more (λ k. get_or new k 0 < c → c < get_or new (k + 1) 0 → T (member parted c) → ⊥) runs
        (λ k lk. rw (old k (omega arith), old (k + 1) (omega arith)) (R.whole k c lk)) (λ m n. absurd (omega (arith, m, n, end, old runs (omega arith), R.last))) k lk;
  }
    where
      new : List ℕ
      new = set starts (runs + 1) (b + 1)

      old : (i : ℕ) → i < runs + 1 → get_or new i 0 ≡ get_or starts i 0
      old i li = get_or-set_other starts (runs + 1) i (b + 1) 0 (omega arith)

      end : get_or new (runs + 1) 0 ≡ b + 1
      end = get_or-set_same starts (runs + 1) (b + 1) 0 (omega (arith, R.few, R.long))

  -- byte b goes on in the last run
  pub runs-longer : (T (member parted b) → ⊥) → RunsTo parted (set starts runs (b + 1)) runs (b + 1)
  runs-longer n = record {
    long = length-set starts runs (b + 1) ∙ R.long;
    some = R.some;
    few = omega (arith, R.few);
    first = old 0 R.some ∙ R.first;
    last = end;
    rises = λ k lk. rises k lk (ℕ_discrete (k + 1) runs);
    whole = λ k c lk lc hc. whole k c lk (rw (old k lk) at lc) hc (ℕ_discrete (k + 1) runs) (ℕ_discrete c b);
  }
    where
      new : List ℕ
      new = set starts runs (b + 1)

      old : (i : ℕ) → i < runs → get_or new i 0 ≡ get_or starts i 0
      old i li = get_or-set_other starts runs i (b + 1) 0 (omega arith)

      end : get_or new runs 0 ≡ b + 1
      end = get_or-set_same starts runs (b + 1) 0 (omega (arith, R.few, R.long))

      rises : (k : ℕ) → k < runs → Dec (k + 1 ≡ runs) → (get_or new k 0 < get_or new (k + 1) 0) × (get_or new (k + 1) 0 ≤ b + 1)
      rises k lk (yes e) = rw (old k lk, e, end) (omega (arith, R.rises k lk), omega arith)
      rises k lk (no ne) = rw (old k lk, old (k + 1) (omega arith)) (omega (arith, R.rises k lk))

      whole : (k c : ℕ) → k < runs → get_or starts k 0 < c → c < get_or new (k + 1) 0 → Dec (k + 1 ≡ runs) → Dec (c ≡ b) → T (member parted c) → ⊥
      whole k c lk lc hc (yes e) (yes f) = rw f n
      whole k c lk lc hc (yes e) (no f) = R.whole k c lk lc (rw (e, R.last) (omega (arith, rw (e, end) at hc)))
      whole k c lk lc hc (no ne) d = R.whole k c lk lc (rw (old (k + 1) (omega arith)) at hc)

-- ---- a set that has one byte of a run has them all

pub alike : (parted : List ℕ) (B : ℕ) {starts : List ℕ} {runs : ℕ} → Starts starts runs → Whole parted starts runs → Parts parted B → (k b : ℕ) → k < runs → InRun starts k b
    → has B (get_or starts k 0) ≡ has B b
alike parted B {starts} S W P k b lk (from, to) = up b from to
  where
    up : (b : ℕ) → get_or starts k 0 ≤ b → b < get_or starts (k + 1) 0 → has B (get_or starts k 0) ≡ has B b
    up zero f t = let e : get_or starts k 0 ≡ 0 = omega arith in rw e
    up (suc b) f t = go (ℕ_discrete (get_or starts k 0) (suc b)) (λ g. up b g (omega arith))
      where
        go : Dec (get_or starts k 0 ≡ suc b) → (get_or starts k 0 ≤ b → has B (get_or starts k 0) ≡ has B b) → has B (get_or starts k 0) ≡ has B (suc b)
        go (yes e) rec = rw e
        go (no ne) rec = rec (omega arith) ∙ sym (subst (λ (c : ℕ). has B c ≡ has B b) (add-one b)
            (P b (omega (arith, S.rises k lk)) (W k (b + 1) lk (omega arith) (omega arith))))
