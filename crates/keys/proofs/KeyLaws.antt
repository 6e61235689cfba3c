-- Keys of classes, rows that go to classes of one key, and what is found of a row's keys on its way through the columns.
use mathlib.Core.Path.{◌≡◌, refl, sym, ap, ◌∙◌}
use mathlib.Core.Logic.{◌≢◌, ∥∥₁_elim}
use mathlib.Core.Bool.{Bool, true, false, not, ◌||◌}
use mathlib.Core.List.{List, [], ◌∷◌}
use Prim.Native.Nat.{ℕ, zero, suc, ◌+◌, ◌≤◌, ◌<◌}
use native.Mathlib.Decide.{ℕ_discrete}
use Rattle.std.proofs.Math.Nat.{ℕ_set}
use native.Mathlib.Numerals.{add-one}
use native.Mathlib.Omega.{arith}
use borrow.Author.Count.{below_more}
use borrow.Author.Tests.{lt-ltb, le-ltb, eqb-true, eqb-false, not-true, not-false}
use lib.Dec.{eqb}
use lib.ListN.{length, get_or, drop, drop_of_length-le}
use lib.Seq.{drop-cons}
use Rattle.rules.proofs.Tests.{is_false}
use Rattle.columns.specs.Columns.{Columns}
use Rattle.mixing.specs.Mixing.{mixed, bucket_for}
use Rattle.keys.specs.Keys.{key, key_on, Idle, KeysAlike, Alike, Tells, all_mixed, bucket_of, mixed_in}

-- ---- the key of a class

module _ {from x : ℕ} where
  pub key-low : x < from → key from x ≡ 0
  unfolding key
  key-low l = ap (λ (b : Bool). elim b [ true ↦ 0 | false ↦ x ]) (lt-ltb x from l)

  pub key-high : from ≤ x → key from x ≡ x
  unfolding key
  key-high l = ap (λ (b : Bool). elim b [ true ↦ 0 | false ↦ x ]) (le-ltb x from l)

-- ---- rows that go to classes of one key

-- each is a byte
abbrev pub Bytes : List ℕ → Type 0
Bytes bytes = (k : ℕ) → k < length bytes → get_or bytes k 0 < 256

-- rows i and j go to classes of one key on each of the first m bytes
abbrev pub SameTo : List ℕ → List ℕ → ℕ → List ℕ → ℕ → ℕ → ℕ → Type 0
SameTo cells class from bytes i j m = (k : ℕ) → k < m → key_on cells class from i (get_or bytes k 0) ≡ key_on cells class from j (get_or bytes k 0)

module _ {cells bytes : List ℕ} {n : ℕ} (class : List ℕ) (from : ℕ) (listed : ∥ Columns cells bytes n ∥₁) where
  -- rows whose keys agree on the bytes listed agree on every byte
  pub on-columns : {i j : ℕ} → i < n → j < n → SameTo cells class from bytes i j (length bytes) → KeysAlike cells class from i j
  on-columns {i} {j} li lj h b l = ∥∥₁_elim listed (ℕ_set (key_on cells class from i b) (key_on cells class from j b)) (λ C. ap (λ (x : ℕ). key from (get_or class x 0)) ((C.column b l).2 i li)
      ∙ h (C.column b l).0 (C.column b l).1 ∙ sym (ap (λ (x : ℕ). key from (get_or class x 0)) ((C.column b l).2 j lj)))

  -- a row that goes to no class that waits on the bytes listed goes to none
  pub idle-columns : {r : ℕ} → r < n → ((k : ℕ) → k < length bytes → key_on cells class from r (get_or bytes k 0) ≡ 0) → Idle cells class from r
  idle-columns {r} lr h b l = ∥∥₁_elim listed (ℕ_set (key_on cells class from r b) 0) (λ C. ap (λ (x : ℕ). key from (get_or class x 0)) ((C.column b l).2 r lr) ∙ h (C.column b l).0 (C.column b l).1)

  pub alike_all : {i j m : ℕ} → length bytes ≤ m → i < n → j < n → SameTo cells class from bytes i j m → Tells true cells class from i j
  alike_all few li lj h = record { yes = λ e. on-columns li lj (λ k l. h k (omega arith)); no = λ e. absurd (is_false true e tt) }

module _ {cells class : List ℕ} {from : ℕ} where
  pub alike_refl : (i : ℕ) → Alike cells class from i i
  alike_refl i = record { together = refl; goes = λ b l. refl }

  pub alike-sym : {i j : ℕ} → Alike cells class from i j → Alike cells class from j i
  alike-sym s = record { together = sym s.together; goes = λ b l. sym (s.goes b l) }

  pub alike-trans : {i j k : ℕ} → Alike cells class from i j → Alike cells class from j k → Alike cells class from i k
  alike-trans s t = record { together = s.together ∙ t.together; goes = λ b l. s.goes b l ∙ t.goes b l }

-- rows that go to no class that waits
module _ (cells class : List ℕ) (from : ℕ) (i j : ℕ) where
  pub idle-alike : Idle cells class from i → Idle cells class from j → KeysAlike cells class from i j
  idle-alike p q b l = p b l ∙ sym (q b l)

  pub idle-like : KeysAlike cells class from i j → Idle cells class from i → Idle cells class from j
  idle-like s p b l = sym (s b l) ∙ p b l

-- two that are not the same below n differ somewhere
pub some_byte : (f g : ℕ → ℕ) (n : ℕ) → (((b : ℕ) → b < n → f b ≡ g b) → ⊥) → (b : ℕ) × (b < n) × (f b ≢ g b)
some_byte f g zero h = absurd (h (λ b l. absurd (omega arith)))
some_byte f g (suc n) h = go (ℕ_discrete (f n) (g n)) (some_byte f g n)
  where
    go : Dec (f n ≡ g n) → ((((b : ℕ) → b < n → f b ≡ g b) → ⊥) → (b : ℕ) × (b < n) × (f b ≢ g b)) → (b : ℕ) × (b < suc n) × (f b ≢ g b)
    go (no d) earlier = (n, omega arith, d)
    go (yes e) earlier = let m = earlier (λ all. h (λ b l. below_more (λ i. f i ≡ g i) n all e b (omega arith))) in (m.0, omega (arith, m.1), m.2)

-- ---- the bucket of a row

module _ (cells class : List ℕ) (from : ℕ) (bytes : List ℕ) (r k h : ℕ) where
  pub mixed-more : {g : ℕ} → k < length bytes → g ≡ mixed_in h (get_or bytes k 0) (key_on cells class from r (get_or bytes k 0))
      → all_mixed cells class from r h (drop k bytes) ≡ all_mixed cells class from r 0 bytes
      → all_mixed cells class from r g (drop (k + 1) bytes) ≡ all_mixed cells class from r 0 bytes
  unfolding all_mixed
  mixed-more l e q = rw (e, add-one) (ap (all_mixed cells class from r h) (sym (drop-cons bytes k 0 l)) ∙ q)

  pub mixed-end : {g : ℕ} → length bytes ≤ k → g ≡ mixed h + get_or class r 0 → all_mixed cells class from r h (drop k bytes) ≡ all_mixed cells class from r 0 bytes
      → bucket_for g ≡ bucket_of cells class from bytes r
  unfolding all_mixed bucket_of
  mixed-end l e q = rw e (ap (λ (z : ℕ). bucket_for (mixed z + get_or class r 0)) (ap (all_mixed cells class from r h) (sym (drop_of_length-le bytes l)) ∙ q))

module _ {cells class : List ℕ} {from i j : ℕ} (s : Alike cells class from i j) where
  same-mixed : (bytes : List ℕ) (h : ℕ) → Bytes bytes → all_mixed cells class from i h bytes ≡ all_mixed cells class from j h bytes
  unfolding all_mixed
  same-mixed [] h p = refl
  same-mixed (b ∷ bs) h p =
      ap (λ (x : ℕ). all_mixed cells class from i (mixed_in h b x) bs) (s.goes b (p 0 (omega arith)))
      ∙ same-mixed bs (mixed_in h b (key_on cells class from j b)) (λ k l. p (suc k) (omega arith))

  pub same-bucket : (bytes : List ℕ) → Bytes bytes → bucket_of cells class from bytes i ≡ bucket_of cells class from bytes j
  unfolding bucket_of
  same-bucket bytes p =
      ap (λ (x : ℕ). bucket_for (mixed x + get_or class i 0)) (same-mixed bytes 0 p)
      ∙ ap (λ (x : ℕ). bucket_for (mixed (all_mixed cells class from j 0 bytes) + x)) s.together

-- ---- whether a row goes to a class that waits

-- what the first k columns say of row r
pub record Seen (any : Bool) (cells class : List ℕ) (from : ℕ) (bytes : List ℕ) (r k : ℕ) : Type 0 where
  pub yes : any ≡ true → Idle cells class from r → ⊥
  pub no : any ≡ false → (j : ℕ) → j < k → key_on cells class from r (get_or bytes j 0) ≡ 0

module _ {cells class : List ℕ} {from : ℕ} {bytes : List ℕ} {r k : ℕ} where
  pub seen_more : (any : Bool) (x : ℕ) → Seen any cells class from bytes r k → get_or bytes k 0 < 256 → x ≡ key_on cells class from r (get_or bytes k 0)
      → Seen (any || not (eqb x 0)) cells class from bytes r (k + 1)
  seen_more true x s l q = record { yes = λ e. s.yes refl; no = λ e. absurd (is_false true e tt) }
  seen_more false x s l q = record {
    yes = λ e p. eqb-false x 0 (not-true (eqb x 0) e) (q ∙ p (get_or bytes k 0) l);
    no = λ e. below_more (λ j. key_on cells class from r (get_or bytes j 0) ≡ 0) k (s.no refl) (sym q ∙ eqb-true x 0 (not-false (eqb x 0) e));
  }

  pub seen_idle : {any : Bool} {n : ℕ} → ∥ Columns cells bytes n ∥₁ → r < n → length bytes ≤ k → any ≡ false → Seen any cells class from bytes r k → Idle cells class from r
  seen_idle C lr m e s = idle-columns class from C lr (λ j l. s.no e j (omega arith))
