-- Rows put down at their targets, and rows that are touched.
use mathlib.Core.Path.{◌≡◌, refl, sym, ap, ◌∙◌, subst}
use mathlib.Core.Bool.{Bool, true, false, ◌||◌}
use mathlib.Core.List.{List}
use Prim.Native.Nat.{ℕ, ◌+◌, ◌*◌, ◌%◌, ◌≤◌, ◌<◌}
use native.Mathlib.Decide.{ℕ_discrete, dec_lt}
use native.Mathlib.Omega.{arith}
use borrow.Author.Count.{below_more}
use lib.Dec.{T}
use lib.ListN.{length, get_or, get_or-eq_default}
use Rattle.rules.specs.Sizes.{rows_most}
use Rattle.rules.proofs.Tests.{is_false}
use Rattle.rules.specs.Tools.{has}
use Rattle.rules.proofs.Sets.{zero_has}
use Rattle.sets.specs.Sets.{member, put_in, AllIn}
use Rattle.sets.proofs.SetLaws.{put-long, put-in, put-still}
use Rattle.grid.specs.Rows.{row_words}
use Rattle.leads.specs.Leads.{Leads, Grown, Touched, TouchedAll}

-- ---- rows put down at their targets

-- row i is put down at its targets on the first k bytes
pub record Listing (cells bytes old : List ℕ) (i : ℕ) (new : List ℕ) (k : ℕ) : Type 0 where
  pub grown : Grown old new
  pub listed : (j : ℕ) → j < k → Leads new (get_or cells (256 * i + get_or bytes j 0) 0) i

pub listing-more : {cells bytes old new after : List ℕ} {i k t : ℕ} → Listing cells bytes old i new k → t ≡ get_or cells (256 * i + get_or bytes k 0) 0 → Grown new after → Leads after t i
    → Listing cells bytes old i after (k + 1)
listing-more {cells} {bytes} {old} {new} {after} {i} {k} {t} L e G h = record {
  grown = record { long = G.long ∙ L.grown.long; still = λ x l. G.still x (L.grown.still x l) };
  listed = below_more (λ j. Leads after (get_or cells (256 * i + get_or bytes j 0) 0) i) k
      (λ j lj. G.still (rows_most * get_or cells (256 * i + get_or bytes j 0) 0 + i) (L.listed j lj)) (ap (λ (y : ℕ). member after (rows_most * y + i)) (sym e) ∙ h);
}

pub put-grown : (old : List ℕ) {new : List ℕ} (t i : ℕ) → rows_most * t + i < 64 * length old → new ≡ put_in old (rows_most * t + i) → Grown old new × Leads new t i
put-grown old t i l e = rw e (record { long = put-long old (rows_most * t + i); still = λ x h. put-still old (rows_most * t + i) x l h }, put-in old (rows_most * t + i) l)

-- ---- rows that are touched

pub grown-more : {a b c : List ℕ} → Grown a b → Grown b c → Grown a c
grown-more G H = record { long = H.long ∙ G.long; still = λ x h. H.still x (G.still x h) }

pub touched-still : (order preds : List ℕ) {old new : List ℕ} (from to : ℕ) → Grown old new → Touched order preds old from to → Touched order preds new from to
touched-still order preds from to G T p i lo hi li h = G.still i (T p i lo hi li h)

or-first : (a b c : Bool) → c ≡ (a || b) → a ≡ true → c ≡ true
or-first true b c e q = e
or-first false b c e q = absurd (is_false true (sym q) tt)

or-second : (a b c : Bool) → c ≡ (a || b) → b ≡ true → c ≡ true
or-second true b c e q = e
or-second false b c e q = e ∙ q

no-bit : (b : Bool) → (T b → ⊥) → b ≡ false
no-bit true h = absurd (h tt)
no-bit false h = refl

-- past the words nothing is in
out : (ws : List ℕ) (x : ℕ) → 64 * length ws ≤ x → member ws x ≡ false
unfolding member
out ws x l = ap (λ (w : ℕ). has w (x % 64)) (get_or-eq_default ws 0 (omega arith)) ∙ none_has
  where
    none_has : has 0 (x % 64) ≡ false
    none_has = no-bit (has 0 (x % 64)) (zero_has (x % 64))

module _ (order preds old : List ℕ) {new : List ℕ} (from p : ℕ) (wide : length old ≡ row_words) (long : length new ≡ length old) (A : AllIn old preds (row_words * get_or order p 0) new) where
  grown-put : Grown old new
  unfolding AllIn
  grown-put = record { long = long; still = λ x h. go x h (dec_lt x (64 * length old)) }
    where
      go : (x : ℕ) → member old x ≡ true → Dec (x < 64 * length old) → member new x ≡ true
      go x h (yes l) = or-first (member old x) (member preds (64 * (row_words * get_or order p 0) + x)) (member new x) (A x l) h
      go x h (no l) = absurd (is_false true (sym h ∙ out old x (omega (arith, l))) tt)

  -- what leads to the row at place p is put in
  pub touched-more : {first : List ℕ} → Grown first old → Touched order preds old from p → Grown first new × Touched order preds new from (p + 1)
  unfolding AllIn
  touched-more G T = (grown-more G grown-put, λ q i lo hi li h. go q i lo hi li h (ℕ_discrete q p))
    where
      same : (i : ℕ) → 64 * (row_words * get_or order p 0) + i ≡ rows_most * get_or order p 0 + i
      same i = omega arith

      go : (q i : ℕ) → from ≤ q → q < p + 1 → i < rows_most → Leads preds (get_or order q 0) i → Dec (q ≡ p) → member new i ≡ true
      go q i lo hi li h (yes e) = or-second (member old i) (member preds (64 * (row_words * get_or order p 0) + i)) (member new i) (A i (omega arith))
          (ap (member preds) (same i) ∙ ap (λ (y : ℕ). member preds (rows_most * get_or order y 0 + i)) (sym e) ∙ h)
      go q i lo hi li h (no e) = grown-put.still i (T q i lo (omega arith) li h)

-- one stretch more
pub all_more : (order start end preds : List ℕ) {old new : List ℕ} (from z : ℕ) → Grown old new → Touched order preds new (get_or start z 0) (get_or end z 0)
    → TouchedAll order start end preds old from z → TouchedAll order start end preds new from (z + 1)
all_more order start end preds {old} {new} from z G T A y lo hi = go (ℕ_discrete y z)
  where
    go : Dec (y ≡ z) → Touched order preds new (get_or start y 0) (get_or end y 0)
    go (yes e) = subst (λ (x : ℕ). Touched order preds new (get_or start x 0) (get_or end x 0)) (sym e) T
    go (no e) = touched-still order preds (get_or start y 0) (get_or end y 0) G (A y lo (omega arith))
