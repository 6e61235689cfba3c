-- Set rows come in the order in which they are listed: each step of the listing.
use mathlib.Core.Path.{◌≡◌, refl, sym, ap, ◌∙◌, subst}
use mathlib.Core.Logic.{◌≢◌, ◌⊎◌, inl, inr, ⊎_elim}
use mathlib.Core.List.{List}
use Prim.Native.Nat.{ℕ, zero, suc, ◌+◌, ◌≤◌, ◌<◌}
use native.Mathlib.Decide.{ℕ_discrete, dec_lt}
use native.Mathlib.Omega.{arith}
use lib.Dec.{T}
use lib.ListN.{length}
use Rattle.rules.specs.Tools.{place}
use Rattle.rules.specs.Tree.{Tree}
use Rattle.rules.specs.SetRows.{SetRow, same_row, Machine, machine, head_row, next, row_at, RowIn, targets, set_rows}
use Rattle.rules.proofs.Lists.{place-le, place-hit}
use Rattle.rules.proofs.RowsListed.{same-row, row_same, Before}
use Rattle.rules.proofs.SetRowsAll.{target_at, length-targets, to-byte, first_rows, distinct, target-in, ordered}
use Rattle.rules.proofs.TidyNodes.{neat}
use Rattle.cells.specs.Taken.{Taken}
use Rattle.cells.proofs.Taken.{row_of, next-taken, next-told, not-inside}
use Rattle.nodesets.specs.NodeSets.{mask_of}
use Rattle.known.specs.Known.{Unknown, TookIn}
use Rattle.cells.specs.Cells.{place_of, Reached, Going, taken_at}

module _ (X : Tree) where
  abbrev w : Machine
  w = machine X

  abbrev L : List SetRow
  L = set_rows (machine X)

  -- in a list whose rows differ, a row's place is where it stands
  place_is : (r : SetRow) (i : ℕ) → i < length L → row_at L i ≡ r → place (same_row r) L ≡ i
  place_is r i l e = distinct X (place (same_row r) L) i (omega (arith, place-le (same_row r) L i _ l hit)) l (sym (same-row r _ (place-hit (same_row r) L i _ l hit)) ∙ sym e)
    where
      hit : T (same_row r (row_at L i))
      hit = rw e (row_same r)

  -- the place of a target is in the list, and the target stands there
  place_in : (q b : ℕ) → q < length L → b < 256 → (place_of w q b < length L) × (row_at L (place_of w q b) ≡ next w (row_at L q) b)
  place_in q b l lb = let h : RowIn (next w (row_at L q) b) L = target-in X q b l lb in
      let e : place_of w q b ≡ h.0 = place_is (next w (row_at L q) b) h.0 h.1 h.2 in (omega (arith, h.1), ap {B = SetRow} (row_at L) e ∙ h.2)

  not-head : (r : SetRow) (A : ℕ) → r ≡ head_row w → r ≡ row_of w A → ⊥
  unfolding head_row
  not-head r A e f = subst (λ (x : SetRow). T x.is_head) (sym e ∙ f) tt

  -- bytes on which the same is taken lead to the same row
  pub run-same : (q : ℕ) {A : ℕ} (b a : ℕ) → Taken w (row_at L q) b A → Taken w (row_at L q) a A → place_of w q b ≡ place_of w q a
  run-same q b a t u = ap (λ (r : SetRow). place (same_row r) L) ((next-told (neat X) t u).1 refl)

  module _ {taken : ℕ → ℕ} {c q b : ℕ} (G : Going w taken c q b) where
    -- a row that is listed later than all that the ones before lead to
    not-before : (q' b' : ℕ) → (q' < q) ⊎ ((q' ≡ q) × (b' ≤ b)) → c < length L → Before (targets w) 2 L (distinct X) c q' b' → ⊥
    not-before q' b' o l (inl h) = omega (arith, G.two)
    not-before q' b' o l (inr (p, a, h, la, e)) = omega (arith, G.leads p a (to-byte X (row_at L p) a la) (earlier o h), here)
      where
        here : place_of w p a ≡ c
        here = place_is (next w (row_at L p) a) c l (sym e ∙ target_at X (row_at L p) a (to-byte X (row_at L p) a la))

        earlier : (q' < q) ⊎ ((q' ≡ q) × (b' ≤ b)) → (p < q') ⊎ ((p ≡ q') × (a < b')) → (p < q) ⊎ ((p ≡ q) × (a < b))
        earlier (inl x) (inl y) = inl (omega arith)
        earlier (inl x) (inr y) = inl (omega arith)
        earlier (inr x) (inl y) = inl (omega arith)
        earlier (inr x) (inr y) = inr (omega arith)

    -- all rows before the c-th are gone through: there are no more
    pub going_end : c ≤ q → length L ≡ c
    going_end l = go (dec_lt c (length L))
      where
        go : Dec (c < length L) → length L ≡ c
        go (yes m) = absurd (not-before c 0 (late (ℕ_discrete c q)) m (ordered X c m).own)
          where
            late : Dec (c ≡ q) → (c < q) ⊎ ((c ≡ q) × (0 ≤ b))
            late (yes e) = inr (e, omega arith)
            late (no ne) = inl (omega arith)
        go (no m) = omega (arith, G.within)

    module _ (lq : q < c) (lb : b < 256) {A : ℕ} (t : Taken w (row_at L q) b A) where
      -- what is taken has a row
      pub going-known : (i : ℕ) → 2 ≤ i → i < c → taken i ≡ A → place_of w q b ≡ i
      going-known i l h e = let r : Reached w i (taken i) = G.reached i l h in
          place_is (next w (row_at L q) b) i (omega (arith, G.within)) (r.is ∙ (next-told (neat X) r.taken t).1 e)

      -- what is taken has no row: it is the next
      pub going-fresh : ((i : ℕ) → 2 ≤ i → i < c → taken i ≢ A) → (place_of w q b ≡ c) × (c < length L)
      going-fresh none = (is-next, omega (arith, is-next, P.0))
        where
          m : ℕ
          m = place_of w q b

          P : (m < length L) × (row_at L m ≡ next w (row_at L q) b)
          P = place_in q b (omega (arith, G.within)) lb

          of-taken : row_at L m ≡ row_of w A
          of-taken = P.1 ∙ next-taken (neat X) t

          low : (i : ℕ) → m ≡ i → i < 2 → ⊥
          low zero e l = not-inside (neat X) A (sym of-taken ∙ ap {B = SetRow} (row_at L) e ∙ (first_rows X).1 0 (omega arith))
          low (suc zero) e l = not-head (row_at L m) A (ap {B = SetRow} (row_at L) e ∙ (first_rows X).1 1 (omega arith)) of-taken
          low (suc (suc i)) e l = omega arith

          old : 2 ≤ m → m < c → ⊥
          old l h = let r : Reached w m (taken m) = G.reached m l h in none m l h ((next-told (neat X) r.taken t).0 (sym r.is ∙ P.1))

          is-next : m ≡ c
          is-next = go (dec_lt m c) (dec_lt m 2) (dec_lt c m)
            where
              go : Dec (m < c) → Dec (m < 2) → Dec (c < m) → m ≡ c
              go (yes x) (yes y) z = absurd (low m refl y)
              go (yes x) (no y) z = absurd (old (omega arith) x)
              go (no x) y (yes z) = absurd (not-before q b (inr (refl, omega arith)) (omega (arith, P.0))
                  ((ordered X q (omega (arith, G.within))).target b m c (rw (length-targets X (row_at L q)) lb) P.0 (P.1 ∙ sym (target_at X (row_at L q) b lb)) z))
              go (no x) y (no z) = omega arith

    -- on the bytes from b on and before e the same is taken
    pub going_on : {A e : ℕ} → ((a : ℕ) → b ≤ a → a < e → Taken w (row_at L q) a A) → place_of w q b < c → b < e → Going w taken c q e
    going_on {A} {e} t l le = record { two = G.two; within = G.within; reached = G.reached; leads = λ p a la o. go p a la o (dec_lt a b) }
      where
        go : (p a : ℕ) → a < 256 → (p < q) ⊎ ((p ≡ q) × (a < e)) → Dec (a < b) → place_of w p a < c
        go p a la (inl h) d = G.leads p a la (inl h)
        go p a la (inr h) (yes x) = G.leads p a la (inr (h.0, x))
        go p a la (inr h) (no x) = subst (λ (y : ℕ). y < c) (run-same q b a (t b (omega arith) le) (t a (omega arith) h.1) ∙ ap (λ (y : ℕ). place_of w y a) (sym h.0)) l

    module _ {taken' : ℕ → ℕ} (same : (i : ℕ) → i < c → taken' i ≡ taken i) where
      pub going-kept : Going w taken' c q b
      going-kept = record { two = G.two; within = G.within; reached = λ i l h. rw (same i h) (G.reached i l h); leads = G.leads }

      -- the row of what is taken is listed
      pub going_more : {A : ℕ} → q < c → b < 256 → Taken w (row_at L q) b A → place_of w q b ≡ c → taken' c ≡ A → Going w taken' (suc c) q b
      going_more {A} lq lb t e last = record {
        two = omega (arith, G.two);
        within = omega (arith, P.0, e);
        reached = λ i l h. go i l h (ℕ_discrete i c);
        leads = λ p a la o. omega (arith, G.leads p a la o);
      }
        where
          P : (place_of w q b < length L) × (row_at L (place_of w q b) ≡ next w (row_at L q) b)
          P = place_in q b (omega (arith, G.within)) lb

          go : (i : ℕ) → 2 ≤ i → i < suc c → Dec (i ≡ c) → Reached w i (taken' i)
          go i l h (yes x) = record { from = q; on = b; is = ap {B = SetRow} (row_at L) (x ∙ sym e) ∙ P.1; taken = rw (x, last) t }
          go i l h (no x) = rw (same i (omega arith)) (G.reached i l (omega arith))

-- the next row
pub going_next : {w : Machine} {taken : ℕ → ℕ} {c q : ℕ} → Going w taken c q 256 → Going w taken c (q + 1) 0
going_next {w} {c = c} {q} G = record { two = G.two; within = G.within; reached = G.reached; leads = λ p a la o. G.leads p a la (earlier p a la o (ℕ_discrete p q)) }
  where
    earlier : (p a : ℕ) → a < 256 → (p < q + 1) ⊎ ((p ≡ q + 1) × (a < 0)) → Dec (p ≡ q) → (p < q) ⊎ ((p ≡ q) × (a < 256))
    earlier p a la (inl h) (yes x) = inr (x, la)
    earlier p a la (inl h) (no x) = inl (omega arith)
    earlier p a la (inr h) x = absurd (omega arith)

-- ---- a set taken in

module _ (X : Tree) {n room : ℕ} {sets words new heads nexts : List ℕ} {c q b r d : ℕ} (K : TookIn n room sets c words new heads nexts r d)
    (G : Going (machine X) (taken_at n sets) c q b) (lq : q < c) (lb : b < 256) (t : Taken (machine X) (row_at (set_rows (machine X)) q) b (mask_of words)) where
  same_taken : (i : ℕ) → i < c → taken_at n new i ≡ taken_at n sets i
  same_taken i l = ap mask_of (K.kept i l)

  pub going-took : Going (machine X) (taken_at n new) d q b × (place_of (machine X) q b ≡ r)
  going-took = ⊎_elim old fresh K.grown
    where
      old : d ≡ c → Going (machine X) (taken_at n new) d q b × (place_of (machine X) q b ≡ r)
      old e = let H : Going (machine X) (taken_at n new) c q b = going-kept X G same_taken in
          (rw e H, going-known X H lq lb t r K.row.0 (omega (arith, K.row.1)) (ap mask_of K.here))

      fresh : (d ≡ suc c) × (r ≡ c) × Unknown n sets c words → Going (machine X) (taken_at n new) d q b × (place_of (machine X) q b ≡ r)
      fresh h = let e : (place_of (machine X) q b ≡ c) × (c < length (set_rows (machine X))) = going-fresh X G lq lb t h.2 in
          (rw h.0 (going_more X G same_taken lq lb t e.0 (ap (taken_at n new) (sym h.1) ∙ ap mask_of K.here)), e.0 ∙ sym h.1)
