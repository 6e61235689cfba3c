-- A class cut in two: one part keeps its number, the rows of the other take a new one.
use mathlib.Core.Path.{◌≡◌, sym, ◌∙◌, subst}
use mathlib.Core.Logic.{◌⊎◌, inl, inr, ⊎_elim, ◌≢◌}
use mathlib.Core.List.{List}
use Prim.Native.Nat.{ℕ, ◌+◌, ◌≤◌, ◌<◌}
use native.Mathlib.Decide.{ℕ_discrete, dec_lt}
use native.Mathlib.Omega.{arith}
use borrow.Author.Tests.{lt-ltb, le-ltb, ltb-true}
use lib.Dec.{ltb}
use lib.ListN.{length, get_or, set, length-set}
use lib.Seq.{get_or-set_same, get_or-set_other}
use Rattle.stretches.specs.Stretches.{Stretches, Within, Renumbered, CutAt}
use Rattle.stretches.proofs.StretchLaws.{room}

-- ---- rows renumbered place by place

-- ---- the parts of a stretch

-- places beside those from a to b
abbrev Beside : ℕ → ℕ → ℕ → Type 0
Beside a b p = (p < a) ⊎ (b ≤ p)

-- of the stretch from s to e, cut at a place, one part is from a to b, the other from s' to e'
record Parts (s at e a b s' e' : ℕ) : Type 0 where
  new-from : s ≤ a
  new-some : a < b
  new-to : b ≤ e
  old-from : s ≤ s'
  old-some : s' < e'
  old-to : e' ≤ e
  apart : (p : ℕ) → s' ≤ p → p < e' → Beside a b p
  cover : (p : ℕ) → s ≤ p → p < e → Beside a b p → (s' ≤ p) × (p < e')
  new-side : (p q : ℕ) → a ≤ p → p < b → a ≤ q → q < b → ltb p at ≡ ltb q at
  old-side : (p q : ℕ) → s' ≤ p → p < e' → s' ≤ q → q < e' → ltb p at ≡ ltb q at
  sides : (p q : ℕ) → a ≤ p → p < b → s' ≤ q → q < e' → ltb p at ≡ ltb q at → ⊥

both_below : (at p q : ℕ) → p < at → q < at → ltb p at ≡ ltb q at
both_below at p q x y = lt-ltb p at x ∙ sym (lt-ltb q at y)

none_below : (at p q : ℕ) → at ≤ p → at ≤ q → ltb p at ≡ ltb q at
none_below at p q x y = le-ltb p at x ∙ sym (le-ltb q at y)

one_below : (at p q : ℕ) → p < at → at ≤ q → ltb p at ≡ ltb q at → ⊥
one_below at p q x y e = omega (arith, ltb-true q at (sym e ∙ lt-ltb p at x))

end-parts : {s at e : ℕ} → s < at → at < e → Parts s at e at e s at
end-parts {s} {at} {e} x y = record {
  new-from = omega arith;
  new-some = y;
  new-to = omega arith;
  old-from = omega arith;
  old-some = x;
  old-to = omega arith;
  apart = λ p h l. inl l;
  cover = λ p h l b. (h, ⊎_elim (λ (k : p < at). k) (λ (k : e ≤ p). omega arith) b);
  new-side = λ p q h l i m. none_below at p q h i;
  old-side = λ p q h l i m. both_below at p q l m;
  sides = λ p q h l i m t. one_below at q p m h (sym t);
}

start-parts : {s at e : ℕ} → s < at → at < e → Parts s at e s at at e
start-parts {s} {at} {e} x y = record {
  new-from = omega arith;
  new-some = x;
  new-to = omega arith;
  old-from = omega arith;
  old-some = y;
  old-to = omega arith;
  apart = λ p h l. inr h;
  cover = λ p h l b. (⊎_elim (λ (k : p < s). omega arith) (λ (k : at ≤ p). k) b, l);
  new-side = λ p q h l i m. both_below at p q l m;
  old-side = λ p q h l i m. none_below at p q h i;
  sides = λ p q h l i m t. one_below at p q l i t;
}

-- ---- a cut

-- the class of the row at a place
abbrev of : List ℕ → List ℕ → ℕ → ℕ
of order class p = get_or class (get_or order p 0) 0

-- a row takes the new number, or keeps its own
data Side (order class class' : List ℕ) (c many a b p : ℕ) : Type 0 where
  fresh : a ≤ p → p < b → of order class' p ≡ many → of order class p ≡ c → Side order class class' c many a b p
  still : Beside a b p → of order class' p ≡ of order class p → Side order class class' c many a b p

-- the part from a to b of class c's stretch becomes that of class `many`, and c keeps the other
record Shared (start end start' end' : List ℕ) (n c at many a b : ℕ) : Type 0 where
  start-long : length start' ≡ n
  end-long : length end' ≡ n
  start-new : get_or start' many 0 ≡ a
  end-new : get_or end' many 0 ≡ b
  parts : Parts (get_or start c 0) at (get_or end c 0) a b (get_or start' c 0) (get_or end' c 0)
  start-other : (i : ℕ) → i ≢ c → i ≢ many → get_or start' i 0 ≡ get_or start i 0
  end-other : (i : ℕ) → i ≢ c → i ≢ many → get_or end' i 0 ≡ get_or end i 0

module _ {order class class' start end start' end' : List ℕ} {n c at many a b : ℕ} (S : Stretches order class start end n many) (lc : c < many)
    (H : Shared start end start' end' n c at many a b) (R : Renumbered order class class' n a b many) where
  side : (p : ℕ) → p < n → Side order class class' c many a b p
  side p l = go (dec_lt p a) (dec_lt p b)
    where
      go : Dec (p < a) → Dec (p < b) → Side order class class' c many a b p
      go (yes x) d = still (inl x) (R.low p x)
      go (no x) (yes y) = fresh (omega arith) y (R.new p (omega arith) y) (S.own c p lc (omega (arith, H.parts.new-from)) (omega (arith, H.parts.new-to)))
      go (no x) (no y) = still (inr (omega arith)) (R.high p (omega arith) l)

  -- a row of class c that keeps its number is in the part that c keeps
  keeps : (p : ℕ) → p < n → of order class p ≡ c → Beside a b p → (get_or start' c 0 ≤ p) × (p < get_or end' c 0)
  keeps p l e = H.parts.cover p (subst (λ (k : ℕ). get_or start k 0 ≤ p) e (S.from p l)) (subst (λ (k : ℕ). p < get_or end k 0) e (S.to p l))

  -- each row stands in its class's stretch
  stands : (p : ℕ) → p < n → (get_or start' (of order class' p) 0 ≤ p) × (p < get_or end' (of order class' p) 0)
  stands p l = go (side p l)
    where
      In : ℕ → Type 0
      In k = (get_or start' k 0 ≤ p) × (p < get_or end' k 0)

      old : Beside a b p → Dec (of order class p ≡ c) → In (of order class p)
      old o (yes e) = subst In (sym e) (keeps p l e o)
      old o (no m) = let k : of order class p ≢ many = omega (arith, S.numbered p l) in
          (omega (arith, H.start-other (of order class p) m k, S.from p l), omega (arith, H.end-other (of order class p) m k, S.to p l))

      go : Side order class class' c many a b p → In (of order class' p)
      go (fresh x y e q) = subst In (sym e) (omega (arith, H.start-new), omega (arith, H.end-new))
      go (still o e) = subst In (sym e) (old o (ℕ_discrete (of order class p) c))

  -- no class is empty
  whole : (i : ℕ) → i < many + 1 → (get_or start' i 0 < get_or end' i 0) × (get_or end' i 0 ≤ n)
  whole i l = go (ℕ_discrete i many) (ℕ_discrete i c)
    where
      Whole : ℕ → Type 0
      Whole k = (get_or start' k 0 < get_or end' k 0) × (get_or end' k 0 ≤ n)

      go : Dec (i ≡ many) → Dec (i ≡ c) → Whole i
      go (yes e) d = subst Whole (sym e) (omega (arith, H.start-new, H.end-new, H.parts.new-some), omega (arith, H.end-new, H.parts.new-to, S.inside c lc))
      go (no m) (yes e) = subst Whole (sym e) (H.parts.old-some, omega (arith, H.parts.old-to, S.inside c lc))
      go (no m) (no k) = (omega (arith, H.start-other i k m, H.end-other i k m, S.some i (omega arith)), omega (arith, H.end-other i k m, S.inside i (omega arith)))

  -- a class has just the rows of its stretch
  owns : (i p : ℕ) → i < many + 1 → get_or start' i 0 ≤ p → p < get_or end' i 0 → of order class' p ≡ i
  owns i p l x y = go (ℕ_discrete i many) (ℕ_discrete i c)
    where
      first : (k : ℕ) → i ≡ k → get_or start' k 0 ≤ p
      first k e = subst (λ (z : ℕ). get_or start' z 0 ≤ p) e x

      last : (k : ℕ) → i ≡ k → p < get_or end' k 0
      last k e = subst (λ (z : ℕ). p < get_or end' z 0) e y

      lp : p < n
      lp = omega (arith, (whole i l).1)

      unchanged : Beside a b p → of order class' p ≡ of order class p
      unchanged o = ⊎_elim (λ (h : p < a). R.low p h) (λ (h : b ≤ p). R.high p h lp) o

      go : Dec (i ≡ many) → Dec (i ≡ c) → of order class' p ≡ i
      go (yes e) d = R.new p (omega (arith, H.start-new, first many e)) (omega (arith, H.end-new, last many e)) ∙ sym e
      go (no m) (yes e) = unchanged (H.parts.apart p (first c e) (last c e)) ∙ S.own c p lc (omega (arith, H.parts.old-from, first c e)) (omega (arith, H.parts.old-to, last c e)) ∙ sym e
      go (no m) (no k) = other (S.own i p (omega arith) (omega (arith, H.start-other i k m)) (omega (arith, H.end-other i k m))) (side p lp)
        where
          other : of order class p ≡ i → Side order class class' c many a b p → of order class' p ≡ i
          other q (fresh u v e f) = absurd (k (sym q ∙ f))
          other q (still o e) = e ∙ q

  cut-stretches : Stretches order class' start' end' n (many + 1)
  cut-stretches = record {
    few = S.few;
    order-long = S.order-long;
    class-long = R.long ∙ S.class-long;
    start-long = H.start-long;
    end-long = H.end-long;
    row = S.row;
    once = S.once;
    numbered = λ p l. numbered p l (side p l);
    from = λ p l. (stands p l).0;
    to = λ p l. (stands p l).1;
    some = λ i l. (whole i l).0;
    inside = λ i l. (whole i l).1;
    own = owns;
  }
    where
      numbered : (p : ℕ) → p < n → Side order class class' c many a b p → of order class' p < many + 1
      numbered p l (fresh x y e q) = omega arith
      numbered p l (still o e) = omega (arith, S.numbered p l)

  cut-finer : (p q : ℕ) → p < n → q < n → of order class' p ≡ of order class' q → of order class p ≡ of order class q
  cut-finer p q lp lq e = go (side p lp) (side q lq)
    where
      go : Side order class class' c many a b p → Side order class class' c many a b q → of order class p ≡ of order class q
      go (fresh x y f u) (fresh z w g v) = u ∙ sym v
      go (fresh x y f u) (still o g) = absurd (omega (arith, S.numbered q lq))
      go (still o f) (fresh z w g v) = absurd (omega (arith, S.numbered p lp))
      go (still o f) (still r g) = sym f ∙ e ∙ g

  cut-parted : (p q : ℕ) → p < n → q < n → of order class' p ≡ of order class' q → of order class p ≡ c → ltb p at ≡ ltb q at
  cut-parted p q lp lq e h = go (side p lp) (side q lq)
    where
      go : Side order class class' c many a b p → Side order class class' c many a b q → ltb p at ≡ ltb q at
      go (fresh x y f u) (fresh z w g v) = H.parts.new-side p q x y z w
      go (fresh x y f u) (still o g) = absurd (omega (arith, S.numbered q lq))
      go (still o f) (fresh z w g v) = absurd (omega (arith, S.numbered p lp))
      go (still o f) (still r g) = let P : (get_or start' c 0 ≤ p) × (p < get_or end' c 0) = keeps p lp h o in
          let Q : (get_or start' c 0 ≤ q) × (q < get_or end' c 0) = keeps q lq (sym (cut-finer p q lp lq e) ∙ h) r in H.parts.old-side p q P.0 P.1 Q.0 Q.1

  cut-fair : (p q : ℕ) → p < n → q < n → of order class p ≡ of order class q → ltb p at ≡ ltb q at → of order class' p ≡ of order class' q
  cut-fair p q lp lq e t = go (side p lp) (side q lq)
    where
      go : Side order class class' c many a b p → Side order class class' c many a b q → of order class' p ≡ of order class' q
      go (fresh x y f u) (fresh z w g v) = f ∙ sym g
      go (fresh x y f u) (still o g) = let Q : (get_or start' c 0 ≤ q) × (q < get_or end' c 0) = keeps q lq (sym e ∙ u) o in absurd (H.parts.sides p q x y Q.0 Q.1 t)
      go (still o f) (fresh z w g v) = let P : (get_or start' c 0 ≤ p) × (p < get_or end' c 0) = keeps p lp (e ∙ v) o in absurd (H.parts.sides q p z w P.0 P.1 (sym t))
      go (still o f) (still r g) = f ∙ e ∙ sym g

  cut_at : CutAt order class class' n c at many (many + 1)
  cut_at = record { finer = cut-finer; parted = cut-parted; fair = cut-fair; new = λ p l. new p (side p l); more = omega arith }
    where
      new : (p : ℕ) → Side order class class' c many a b p → (of order class' p ≡ of order class p) ⊎ (many ≤ of order class' p)
      new p (fresh x y e q) = inr (omega arith)
      new p (still o e) = inl e

-- ---- what the code writes

module _ {order class start end : List ℕ} {n c at many : ℕ} (S : Stretches order class start end n many) (W : Within start end c at many) where
  -- the place for a new number, in a list that has one for each row
  spare : (xs : List ℕ) → length xs ≡ n → (v : ℕ) → get_or (set xs many v) many 0 ≡ v
  spare xs e v = get_or-set_same xs many v 0 (omega (arith, room S W))

  kept-place : (xs : List ℕ) (v : ℕ) → get_or (set xs many v) c 0 ≡ get_or xs c 0
  kept-place xs v = get_or-set_other xs many c v 0 (omega (arith, W.number))

  own-place : (xs : List ℕ) → length xs ≡ n → (v w : ℕ) → get_or (set (set xs c v) many w) c 0 ≡ v
  own-place xs e v w = kept-place (set xs c v) w ∙ get_or-set_same xs c v 0 (omega (arith, W.number, room S W))

  end-shared : Shared start end (set start many at) (set (set end c at) many (get_or end c 0)) n c at many at (get_or end c 0)
  end-shared = record {
    start-long = length-set start many at ∙ S.start-long;
    end-long = length-set (set end c at) many (get_or end c 0) ∙ length-set end c at ∙ S.end-long;
    start-new = spare start S.start-long at;
    end-new = spare (set end c at) (length-set end c at ∙ S.end-long) (get_or end c 0);
    parts = rw (kept-place start at, own-place end S.end-long at (get_or end c 0)) (end-parts W.from W.to);
    start-other = λ i a b. get_or-set_other start many i at 0 b;
    end-other = λ i a b. get_or-set_other (set end c at) many i (get_or end c 0) 0 b ∙ get_or-set_other end c i at 0 a;
  }

  start-shared : Shared start end (set (set start c at) many (get_or start c 0)) (set end many at) n c at many (get_or start c 0) at
  start-shared = record {
    start-long = length-set (set start c at) many (get_or start c 0) ∙ length-set start c at ∙ S.start-long;
    end-long = length-set end many at ∙ S.end-long;
    start-new = spare (set start c at) (length-set start c at ∙ S.start-long) (get_or start c 0);
    end-new = spare end S.end-long at;
    parts = rw (kept-place end at, own-place start S.start-long at (get_or start c 0)) (start-parts W.from W.to);
    start-other = λ i a b. get_or-set_other (set start c at) many i (get_or start c 0) 0 b ∙ get_or-set_other start c i at 0 a;
    end-other = λ i a b. get_or-set_other end many i at 0 b;
  }

  pub end-cut : {class' : List ℕ} → Renumbered order class class' n at (get_or end c 0) many
      → Stretches order class' (set start many at) (set (set end c at) many (get_or end c 0)) n (many + 1) × CutAt order class class' n c at many (many + 1)
  end-cut R = (cut-stretches S W.number end-shared R, cut_at S W.number end-shared R)

  pub start-cut : {class' : List ℕ} → Renumbered order class class' n (get_or start c 0) at many
      → Stretches order class' (set (set start c at) many (get_or start c 0)) (set end many at) n (many + 1) × CutAt order class class' n c at many (many + 1)
  start-cut R = (cut-stretches S W.number start-shared R, cut_at S W.number start-shared R)
