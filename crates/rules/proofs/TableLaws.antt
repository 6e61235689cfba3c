-- Laws of a table: when it is well formed, where reading leads, what is longest, when a matcher refuses, and when two are the same.
use mathlib.Core.Path.{◌≡◌, refl, sym, ap, ap₂, subst, ◌∙◌}
use mathlib.Core.Logic.{◌↔◌, ◌⊎◌, inl, inr, ⊎_elim}
use mathlib.Core.Bool.{Bool, true, false, ◌&&◌, and-true, and_assoc, and-eq-true_iff, ◌||◌}
use mathlib.Core.List.{List, [], ◌∷◌, ◌++◌, append-nil}
use mathlib.Core.Option.{Option, none, some}
use Prim.Native.Nat.{ℕ, zero, suc, ◌+◌, ◌*◌, ◌-◌, ◌≤◌, ◌<◌}
use native.Mathlib.Nat.{add-zero, sub_self}
use native.Mathlib.Omega.{arith}
use native.Mathlib.Numerals.{add-one}
use lib.Dec.{T, leb, ltb, eqb, eqb→eq}
use lib.ListN.{length, get_or, take}
use lib.Seq.{slice, slice_empty, length-take-le, get_or-take}
use borrow.Author.Tests.{leb-true, ltb-true, eqb-true, le-leb, lt-ltb, le-ltb, eq-eqb, ne_eqb}
use Rattle.rules.specs.Tools.{up_from, all, kept, last, same}
use Rattle.rules.specs.Sizes.{rows_most, text_most}
use Rattle.rules.specs.Table.{Table, cell, after, begins, fits, takes, Mark, is_mark, Formed, WellFormed, well_formed, same_table, whole, longest}
use Rattle.rules.specs.Answers.{refusal, Answer, refused, given}
use Rattle.rules.specs.Matchers.{checked, longest_answer}
use Rattle.rules.proofs.Tests.{both as both_hold, both_left, both_right, eq_test}
use Rattle.rules.proofs.Lists.{same-eq, same_refl}
use Rattle.rules.proofs.Texts.{slice-more}

-- ---- all

module _ {A : Type 0} (f : A → Bool) where
  all_cons : (x : A) (xs : List A) → all f (x ∷ xs) ≡ f x && all f xs
  all_cons x xs = go (f x)
    where
      go : (b : Bool) → elim b [ true ↦ all f xs | false ↦ false ] ≡ b && all f xs
      go true = refl
      go false = refl

  all_more : (l : List A) (i : ℕ) (d : A) → i < length l → all f (take (suc i) l) ≡ all f (take i l) && f (get_or l i d)
  all_more [] i d h = absurd (omega (arith, h))
  all_more (x ∷ xs) zero d h = all_cons x [] ∙ and-true (f x)
  all_more (x ∷ xs) (suc i) d h =
      all_cons x (take (suc i) xs)
      ∙ ap (λ (b : Bool). f x && b) (all_more xs i d (omega arith))
      ∙ sym (ap (λ (b : Bool). b && f (get_or xs i d)) (all_cons x (take i xs)) ∙ and_assoc (f x) (all f (take i xs)) (f (get_or xs i d)))

  -- one element more
  pub all-on : {b : Bool} (l : List A) (d : A) (i : ℕ) → i < length l → b ≡ all f (take i l) → b && f (get_or l i d) ≡ all f (take (i + 1) l)
  all-on l d i h e = ap (λ (b : Bool). b && f (get_or l i d)) e ∙ sym (rw add-one (all_more l i d h))

  both : (x : A) (xs : List A) → all f (x ∷ xs) ≡ true → (f x ≡ true) × (all f xs ≡ true)
  both x xs a = (and-eq-true_iff (f x) (all f xs)).0 (sym (all_cons x xs) ∙ a)

  pub all-at : (l : List A) (d : A) → all f l ≡ true → (i : ℕ) → i < length l → f (get_or l i d) ≡ true
  all-at [] d a i h = absurd (omega (arith, h))
  all-at (x ∷ xs) d a zero h = (both x xs a).0
  all-at (x ∷ xs) d a (suc i) h = all-at xs d (both x xs a).1 i (omega arith)

  pub all-by : (l : List A) (d : A) → ((i : ℕ) → i < length l → f (get_or l i d) ≡ true) → all f l ≡ true
  all-by [] d h = refl
  all-by (x ∷ xs) d h = all_cons x xs ∙ ap₂ {C = Bool} ◌&&◌ (h 0 (omega arith)) (all-by xs d (λ i l. h (suc i) (omega arith)))

  -- of the first n
  pub all-front : (l : List A) (d : A) (n : ℕ) → n ≤ length l → all f (take n l) ≡ true → (i : ℕ) → i < n → f (get_or l i d) ≡ true
  all-front l d n h a i b = rw get_or-take at (all-at (take n l) d a i (rw length-take-le b))

  pub all-front-by : (l : List A) (d : A) (n : ℕ) → n ≤ length l → ((i : ℕ) → i < n → f (get_or l i d) ≡ true) → all f (take n l) ≡ true
  all-front-by l d n h a = all-by (take n l) d (λ i b. let g : i < n = rw length-take-le at b in rw get_or-take (a i g))

-- ---- well formed

or_cases : (a b : Bool) → a || b ≡ true → (a ≡ true) ⊎ (b ≡ true)
or_cases true b e = inl refl
or_cases false b e = inr e

mark-test : (m : ℕ) → (is_mark m ≡ true) ↔ Mark m
mark-test m = (
  λ e. ⊎_elim (λ a. inl (eqb-true m 0 a))
      (λ b. ⊎_elim (λ a. inr (inl (eqb-true m 2 a))) (λ a. inr (inr (eqb-true m 3 a))) (or_cases (eqb m 2) (eqb m 3) b))
      (or_cases (eqb m 0) (eqb m 2 || eqb m 3) e),
  ⊎_elim (λ e. rw e refl) (⊎_elim (λ e. rw e refl) (λ e. rw e refl)),
)

-- tests in a row, and each of them
abbrev conj : List Bool → Bool
conj [] = true
conj (a ∷ []) = a
conj (a ∷ b ∷ l) = a && conj (b ∷ l)

each : (l : List Bool) → conj l ≡ true → (i : ℕ) → get_or l i true ≡ true
each [] e i = refl
each (a ∷ []) e zero = e
each (a ∷ []) e (suc i) = refl
each (a ∷ b ∷ l) e zero = ((and-eq-true_iff a (conj (b ∷ l))).0 e).0
each (a ∷ b ∷ l) e (suc i) = each (b ∷ l) ((and-eq-true_iff a (conj (b ∷ l))).0 e).1 i

module _ (w : Table) where
  abbrev is_row : ℕ → Bool
  is_row c = ltb c w.count

  abbrev tests : List Bool
  tests =
      leb 1 w.count ∷ leb w.count rows_most ∷ leb w.count (length w.marks) ∷ leb (256 * w.count) (length w.cells)
      ∷ is_row w.head ∷ all is_row (take (256 * w.count) w.cells) ∷ all is_mark (take w.count w.marks) ∷ []

  -- where the sizes and the head are right, the cells and the marks decide
  pub formed-rest : 1 ≤ w.count → w.count ≤ rows_most → w.count ≤ length w.marks → 256 * w.count ≤ length w.cells → w.head < w.count
      → all is_row (take (256 * w.count) w.cells) && all is_mark (take w.count w.marks) ≡ well_formed w
  unfolding well_formed
  formed-rest a b d e f =
      simp (le-leb 1 w.count a, le-leb w.count rows_most b, le-leb w.count (length w.marks) d, le-leb (256 * w.count) (length w.cells) e, lt-ltb w.head w.count f)

  pub well-formed-test : (well_formed w ≡ true) ↔ WellFormed w
  unfolding well_formed
  well-formed-test = (holds, passes)
    where
      holds : well_formed w ≡ true → WellFormed w
      holds e =
          let test : (i : ℕ) → get_or tests i true ≡ true = each tests e in
          let marks-long : w.count ≤ length w.marks = leb-true w.count (length w.marks) (test 2) in
          let cells-long : 256 * w.count ≤ length w.cells = leb-true (256 * w.count) (length w.cells) (test 3) in
          record {
            formed = record {
              some-row = leb-true 1 w.count (test 0);
              marks-long = marks-long;
              cells-long = cells-long;
              head-row = ltb-true w.head w.count (test 4);
              cells-rows = λ i l. ltb-true (get_or w.cells i 0) w.count (all-front is_row w.cells 0 (256 * w.count) cells-long (test 5) i l);
              marks-good = λ q l. (mark-test (get_or w.marks q 0)).0 (all-front is_mark w.marks 0 w.count marks-long (test 6) q l);
            };
            few-rows = leb-true w.count rows_most (test 1);
          }

      passes : WellFormed w → well_formed w ≡ true
      passes g =
          let f : Formed w = g.formed in
          sym (formed-rest f.some-row g.few-rows f.marks-long f.cells-long f.head-row)
          ∙ ap₂ {C = Bool} ◌&&◌
          (all-front-by is_row w.cells 0 (256 * w.count) f.cells-long (λ i l. lt-ltb (get_or w.cells i 0) w.count (f.cells-rows i l)))
          (all-front-by is_mark w.marks 0 w.count f.marks-long (λ q l. (mark-test (get_or w.marks q 0)).1 (f.marks-good q l)))

  pub not-formed : (WellFormed w → ⊥) → false ≡ well_formed w
  not-formed f = go (well_formed w) refl
    where
      go : (b : Bool) → well_formed w ≡ b → false ≡ well_formed w
      go true e = absurd (f (well-formed-test.0 e))
      go false e = sym e

-- ---- reading on

pub after-append : (w : Table) (q : ℕ) (xs ys : List ℕ) → after w q (xs ++ ys) ≡ after w (after w q xs) ys
after-append w q [] ys = refl
after-append w q (x ∷ xs) ys = after-append w (cell w q x) xs ys

pub begins-first : (w : Table) (s : ℕ) → s ≡ 0 → w.head ≡ begins w s
begins-first w s e = rw e

pub begins-later : (w : Table) (s : ℕ) → (s ≡ 0 → ⊥) → 0 ≡ begins w s
begins-later w zero n = absurd (n refl)
begins-later w (suc s) n = refl

begins-row : {w : Table} → Formed w → (s : ℕ) → begins w s < w.count
begins-row good zero = good.head-row
begins-row good (suc s) = good.some-row

slice-on : (t : List ℕ) (s p : ℕ) → s ≤ p → p < length t → slice s (p + 1) t ≡ slice s p t ++ (get_or t p 0 ∷ [])
slice-on t s p a b = rw add-one (slice-more t s p a b)

-- the text from s has been read up to p, which led to row q
pub record Read (w : Table) (t : List ℕ) (s p q : ℕ) : Type 0 where
  pub from : s ≤ p
  pub within : p ≤ length t
  pub row : q < w.count
  pub led : q ≡ after w (begins w s) (slice s p t)

module _ {w : Table} (good : Formed w) (t : List ℕ) (s : ℕ) where
  pub read_none : {q : ℕ} → s ≤ length t → q ≡ begins w s → Read w t s s q
  read_none h e = record {
    from = omega arith;
    within = h;
    row = omega (arith, begins-row good s);
    led = e ∙ sym (ap (after w (begins w s)) (slice_empty s t));
  }

  pub read_more : {p q q' : ℕ} → Read w t s p q → p < length t → get_or t p 0 < 256 → q' ≡ cell w q (get_or t p 0) → Read w t s (p + 1) q'
  read_more {p} {q} {q'} r h b e = record {
    from = omega arith;
    within = omega arith;
    row = omega (arith, good.cells-rows (256 * q + get_or t p 0) (omega arith));
    led = e ∙ ap (λ (q : ℕ). cell w q (get_or t p 0)) r.led
        ∙ sym (ap (after w (begins w s)) (slice-on t s p r.from h) ∙ after-append w (begins w s) (slice s p t) (get_or t p 0 ∷ []));
  }

module _ {w : Table} {t : List ℕ} {s p q : ℕ} (r : Read w t s p q) where
  -- the row's mark and its cells are there
  pub read-mark : Formed w → q < length w.marks
  read-mark good = omega arith

  pub read-cells : Formed w → 256 * q + 256 ≤ length w.cells
  read-cells good = omega arith

  -- a stretch that has been read is taken by its row's mark
  pub read-inside : p < length t → takes w t s p ≡ fits (get_or w.marks q 0) false
  unfolding takes
  read-inside h = rw (← r.led, ne_eqb p (length t) (λ e. omega arith))

  pub read-to-end : length t ≤ p → takes w t s p ≡ fits (get_or w.marks q 0) true
  unfolding takes
  read-to-end h = rw (← r.led, eq-eqb p (length t) (omega arith))

pub read_whole : {w : Table} {t : List ℕ} {p q : ℕ} → Read w t 0 p q → length t ≤ p → whole w t ≡ fits (get_or w.marks q 0) true
unfolding whole
read_whole {w} {t} {p} r h = let e : length t ≡ p = omega arith in ap (takes w t 0) e ∙ read-to-end r h

-- ---- longest

pub up_from-more : (n c : ℕ) → up_from n (suc c) ≡ up_from n c ++ ((n + c) ∷ [])
up_from-more n zero = ap {B = List ℕ} (λ (x : ℕ). x ∷ []) (sym (add-zero n))
up_from-more n (suc c) =
    ap (λ (l : List ℕ). n ∷ l) (up_from-more (suc n) c ∙ ap (λ (x : ℕ). up_from (suc n) c ++ (x ∷ [])) shift)
  where
    shift : suc n + c ≡ n + suc c
    shift = omega arith

last_snoc : (xs : List ℕ) (x : ℕ) → last (xs ++ (x ∷ [])) ≡ some x
last_snoc [] x = refl
last_snoc (y ∷ []) x = refl
last_snoc (y ∷ z ∷ xs) x = last_snoc (z ∷ xs) x

module _ (f : ℕ → Bool) where
  pub kept_append : (xs ys : List ℕ) → kept f (xs ++ ys) ≡ kept f xs ++ kept f ys
  kept_append [] ys = refl
  kept_append (x ∷ xs) ys = go (f x) (kept_append xs ys)
    where
      go : (b : Bool) → kept f (xs ++ ys) ≡ kept f xs ++ kept f ys
          → elim b [ true ↦ x ∷ kept f (xs ++ ys) | false ↦ kept f (xs ++ ys) ] ≡ elim b [ true ↦ x ∷ kept f xs | false ↦ kept f xs ] ++ kept f ys
      go true e = ap (λ (l : List ℕ). x ∷ l) e
      go false e = e

  -- one number more, by whether it is kept
  pub kept_more : (n c : ℕ) (b : Bool) → f (n + c) ≡ b → kept f (up_from n (suc c)) ≡ kept f (up_from n c) ++ elim b [ true ↦ (n + c) ∷ [] | false ↦ [] ]
  kept_more n c b e =
      ap (kept f) (up_from-more n c) ∙ kept_append (up_from n c) ((n + c) ∷ [])
      ∙ ap (λ (b : Bool). kept f (up_from n c) ++ elim b [ true ↦ (n + c) ∷ [] | false ↦ [] ]) e

module _ (w : Table) (t : List ℕ) (s : ℕ) where
  -- the last end before p
  unfoldable pub end_before : ℕ → Option ℕ
  end_before p = last (kept (takes w t s) (up_from s (p - s)))

  pub end_none : end_before s ≡ none
  unfolding end_before
  end_none = rw (sub_self s)

  module _ {p : ℕ} (from : s ≤ p) where
    here : s + (p - s) ≡ p
    here = omega arith

    next : p + 1 - s ≡ suc (p - s)
    next = omega arith

    pub end-hit : takes w t s p ≡ true → end_before (p + 1) ≡ some p
    unfolding end_before
    end-hit e =
        ap (λ (c : ℕ). last (kept (takes w t s) (up_from s c))) next
        ∙ ap last (kept_more (takes w t s) s (p - s) true (ap (takes w t s) here ∙ e))
        ∙ last_snoc (kept (takes w t s) (up_from s (p - s))) (s + (p - s))
        ∙ ap some here

    pub end-miss : takes w t s p ≡ false → end_before (p + 1) ≡ end_before p
    unfolding end_before
    end-miss e =
        ap (λ (c : ℕ). last (kept (takes w t s) (up_from s c))) next
        ∙ ap last (kept_more (takes w t s) s (p - s) false (ap (takes w t s) here ∙ e) ∙ append-nil (kept (takes w t s) (up_from s (p - s))))

  pub end-all : {p : ℕ} → p ≡ length t → end_before (p + 1) ≡ longest w t s
  unfolding longest end_before
  end-all {p} e = let n : p + 1 ≡ 1 + length t = omega arith in ap (λ (c : ℕ). last (kept (takes w t s) (up_from s (c - s)))) n

-- ---- the refusals of every matcher

module _ {A : Type 0} (w : Table) (t : List ℕ) (a : Answer A) where
  pub checked-13 : well_formed w ≡ false → checked w t a ≡ refused (refusal 13 0)
  unfolding checked
  checked-13 e = ap (λ (b : Bool). elim b [ false ↦ refused (refusal 13 0) | true ↦ elim (ltb text_most (length t)) [ true ↦ refused (refusal 12 0) | false ↦ a ] ]) e

  module _ (e : well_formed w ≡ true) where
    by_length : (b : Bool) → ltb text_most (length t) ≡ b → checked w t a ≡ elim b [ true ↦ refused (refusal 12 0) | false ↦ a ]
    unfolding checked
    by_length b h =
        ap (λ (b : Bool). elim b [ false ↦ refused (refusal 13 0) | true ↦ elim (ltb text_most (length t)) [ true ↦ refused (refusal 12 0) | false ↦ a ] ]) e
        ∙ ap (λ (b : Bool). elim b [ true ↦ refused (refusal 12 0) | false ↦ a ]) h

    pub checked-12 : text_most < length t → checked w t a ≡ refused (refusal 12 0)
    checked-12 h = by_length true (lt-ltb text_most (length t) h)

    pub checked-past : length t ≤ text_most → checked w t a ≡ a
    checked-past h = by_length false (le-ltb text_most (length t) h)

-- longest, past 13 and 12: by whether the start lies past the end
pub longest-start : (w : Table) (t : List ℕ) (s : ℕ) → well_formed w ≡ true → length t ≤ text_most → (b : Bool) → ltb (length t) s ≡ b
    → longest_answer w t s ≡ elim b [ true ↦ refused (refusal 14 0) | false ↦ given (longest w t s) ]
unfolding longest_answer
longest-start w t s e h b f =
    checked-past w t _ e h ∙ ap (λ (b : Bool). elim b [ true ↦ refused (refusal 14 0) | false ↦ given (longest w t s) ]) f

-- ---- the test of two tables

pub same_tables : (w v : Table) → T (same_table w v) ↔ (w ≡ v)
unfolding same_table
same_tables w v = (equal, λ e. subst (λ (u : Table). T (same_table w u)) e itself)
  where
    itself : T (same_table w w)
    itself =
        both_hold (eqb w.count w.count) _ (eq_test w.count w.count refl)
        (both_hold (eqb w.head w.head) _ (eq_test w.head w.head refl) (both_hold (same w.marks w.marks) _ (same_refl w.marks) (same_refl w.cells)))

    equal : T (same_table w v) → w ≡ v
    equal h =
        let rest : T (eqb w.head v.head && (same w.marks v.marks && same w.cells v.cells)) = both_right (eqb w.count v.count) _ h in
        let lists : T (same w.marks v.marks && same w.cells v.cells) = both_right (eqb w.head v.head) _ rest in
        let counts : w.count ≡ v.count = eqb→eq w.count v.count (both_left (eqb w.count v.count) _ h) in
        let heads : w.head ≡ v.head = eqb→eq w.head v.head (both_left (eqb w.head v.head) _ rest) in
        let marks : w.marks ≡ v.marks = same-eq w.marks v.marks (both_left (same w.marks v.marks) _ lists) in
        let cells : w.cells ≡ v.cells = same-eq w.cells v.cells (both_right (same w.marks v.marks) _ lists) in
        λ i. record { count = counts i; head = heads i; marks = marks i; cells = cells i }
