-- The rules' answers place by place: what is longest from a start, and which starts there are.
use mathlib.Core.Path.{◌≡◌, refl, ap, ap₂, sym, ◌∙◌}
use mathlib.Core.Bool.{Bool, true, false, ◌||◌}
use mathlib.Core.List.{List, [], ◌∷◌}
use mathlib.Core.Option.{Option, none, some}
use Prim.Native.Nat.{ℕ, zero, suc, ◌+◌, ◌-◌, ◌≤◌, ◌<◌}
use native.Mathlib.Numerals.{add-one}
use native.Mathlib.Omega.{arith}
use lib.Dec.{eqb}
use lib.ListN.{length, get_or, drop}
use lib.Seq.{slice, slice_empty, slice-cons, drop-cons, drop-length}
use borrow.Author.Tests.{eq-eqb, ne_eqb}
use Rattle.rules.specs.Tools.{up_from, any, kept, last, guard, or_else}
use Rattle.rules.specs.Table.{Table, cell, after, begins, fits, takes, places, longest, starts}
use Rattle.ahead.specs.Ahead.{mark, ahead, last_end, is_start, starts_from}
use Rattle.ahead.proofs.AheadLaws.{drop-next}

-- ---- lists of places

kept-cong : (f g : ℕ → Bool) (a c : ℕ) → ((e : ℕ) → a ≤ e → e < a + c → f e ≡ g e) → kept f (up_from a c) ≡ kept g (up_from a c)
kept-cong f g a zero h = refl
kept-cong f g a (suc c) h =
    ap₂ (λ (b : Bool) (l : List ℕ). elim b [ true ↦ a ∷ l | false ↦ l ]) (h a (omega arith) (omega arith))
    (kept-cong f g (suc a) c (λ e l m. h e (omega arith) (omega arith)))

pub last_cons : (x : ℕ) (l : List ℕ) → last (x ∷ l) ≡ or_else (last l) (some x)
last_cons x [] = refl
last_cons x (y ∷ []) = refl
last_cons x (y ∷ z ∷ l) = last_cons x (z ∷ l)

pub or-none : (x : Option ℕ) → or_else x none ≡ x
or-none none = refl
or-none (some e) = refl

abbrev pub is_some : {A : Type 0} → Option A → Bool
is_some none = false
is_some (some e) = true

some_or : (x : Option ℕ) (e : ℕ) → is_some (or_else x (some e)) ≡ true
some_or none e = refl
some_or (some x) e = refl

any_last : (f : ℕ → Bool) (l : List ℕ) → any f l ≡ is_some (last (kept f l))
any_last f [] = refl
any_last f (x ∷ l) = go (f x) (any_last f l)
  where
    go : (b : Bool) → any f l ≡ is_some (last (kept f l)) → elim b [ true ↦ true | false ↦ any f l ] ≡ is_some (last (elim b [ true ↦ x ∷ kept f l | false ↦ kept f l ]))
    go true e = sym (ap is_some (last_cons x (kept f l)) ∙ some_or (last (kept f l)) x)
    go false e = e

-- ---- longest from a start

module _ (w : Table) (t : List ℕ) where
  -- read from s in row q, the stretch to e matches
  abbrev fits_at : ℕ → ℕ → ℕ → Bool
  fits_at q s e = fits (mark w (after w q (slice s e t))) (eqb e (length t))

  last-end : (k s q : ℕ) → s + k ≡ length t → last (kept (fits_at q s) (up_from s (suc k))) ≡ last_end w q s (drop s t)
  unfolding last_end
  last-end zero s q h = here (fits_at q s s) (fits (mark w q) true) same ∙ sym (ap (last_end w q s) none_left)
    where
      end : s ≡ length t
      end = omega arith

      none_left : drop s t ≡ []
      none_left = ap (λ (n : ℕ). drop n t) end ∙ drop-length t

      same : fits_at q s s ≡ fits (mark w q) true
      same = rw (slice_empty s t, eq-eqb s (length t) end)

      here : (a b : Bool) → a ≡ b → last (elim a [ true ↦ s ∷ [] | false ↦ [] ]) ≡ guard b s
      here a true e = ap (λ (a : Bool). last (elim a [ true ↦ s ∷ [] | false ↦ [] ])) e
      here a false e = ap (λ (a : Bool). last (elim a [ true ↦ s ∷ [] | false ↦ [] ])) e
  last-end (suc k) s q h =
      here (fits_at q s s) (fits (mark w q) false) same (kept (fits_at q s) (up_from (suc s) (suc k)))
      (ap last (kept-cong (fits_at q s) (fits_at (cell w q (get_or t s 0)) (suc s)) (suc s) (suc k) (λ e l m. on e l (omega arith))) ∙ last-end k (suc s) (cell w q (get_or t s 0)) (omega arith))
      ∙ sym (ap (last_end w q s) (drop-cons t s 0 inside))
    where
      inside : s < length t
      inside = omega arith

      on : (e : ℕ) → s < e → e ≤ length t → fits_at q s e ≡ fits_at (cell w q (get_or t s 0)) (suc s) e
      on e l m = ap (λ (u : List ℕ). fits (mark w (after w q u)) (eqb e (length t))) (slice-cons s e t 0 l m)

      same : fits_at q s s ≡ fits (mark w q) false
      same = rw (slice_empty s t, ne_eqb s (length t) (λ e. omega arith))

      here : (a b : Bool) → a ≡ b → (l : List ℕ) {x : Option ℕ} → last l ≡ x → last (elim a [ true ↦ s ∷ l | false ↦ l ]) ≡ or_else x (guard b s)
      here a true e l f = ap (λ (a : Bool). last (elim a [ true ↦ s ∷ l | false ↦ l ])) e ∙ last_cons s l ∙ ap (λ (x : Option ℕ). or_else x (some s)) f
      here a false e l {x} f = ap (λ (a : Bool). last (elim a [ true ↦ s ∷ l | false ↦ l ])) e ∙ f ∙ sym (or-none x)

  -- by whether a match ends here
  pub end-next : {p : ℕ} → p < length t → (q : ℕ) (b : Bool) → fits (mark w q) false ≡ b
      → last_end w q p (drop p t) ≡ or_else (last_end w (cell w q (get_or t p 0)) (p + 1) (drop (p + 1) t)) (guard b p)
  unfolding last_end
  end-next {p} h q b e =
      ap (last_end w q p) (drop-next t p h)
      ∙ ap (λ (n : ℕ). or_else (last_end w (cell w q (get_or t p 0)) n (drop (p + 1) t)) (guard (fits (mark w q) false) p)) (sym (add-one p))
      ∙ ap (λ (b : Bool). or_else (last_end w (cell w q (get_or t p 0)) (p + 1) (drop (p + 1) t)) (guard b p)) e

  pub longest-at : (s : ℕ) → s ≤ length t → longest w t s ≡ last_end w (begins w s) s (drop s t)
  unfolding longest takes
  longest-at s h = let n : 1 + length t - s ≡ suc (length t - s) = omega arith in
      ap (λ (c : ℕ). last (kept (fits_at (begins w s) s) (up_from s c))) n ∙ last-end (length t - s) s (begins w s) (omega arith)

  -- a row has a last end just where a match lies ahead of it
  pub some-ahead : (u : List ℕ) (q p : ℕ) → is_some (last_end w q p u) ≡ ahead w q u
  unfolding last_end ahead
  some-ahead [] q p = go (fits (mark w q) true)
    where
      go : (b : Bool) → is_some (guard b p) ≡ b
      go true = refl
      go false = refl
  some-ahead (b ∷ u) q p = go (fits (mark w q) false) (last_end w (cell w q b) (suc p) u) ∙ ap (λ (c : Bool). fits (mark w q) false || c) (some-ahead u (cell w q b) (suc p))
    where
      go : (b : Bool) (x : Option ℕ) → is_some (or_else x (guard b p)) ≡ b || is_some x
      go true none = refl
      go true (some e) = refl
      go false none = refl
      go false (some e) = refl

  -- ---- starts

  start-ahead : (s : ℕ) → s ≤ length t → any (takes w t s) (places t s) ≡ is_start w t s
  unfolding longest
  start-ahead s h = any_last (takes w t s) (places t s) ∙ ap is_some (longest-at s h) ∙ some-ahead (drop s t) (begins w s) s

  pub starts-all : starts w t ≡ starts_from w t 0
  unfolding starts starts_from
  starts-all = kept-cong (λ (s : ℕ). any (takes w t s) (places t s)) (is_start w t) 0 (1 + length t - 0) (λ s l m. start-ahead s (omega arith))

  pub starts_none : starts_from w t (length t + 1) ≡ []
  unfolding starts_from
  starts_none = let n : 1 + length t - (length t + 1) ≡ 0 = omega arith in ap (λ (c : ℕ). kept (is_start w t) (up_from (length t + 1) c)) n

  pub starts-at : (s : ℕ) (b : Bool) → s ≤ length t → is_start w t s ≡ b → starts_from w t s ≡ elim b [ true ↦ s ∷ starts_from w t (s + 1) | false ↦ starts_from w t (s + 1) ]
  unfolding starts_from
  starts-at s b h e =
      let n : 1 + length t - s ≡ suc (1 + length t - (s + 1)) = omega arith in
      ap (λ (c : ℕ). kept (is_start w t) (up_from s c)) n
      ∙ ap₂ (λ (b : Bool) (l : List ℕ). elim b [ true ↦ s ∷ l | false ↦ l ]) e (ap (λ (a : ℕ). kept (is_start w t) (up_from a (1 + length t - (s + 1)))) (sym (add-one s)))
