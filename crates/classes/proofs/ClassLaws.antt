-- Members, names and items of a class.
use mathlib.Core.Path.{◌≡◌, refl, sym, ap, ◌∙◌}
use mathlib.Core.Logic.{◌≢◌}
use mathlib.Core.Bool.{Bool, true, false}
use mathlib.Core.List.{List, [], ◌∷◌, ◌++◌}
use mathlib.Core.Option.{Option, none, some}
use Prim.Native.Nat.{ℕ, zero, suc, ◌+◌, ◌-◌, ◌≤◌, ◌<◌}
use native.Mathlib.Omega.{arith}
use lib.Dec.{eqb}
use lib.ListN.{length, take, drop, get_or, length-drop}
use borrow.Author.Tests.{eq-eqb, ne_eqb}
use Rattle.rules.specs.Tools.{◌>>=◌, guard, or_else, if_some, with, with_all}
use Rattle.rules.specs.Signs.{named}
use Rattle.rules.specs.Reader.{past, past_all, named_class, member, item, items}
use Rattle.signs.specs.Answers.{Reads}
use Rattle.signs.proofs.Places.{here, at-end}
use Rattle.std.specs.List.{starts_with}
use Rattle.std.proofs.lemmas.List.{take_rest, drop-drop}
use native.Mathlib.Decide.{ℕ_discrete}
use Rattle.classes.specs.Classes.{added_to, range_from, with_name, with_item, all_items}

-- ---- a name, byte by byte

-- a name stands where a list starts with it
pub starts : (name s : List ℕ) → guard (starts_with eqb s name) (drop (length name) s) ≡ past_all name s
starts [] s = refl
starts (c ∷ cs) [] = refl
starts (c ∷ cs) (x ∷ xs) = go (ℕ_discrete c x) (starts cs xs)
  where
    go : Dec (c ≡ x) → guard (starts_with eqb xs cs) (drop (length cs) xs) ≡ past_all cs xs → guard (starts_with eqb (x ∷ xs) (c ∷ cs)) (drop (length (c ∷ cs)) (x ∷ xs)) ≡ past_all (c ∷ cs) (x ∷ xs)
    go (yes e) k = rw (eq-eqb c x e, eq-eqb x c (sym e)) k
    go (no n) k = rw (ne_eqb c x n, ne_eqb x c (λ e. n (sym e)))

-- at byte i: the rest of the name has to stand, or nothing does
module _ (s name : List ℕ) (i : ℕ) (l : i < length s) (h : i < length name) where
  pub starts-on : get_or s i 0 ≡ get_or name i 0 → starts_with eqb (drop i s) (drop i name) ≡ starts_with eqb (drop (i + 1) s) (drop (i + 1) name)
  starts-on e = rw (here s i l, here name i h, eq-eqb (get_or name i 0) (get_or s i 0) (sym e))

  pub starts-off : (get_or s i 0 ≡ get_or name i 0 → ⊥) → starts_with eqb (drop i s) (drop i name) ≡ false
  starts-off n = rw (here s i l, here name i h, ne_eqb (get_or name i 0) (get_or s i 0) (λ e. n (sym e)))

-- past its last byte the name stands
pub starts-all : (s name : List ℕ) (i : ℕ) → length name ≤ i → starts_with eqb (drop i s) (drop i name) ≡ true
starts-all s name i h = rw (at-end name i h)

-- ---- named classes

abbrev Name : Type 0
Name = List ℕ × List ℕ

-- bytes added in two steps
pub added_twice : (B : ℕ) (xs ys : List ℕ) → with_all B (xs ++ ys) ≡ with_all (with_all B xs) ys
added_twice B [] ys = refl
added_twice B (x ∷ xs) ys = added_twice (with B x) xs ys

module _ (p : List ℕ) (at : ℕ) where
  -- the bytes from `at` on, as a slice has them
  abbrev rest : List ℕ
  rest = take (length p - at) (drop at p)

  spelled : (name : List ℕ) {r : Bool} → r ≡ starts_with eqb rest name → past_all name (drop at p) ≡ guard r (drop (at + length name) p)
  spelled name e = rw (e, take_rest p at, ← starts name (drop at p), drop-drop)

  -- the first name that stands here is the one
  pub name-this : (x : Name) (xs : List Name) → true ≡ starts_with eqb rest x.0 → named_class (x ∷ xs) (drop at p) ≡ some (x.1, drop (at + length x.0) p)
  unfolding named_class
  name-this x xs e = rw (spelled x.0 e)

  pub name-later : (x : Name) (xs : List Name) → false ≡ starts_with eqb rest x.0 → named_class (x ∷ xs) (drop at p) ≡ named_class xs (drop at p)
  unfolding named_class
  name-later x xs e = rw (spelled x.0 e)

  pub name-read : (B : ℕ) {C : ℕ} (n : ℕ) {bs : List ℕ} → named_class named (drop at p) ≡ some (bs, drop (at + n) p)
      → C ≡ with_all B bs → 0 < n → n ≤ length rest → at ≤ length p → Reads 1 (with_name B) p at (some (C, at + n))
  name-read B n e q l h k = let r = rw (take_rest p at, length-drop) at h in record { is = rw (e, q); moves = (omega arith, omega arith) }

  pub no_name : (B : ℕ) → named_class named (drop at p) ≡ named_class [] (drop at p) → Reads 1 (with_name B) p at none
  unfolding named_class
  no_name B e = record { is = rw e; moves = tt }

-- ---- items

-- what begins with another byte than `[` is no name
member-no-name : (c : ℕ) (s : List ℕ) → c ≢ 91 → named_class named (c ∷ s) ≡ none
unfolding named_class
member-no-name c s n = rw (ne_eqb c 91 n)

-- a member is no name
pub no-name-here : (s : List ℕ) {b : ℕ} {u : List ℕ} → member s ≡ some (b, u) → named_class named s ≡ none
unfolding member
no-name-here [] e = cc
no-name-here (c ∷ s) e = member-no-name c s (λ q. bracket (rw q at e))
  where
    bracket : {b : ℕ} {u : List ℕ} → member (91 ∷ s) ≡ some (b, u) → ⊥
    bracket q = cc

pub item_member : (s : List ℕ) {lo : ℕ} {u : List ℕ} → member s ≡ some (lo, u) → item s ≡ range_from lo u
unfolding item
item_member s {lo} {u} e = rw (e, no-name-here s e) (or-none (range_from lo u))
  where
    or-none : (o : Option (List ℕ × List ℕ)) → or_else o none ≡ o
    or-none none = refl
    or-none (some x) = refl

pub item_name : (s : List ℕ) → member s ≡ none → item s ≡ named_class named s
unfolding item
item_name s e = rw e

-- ---- all items, with any fuel that is enough

pub record ItemsFrom (p : List ℕ) (at B : ℕ) (r : Option (ℕ × List ℕ)) : Type 0 where
  pub by : (f : ℕ) → length p - at ≤ f → items f B (drop at p) ≡ r

bound-none : {C : Type 0} (B : ℕ) (o : Option (List ℕ × List ℕ)) (k : List ℕ × List ℕ → Option C) → added_to B o ≡ none → (o >>= k) ≡ none
bound-none B none k e = refl
bound-none B (some x) k e = cc

bound_some : {C : Type 0} (B : ℕ) (o : Option (List ℕ × List ℕ)) (k : ℕ → List ℕ → Option C) {D : ℕ} {u : List ℕ} → added_to B o ≡ some (D, u) → (o >>= λ x. k (with_all B x.0) x.1) ≡ k D u
bound_some B none k e = cc
bound_some B (some x) k {D} {u} e = let q : ◌≡◌ {A = ℕ × List ℕ} (with_all B x.0, x.1) (D, u) = cc in ap (λ (y : ℕ × List ℕ). k y.0 y.1) q

-- after an item: a `]`, or more items
abbrev after_item : ℕ → ℕ → List ℕ → Option (ℕ × List ℕ)
after_item f B u = if_some (past 93 u) (λ v. some (B, v)) (items f B u)

items-none : (f B : ℕ) (s : List ℕ) → with_item B s ≡ none → items f B s ≡ none
unfolding items
items-none zero B s e = refl
items-none (suc f) B s e = bound-none B (item s) _ e

items-some : (f B : ℕ) (s : List ℕ) {D : ℕ} {u : List ℕ} → with_item B s ≡ some (D, u) → items (suc f) B s ≡ after_item f D u
unfolding items
items-some f B s e = bound_some B (item s) (after_item f) e

module _ (p : List ℕ) (at B : ℕ) where
  pub items-bad : with_item B (drop at p) ≡ none → ItemsFrom p at B none
  items-bad e = record { by = λ f l. items-none f B (drop at p) e }

  module _ (D next : ℕ) (e : with_item B (drop at p) ≡ some (D, drop next p)) (l : at + 1 ≤ next) (h : next ≤ length p) where
    one-item : (r : Option (ℕ × List ℕ)) → ((f : ℕ) → length p - next ≤ f → after_item f D (drop next p) ≡ r) → ItemsFrom p at B r
    one-item r k = record { by = go }
      where
        go : (f : ℕ) → length p - at ≤ f → items f B (drop at p) ≡ r
        go zero m = absurd (omega arith)
        go (suc f) m = items-some f B (drop at p) e ∙ k f (omega arith)

    pub items-end : past 93 (drop next p) ≡ some (drop (next + 1) p) → ItemsFrom p at B (some (D, drop (next + 1) p))
    items-end q = one-item _ (λ f m. rw q)

    pub items_more : {r : Option (ℕ × List ℕ)} → past 93 (drop next p) ≡ none → ItemsFrom p next D r → ItemsFrom p at B r
    items_more {r} q k = one-item r (λ f m. rw q (k.by f m))

-- the fuel of the rules is enough
pub items-whole : (p : List ℕ) (at : ℕ) {r : Option (ℕ × List ℕ)} → ItemsFrom p at 0 r → all_items (drop at p) ≡ r
items-whole p at k = k.by (length (drop at p)) (simp length-drop (omega arith))
