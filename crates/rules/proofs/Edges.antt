-- Edges of a list, and the edges of a fragment: its own and those of its parts.
use mathlib.Core.Path.{refl, sym, subst}
use mathlib.Core.Logic.{⊎_elim}
use mathlib.Core.Bool.{Bool, true, false, not}
use mathlib.Core.List.Memᴰ
use mathlib.Core.List.Memᴰ.{head as first}
use mathlib.Core.List.Memᴰ.{tail as later}
use mathlib.Core.List.{List, [], ◌∷◌, ◌++◌, Memᴰ}
use Prim.Native.Nat.{ℕ, ◌+◌}
use lib.Dec.{T}
use Rattle.rules.specs.Nodes.{Kind, empty, Edge, edge, Frag, size, one, joined, forked, only, around}

infix 20 ◌∈◌
-- the edge is in the list
abbrev pub ◌∈◌ : Edge → List Edge → Type 0
x ∈ es = Memᴰ x es

-- C holds of each edge of the list
abbrev pub All : (Edge → Type 0) → List Edge → Type 0
All C es = (x : Edge) → x ∈ es → C x

-- what is to be shown of each own edge, and of the parts' edges, so that C holds of each edge
module _ (C : Edge → Type 0) where
  all_none : All C []
  all_none x h = absurd (Memᴰ.not-nil h)

  all-with : (x : Edge) (xs : List Edge) → C x → All C xs → All C (x ∷ xs)
  all-with x xs c cs y (first e) = subst C (sym e) c
  all-with x xs c cs y (later h) = cs y h

  all_both : (xs ys : List Edge) → All C xs → All C ys → All C (xs ++ ys)
  all_both xs ys cs ds y h = ⊎_elim (cs y) (ds y) (Memᴰ.append_cases xs h)

  all-only : (c : Bool) (x : Edge) → (T c → C x) → All C (only c x)
  all-only true x f = all-with x [] (f tt) all_none
  all-only false x f = all_none

  module _ (b : ℕ) where
    pub all_one : (k : Kind) → C (edge b k (1 + b)) → All C ((one k).edges b)
    all_one k c = all-with (edge b k (1 + b)) [] c all_none

    pub all-joined : (X Y : Frag) → C (edge (b + X.last) empty (b + size X)) → All C (X.edges b) → All C (Y.edges (b + size X)) → All C ((joined X Y).edges b)
    all-joined X Y c xs ys = all-with _ _ c (all_both (X.edges b) (Y.edges (b + size X)) xs ys)

    pub all-forked : (X Y : Frag) → let x : ℕ = 1 + b in let y : ℕ = 1 + b + size X in let e : ℕ = 1 + b + size X + size Y in
        C (edge b empty x) → C (edge b empty y) → C (edge (x + X.last) empty e) → C (edge (y + Y.last) empty e)
        → All C (X.edges x) → All C (Y.edges y) → All C ((forked X Y).edges b)
    all-forked X Y to_x toY fromX fromY xs ys =
        all-with _ _ to_x (all-with _ _ toY (all-with _ _ fromX (all-with _ _ fromY (all_both (X.edges (1 + b)) (Y.edges (1 + b + size X)) xs ys))))

    pub all-around : (skip back : Bool) (X : Frag) → let x : ℕ = 1 + b in let e : ℕ = 1 + b + size X in
        C (edge b empty x) → C (edge (x + X.last) empty e) → (T skip → C (edge b empty e)) → (T back → C (edge (x + X.last) empty x))
        → All C (X.edges x) → All C ((around skip back X).edges b)
    all-around skip back X to_x fromX skips backs xs =
        all-with _ _ to_x (all-with _ _ fromX (all_both (only skip _) _ (all-only skip _ skips) (all_both (only back _) (X.edges (1 + b)) (all-only back _ backs) xs)))

-- an edge that is there only where c says so
pub only-there : (c : Bool) (x : Edge) → (T (not c) → ⊥) → x ∈ only c x
only-there true x n = first refl
only-there false x n = absurd (n tt)
