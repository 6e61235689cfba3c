-- A fragment is drawn where its parts are, and its own nodes have the edges of the construction.
use mathlib.Core.Path.{◌≡◌, refl, subst}
use mathlib.Core.Logic.{◌⊎◌, inl, inr, ⊎_elim}
use mathlib.Core.Bool.{Bool, true, false}
use mathlib.Core.List.Memᴰ
use mathlib.Core.List.Memᴰ.{append_left as on-left}
use mathlib.Core.List.Memᴰ.{append_right as on-right}
use mathlib.Core.List.Memᴰ.{head as first}
use mathlib.Core.List.Memᴰ.{tail as later}
use mathlib.Core.List.{List, [], ◌∷◌}
use Prim.Native.Nat.{ℕ, zero, suc, ◌+◌, ◌≤◌, ◌<◌}
use native.Mathlib.Omega.{arith}
use native.Mathlib.Nat.{eq-or-lt_of_le}
use lib.Dec.{T}
use Rattle.rules.specs.Nodes.{Kind, empty, Edge, edge, Frag, size, one, joined, forked, only, around}
use Rattle.rules.proofs.Edges.{◌∈◌, All, all_one, all-joined, all-forked, all-around}
use Rattle.entries.specs.Entries.{entry, entry_at, edges_of, pick}
use Rattle.entries.specs.declared.Entry.{Entry}
use Rattle.entries.specs.declared.Kind.TheVariants.{Empty}
use Rattle.nodes.specs.Fragments.{Between, Among, Drawn}

-- ---- what holds of each node from lo on and before hi

abbrev Through : (ℕ → Type 0) → ℕ → ℕ → Type 0
Through C lo hi = (u : ℕ) → lo ≤ u → u < hi → C u

side : (u mid : ℕ) → (u < mid) ⊎ (mid ≤ u)
side u zero = inr (omega arith)
side zero (suc mid) = inl (omega arith)
side (suc u) (suc mid) = ⊎_elim (λ h. inl (omega arith)) (λ h. inr (omega arith)) (side u mid)

module _ {C : ℕ → Type 0} where
  -- a node, and those after it
  node-then : (lo hi : ℕ) → C lo → Through C (suc lo) hi → Through C lo hi
  node-then lo hi c cs u i j = ⊎_elim (λ e. subst C e c) (λ k. cs u k j) (eq-or-lt_of_le i)

  -- a part, and the nodes after it
  part_then : (lo mid hi : ℕ) → Through C lo mid → Through C mid hi → Through C lo hi
  part_then lo mid hi cs ds u i j = ⊎_elim (λ k. cs u i k) (λ k. ds u k j) (side u mid)

module _ (p : List ℕ) (l : List Entry) where
  wider : {lo hi : ℕ} (lo' hi' : ℕ) → lo' ≤ lo → hi ≤ hi' → (es : List Edge) → All (Between p l lo hi) es → All (Between p l lo' hi') es
  wider lo' hi' i j es f x m = let h = f x m in (omega (arith, h.0), omega (arith, h.1), h.2)

  more : {es : List Edge} (fs : List Edge) (lo hi : ℕ) → ((x : Edge) → x ∈ es → x ∈ fs) → Through (Among p l es) lo hi → Through (Among p l fs) lo hi
  more fs lo hi f h u i j = record { edges = λ x m. f x ((h u i j).edges x m); sound = (h u i j).sound }

  -- a node with empty edges to a and to b
  module _ {u a b : ℕ} (is : entry_at l u ≡ entry Empty a b 0) where
    to-first : edge u empty a ∈ edges_of p (entry_at l u) u
    to-first = rw is (first refl)

    to-second : edge u empty b ∈ edges_of p (entry_at l u) u
    to-second = rw is (later (first refl))

    empties : (es : List Edge) → edge u empty a ∈ es → edge u empty b ∈ es → Among p l es u
    empties es ha hb = record {
      edges = λ x m. two x (subst (λ n. x ∈ edges_of p n u) is m);
      sound = rw is (λ e. absurd (omega arith));
    }
      where
        two : (x : Edge) → x ∈ (edge u empty a ∷ edge u empty b ∷ []) → x ∈ es
        two x (first h) = Memᴰ.cast h ha
        two x (later (first h)) = Memᴰ.cast h hb
        two x (later (later h)) = absurd (Memᴰ.not-nil h)

  -- two nodes and an edge
  pub drawn-one : (k : Kind) (b : ℕ) → edge b k (1 + b) ∈ edges_of p (entry_at l b) b → Among p l ((one k).edges b) b → Drawn p (one k) b l
  drawn-one k b m n = record {
    edges = all_one (Between p l b (b + 1)) b k (omega arith, omega arith, m);
    nodes = node-then b (b + 1) n (λ u i j. absurd (omega arith));
  }

  -- in a row
  pub drawn-joined : (X Y : Frag) (b : ℕ) → Drawn p X b l → Drawn p Y (b + size X) l
      → entry_at l (b + X.last) ≡ entry Empty (b + size X) (b + size X) 0 → Drawn p (joined X Y) b l
  drawn-joined X Y b dx dy is =
      let y : ℕ = b + size X in
      let end : ℕ = b + (joined X Y).last in
      let es : List Edge = (joined X Y).edges b in
      record {
        edges = all-joined (Between p l b end) b X Y
            (omega arith, omega arith, to-first is)
            (wider b end (omega arith) (omega arith) (X.edges b) dx.edges)
            (wider b end (omega arith) (omega arith) (Y.edges y) dy.edges);
        nodes =
            part_then b (b + X.last) end (more es b (b + X.last) (λ x m. later (on-left (Y.edges y) m)) dx.nodes)
            (node-then (b + X.last) end (empties is es (first refl) (first refl))
            (λ u i j. more es y (y + Y.last) (λ x m. later (on-right (X.edges b) m)) dy.nodes u (omega arith) (omega arith)));
      }

  -- `|`
  pub drawn-forked : (X Y : Frag) (b : ℕ) → let x : ℕ = 1 + b in let y : ℕ = 1 + b + size X in let e : ℕ = 1 + b + size X + size Y in
      Drawn p X x l → Drawn p Y y l → entry_at l b ≡ entry Empty x y 0 → entry_at l (x + X.last) ≡ entry Empty e e 0 → entry_at l (y + Y.last) ≡ entry Empty e e 0
      → Drawn p (forked X Y) b l
  drawn-forked X Y b dx dy is_b is_x is_y =
      let x : ℕ = 1 + b in
      let y : ℕ = 1 + b + size X in
      let end : ℕ = b + (forked X Y).last in
      let es : List Edge = (forked X Y).edges b in
      record {
        edges = all-forked (Between p l b end) b X Y
            (omega arith, omega arith, to-first is_b)
            (omega arith, omega arith, to-second is_b)
            (omega arith, omega arith, to-first is_x)
            (omega arith, omega arith, to-first is_y)
            (wider b end (omega arith) (omega arith) (X.edges x) dx.edges)
            (wider b end (omega arith) (omega arith) (Y.edges y) dy.edges);
        nodes =
            node-then b end (empties is_b es (first refl) (later (first refl)))
            (part_then (suc b) (x + X.last) end (λ u i j. more es x (x + X.last) (λ z m. later (later (later (later (on-left (Y.edges y) m))))) dx.nodes u (omega arith) j)
            (node-then (x + X.last) end (empties is_x es (later (later (first refl))) (later (later (first refl))))
            (part_then (suc (x + X.last)) (y + Y.last) end (λ u i j. more es y (y + Y.last) (λ z m. later (later (later (later (on-right (X.edges x) m))))) dy.nodes u (omega arith) j)
            (node-then (y + Y.last) end (empties is_y es (later (later (later (first refl)))) (later (later (later (first refl)))))
            (λ u i j. absurd (omega arith))))));
      }

  -- a repeat
  pub drawn-around : (skip back : Bool) (X : Frag) (b : ℕ) → let x : ℕ = 1 + b in let e : ℕ = 1 + b + size X in
      Drawn p X x l → entry_at l b ≡ entry Empty x (pick skip e x) 0 → entry_at l (x + X.last) ≡ entry Empty e (pick back x e) 0 → Drawn p (around skip back X) b l
  drawn-around skip back X b dx is_b is_x =
      let x : ℕ = 1 + b in
      let e : ℕ = 1 + b + size X in
      let end : ℕ = b + (around skip back X).last in
      let es : List Edge = (around skip back X).edges b in
      record {
        edges = all-around (Between p l b end) b skip back X
            (omega arith, omega arith, to-first is_b)
            (omega arith, omega arith, to-first is_x)
            (λ c. (omega arith, omega arith, picked skip c b e x (to-second is_b)))
            (λ c. (omega arith, omega arith, picked back c (x + X.last) x e (to-second is_x)))
            (wider b end (omega arith) (omega arith) (X.edges x) dx.edges);
        nodes =
            node-then b end (empties is_b es (first refl) (second-or skip b e x es (first refl) (λ m. later (later (on-left _ m)))))
            (part_then (suc b) (x + X.last) end
            (λ u i j. more es x (x + X.last) (λ z m. later (later (on-right (only skip (edge b empty e)) (on-right (only back (edge (x + X.last) empty x)) m)))) dx.nodes u (omega arith) j)
            (node-then (x + X.last) end
            (empties is_x es (later (first refl)) (second-or back (x + X.last) x e es (later (first refl)) (λ m. later (later (on-right (only skip (edge b empty e)) (on-left _ m))))))
            (λ u i j. absurd (omega arith))));
      }
    where
      picked : (c : Bool) → T c → (u a b : ℕ) → edge u empty (pick c a b) ∈ edges_of p (entry_at l u) u → edge u empty a ∈ edges_of p (entry_at l u) u
      picked true t u a b m = m
      picked false t u a b m = absurd t

      second-or : (c : Bool) (u a b : ℕ) (es : List Edge) → edge u empty b ∈ es → (edge u empty a ∈ only c (edge u empty a) → edge u empty a ∈ es) → edge u empty (pick c a b) ∈ es
      second-or true u a b es m f = f (first refl)
      second-or false u a b es m f = m
