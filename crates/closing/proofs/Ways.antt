-- The edges of nodes in lists, and where the ones that are crossed lead.
use mathlib.Core.Path.{◌≡◌, refl, sym, ap, ◌∙◌, subst}
use mathlib.Core.Logic.{◌≢◌, ◌⊎◌, inl, inr, ⊎_elim}
use mathlib.Core.Bool.{Bool, true, false}
use mathlib.Core.List.Memᴰ
use mathlib.Core.List.Memᴰ.{append_left as in_left}
use mathlib.Core.List.Memᴰ.{append_right as in_right}
use mathlib.Core.List.Memᴰ.{head as first}
use mathlib.Core.List.Memᴰ.{tail as later}
use mathlib.Core.List.{List, [], ◌∷◌, ◌++◌, map}
use Prim.Native.Nat.{ℕ, zero, suc, ◌+◌, ◌≤◌, ◌<◌}
use native.Mathlib.Decide.{ℕ_discrete}
use native.Mathlib.Numerals.{add-one}
use native.Mathlib.Omega.{arith}
use borrow.Author.Tests.{ne_eqb}
use lib.Dec.{T}
use lib.ListN.{length, get_or}
use Rattle.rules.specs.Tools.{up_from, flat, find}
use Rattle.rules.specs.Nodes.{Kind, empty, on_head, on_tail, on_bytes, Edge, edge}
use Rattle.rules.proofs.Edges.{◌∈◌}
use Rattle.entries.specs.Nodes.{node_edges, list_edges}
use Rattle.rules.specs.SetRows.{crosses}
use Rattle.closing.specs.Closing.{ways, targets_of}
use Rattle.kinds.specs.declared.Node.{Node}
use Rattle.std.specs.Prelude.{Option, Some, None}
use Rattle.std.specs.Bool.{then_some}

-- ---- lists node by node

module _ (f : ℕ → List Edge) where
  pub flat_in : (b n u : ℕ) {x : Edge} → b ≤ u → u < b + n → x ∈ f u → x ∈ flat (map f (up_from b n))
  flat_in b zero u l h e = absurd (omega arith)
  flat_in b (suc n) u {x} l h e = go (ℕ_discrete b u) (λ ne. flat_in (suc b) n u (omega arith) (omega arith) e)
    where
      go : Dec (b ≡ u) → (b ≢ u → x ∈ flat (map f (up_from (suc b) n))) → x ∈ f b ++ flat (map f (up_from (suc b) n))
      go (yes q) rest = in_left {s = f b} (flat (map f (up_from (suc b) n))) (rw q e)
      go (no ne) rest = in_right (f b) (rest ne)

  pub flat-of : (b n : ℕ) {x : Edge} → x ∈ flat (map f (up_from b n)) → (u : ℕ) × (u < b + n) × (x ∈ f u)
  flat-of b zero h = absurd (Memᴰ.not-nil h)
  flat-of b (suc n) {x} h = ⊎_elim (λ e. (b, omega arith, e)) (λ e. one_up (flat-of (suc b) n e)) (Memᴰ.append_cases (f b) h)
    where
      one_up : (u : ℕ) × (u < suc b + n) × (x ∈ f u) → (u : ℕ) × (u < b + suc n) × (x ∈ f u)
      one_up r = (r.0, omega (arith, r.1), r.2)

-- ---- a node by its kind

by_kind : (C : ℕ → Type 0) → C 1 → C 2 → C 3 → C 4 → ((k : ℕ) → k ≢ 1 → k ≢ 2 → k ≢ 3 → k ≢ 4 → C k) → (k : ℕ) → C k
by_kind C one two three four other k = go (ℕ_discrete k 1) (ℕ_discrete k 2) (ℕ_discrete k 3) (ℕ_discrete k 4)
  where
    go : Dec (k ≡ 1) → Dec (k ≡ 2) → Dec (k ≡ 3) → Dec (k ≡ 4) → C k
    go (yes e) b c d = subst C (sym e) one
    go (no n₁) (yes e) c d = subst C (sym e) two
    go (no n₁) (no n₂) (yes e) d = subst C (sym e) three
    go (no n₁) (no n₂) (no n₃) (yes e) = subst C (sym e) four
    go (no n₁) (no n₂) (no n₃) (no n₄) = other k n₁ n₂ n₃ n₄

module _ (a b B u : ℕ) where
  other-edges : (k : ℕ) → k ≢ 1 → k ≢ 2 → k ≢ 3 → k ≢ 4 → node_edges k a b B u ≡ []
  other-edges k n₁ n₂ n₃ n₄ = rw (find, ne_eqb k 1 n₁, ne_eqb k 2 n₂, ne_eqb k 3 n₃, ne_eqb k 4 n₄)

  -- C holds of a node's kind and of each of its edges
  pub node-all : (C : ℕ → Edge → Type 0) → C 1 (edge u empty a) → C 1 (edge u empty b) → C 2 (edge u on_head (suc u)) → C 3 (edge u on_tail (suc u)) → C 4 (edge u (on_bytes B) (suc u))
      → (k : ℕ) (x : Edge) → x ∈ node_edges k a b B u → C k x
  node-all C ca cb ch ct cB = by_kind (λ k. (x : Edge) → x ∈ node_edges k a b B u → C k x) two_edges (one-edge (C 2) _ ch) (one-edge (C 3) _ ct) (one-edge (C 4) _ cB)
      (λ k n₁ n₂ n₃ n₄ x h. absurd (Memᴰ.not-nil (subst (λ (l : List Edge). x ∈ l) (other-edges k n₁ n₂ n₃ n₄) h)))
    where
      one-edge : (D : Edge → Type 0) (y : Edge) → D y → (x : Edge) → x ∈ (y ∷ []) → D x
      one-edge D y d x (first e) = subst D (sym e) d
      one-edge D y d x (later h) = absurd (Memᴰ.not-nil h)

      two_edges : (x : Edge) → x ∈ (edge u empty a ∷ edge u empty b ∷ []) → C 1 x
      two_edges x (first e) = subst (C 1) (sym e) ca
      two_edges x (later h) = one-edge (C 1) (edge u empty b) cb x h

  pub node-from : (k : ℕ) (x : Edge) → x ∈ node_edges k a b B u → x.from ≡ u
  node-from = node-all (λ k x. x.from ≡ u) refl refl refl refl refl

-- ---- what is crossed

-- c crosses an edge of es to v
abbrev Goes : (Kind → Bool) → List Edge → ℕ → Type 0
Goes c es v = (x : Edge) × (x ∈ es) × T (c x.on) × (x.to ≡ v)

-- the targets are those of the edges of es that c crosses
abbrev LeadsTo : (Kind → Bool) → List Edge → Option (Node × Node) → Type 0
LeadsTo c es (Some (a, b)) = Goes c es a.0 × Goes c es b.0 × ((x : Edge) → x ∈ es → T (c x.on) → (x.to ≡ a.0) ⊎ (x.to ≡ b.0))
LeadsTo c es None = (x : Edge) → x ∈ es → T (c x.on) → ⊥

module _ (h t : Bool) (a b u : ℕ) where
  one_way : (k : Kind) → T (crosses h t k) → LeadsTo (crosses h t) (edge u k (suc u) ∷ []) (Some (record { 0 = u + 1 }, record { 0 = u + 1 }))
  one_way k c = (way, way, only)
    where
      up : suc u ≡ u + 1
      up = sym (add-one u)

      way : Goes (crosses h t) (edge u k (suc u) ∷ []) (u + 1)
      way = (edge u k (suc u), first refl, c, up)

      only : (x : Edge) → x ∈ (edge u k (suc u) ∷ []) → T (crosses h t x.on) → (x.to ≡ u + 1) ⊎ (x.to ≡ u + 1)
      only x (first e) g = inl (ap (λ (y : Edge). y.to) e ∙ up)
      only x (later e) g = absurd (Memᴰ.not-nil e)

  no_way : (k : Kind) → (T (crosses h t k) → ⊥) → LeadsTo (crosses h t) (edge u k (suc u) ∷ []) None
  no_way k n x (first e) g = n (subst (λ (y : Edge). T (crosses h t y.on)) e g)
  no_way k n x (later e) g = Memᴰ.not-nil e

  anchor : (k : Kind) (s : Bool) → crosses h t k ≡ s → LeadsTo (crosses h t) (edge u k (suc u) ∷ []) (then_some s (record { 0 = u + 1 }, record { 0 = u + 1 }))
  anchor k true e = one_way k (rw e tt)
  anchor k false e = no_way k (λ g. rw e at g)

  pub other-targets : (k : ℕ) → k ≢ 1 → k ≢ 2 → k ≢ 3 → targets_of h t k a b u ≡ None
  unfolding targets_of
  other-targets k n₁ n₂ n₃ = rw (find, ne_eqb k 1 n₁, ne_eqb k 2 n₂, ne_eqb k 3 n₃)

  node-leads : (k : ℕ) → LeadsTo (crosses h t) (node_edges k a b 0 u) (targets_of h t k a b u)
  unfolding targets_of
  node-leads = by_kind (λ k. LeadsTo (crosses h t) (node_edges k a b 0 u) (targets_of h t k a b u))
      ((edge u empty a, first refl, tt, refl), (edge u empty b, later (first refl), tt, refl), empties)
      (anchor on_head h refl) (anchor on_tail t refl) (no_way (on_bytes 0) (λ c. c))
      (λ k n₁ n₂ n₃ n₄. rw (other-edges a b 0 u k n₁ n₂ n₃ n₄, other-targets k n₁ n₂ n₃) (λ x e g. Memᴰ.not-nil e))
    where
      empties : (x : Edge) → x ∈ (edge u empty a ∷ edge u empty b ∷ []) → T (crosses h t x.on) → (x.to ≡ a) ⊎ (x.to ≡ b)
      empties x (first e) g = inl (ap (λ (y : Edge). y.to) e)
      empties x (later (first e)) g = inr (ap (λ (y : Edge). y.to) e)
      empties x (later (later e)) g = absurd (Memᴰ.not-nil e)

-- ---- nodes of the lists

module _ (kind to1 to2 : List ℕ) where
  -- the edges of node u
  abbrev pub at_node : ℕ → List Edge
  at_node u = node_edges (get_or kind u 0) (get_or to1 u 0) (get_or to2 u 0) 0 u

  way_in : (u : ℕ) (x : Edge) → u < length kind → x ∈ at_node u → x ∈ ways kind to1 to2
  unfolding ways list_edges
  way_in u x l h = flat_in at_node 0 (length kind) u (omega arith) (omega arith) h

  pub way_of : (x : Edge) → x ∈ ways kind to1 to2 → x ∈ at_node x.from
  unfolding ways list_edges
  way_of x h = let r : (u : ℕ) × (u < 0 + length kind) × (x ∈ at_node u) = flat-of at_node 0 (length kind) h in
      subst (λ (u : ℕ). x ∈ at_node u) (sym (node-from (get_or to1 r.0 0) (get_or to2 r.0 0) 0 r.0 (get_or kind r.0 0) x r.2)) r.2

  pub way-low : (x : Edge) → x ∈ ways kind to1 to2 → x.from < length kind
  unfolding ways list_edges
  way-low x h = let r : (u : ℕ) × (u < 0 + length kind) × (x ∈ at_node u) = flat-of at_node 0 (length kind) h in
      omega (arith, r.1, node-from (get_or to1 r.0 0) (get_or to2 r.0 0) 0 r.0 (get_or kind r.0 0) x r.2)

-- an edge from u to v is crossed
abbrev From : Bool → Bool → List ℕ → List ℕ → List ℕ → ℕ → ℕ → Type 0
From h t kind to1 to2 u v = (x : Edge) × (x ∈ ways kind to1 to2) × (x.from ≡ u) × T (crosses h t x.on) × (x.to ≡ v)

-- a and b are the targets of the edges from u that are crossed
pub record Leads (h t : Bool) (kind to1 to2 : List ℕ) (u a b : ℕ) : Type 0 where
  pub one : From h t kind to1 to2 u a
  pub two : From h t kind to1 to2 u b
  pub only : (x : Edge) → x ∈ ways kind to1 to2 → x.from ≡ u → T (crosses h t x.on) → (x.to ≡ a) ⊎ (x.to ≡ b)

-- no edge from u is crossed
pub record Bare (h t : Bool) (kind to1 to2 : List ℕ) (u : ℕ) : Type 0 where
  pub none : (x : Edge) → x ∈ ways kind to1 to2 → x.from ≡ u → T (crosses h t x.on) → ⊥

module _ (h t : Bool) (kind to1 to2 : List ℕ) (u : ℕ) (l : u < length kind) where
  here : (x : Edge) → x ∈ ways kind to1 to2 → x.from ≡ u → x ∈ at_node kind to1 to2 u
  here x m f = subst (λ (y : ℕ). x ∈ at_node kind to1 to2 y) f (way_of kind to1 to2 x m)

  from : (v : ℕ) → Goes (crosses h t) (at_node kind to1 to2 u) v → From h t kind to1 to2 u v
  from v g = (g.0, way_in kind to1 to2 u g.0 l g.1, node-from (get_or to1 u 0) (get_or to2 u 0) 0 u (get_or kind u 0) g.0 g.1, g.2, g.3)

  leads : (r : Option (Node × Node)) → r ≡ targets_of h t (get_or kind u 0) (get_or to1 u 0) (get_or to2 u 0) u → LeadsTo (crosses h t) (at_node kind to1 to2 u) r
  leads r e = rw e (node-leads h t (get_or to1 u 0) (get_or to2 u 0) u (get_or kind u 0))

module _ {h t : Bool} {kind to1 to2 : List ℕ} {u : ℕ} (l : u < length kind) where
  pub leads-two : {a b : Node} → Some (a, b) ≡ targets_of h t (get_or kind u 0) (get_or to1 u 0) (get_or to2 u 0) u → Leads h t kind to1 to2 u a.0 b.0
  leads-two {a} {b} e = let g : LeadsTo (crosses h t) (at_node kind to1 to2 u) (Some (a, b)) = leads h t kind to1 to2 u l (Some (a, b)) e in
      record { one = from h t kind to1 to2 u l a.0 g.0; two = from h t kind to1 to2 u l b.0 g.1; only = λ x m f c. g.2 x (here h t kind to1 to2 u l x m f) c }

  pub leads-nowhere : None ≡ targets_of h t (get_or kind u 0) (get_or to1 u 0) (get_or to2 u 0) u → Bare h t kind to1 to2 u
  leads-nowhere e = record { none = λ x m f c. leads h t kind to1 to2 u l None e x (here h t kind to1 to2 u l x m f) c }
