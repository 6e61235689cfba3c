-- A tree's nodes as they stand in four lists: what each node's kind is, where its edges go, and what its byte edge is crossed on.
use Rattle.std.specs.Prelude.{◌≡◌, ◌↔◌, ℕ, suc, ◌≤◌, get_or}
use mathlib.Core.List.{List, [], ◌∷◌, Memᴰ, map}
use Rattle.rules.specs.Tools.{up_from, find, flat}
use Rattle.rules.specs.Sizes.{nodes_most}
use Rattle.rules.specs.Nodes.{empty, on_head, on_tail, on_bytes, Edge, edge}
use Rattle.rules.specs.SetRows.{Machine}

-- The edges of node u, by its kind: 1 is empty edges to a and to b, 2 a head edge, 3 a tail edge, 4 an edge on the bytes B,
-- each of these three to the next node; any other kind has no edge. Where there is one empty edge only, a and b are the same.
abbrev pub node_edges : ℕ → ℕ → ℕ → ℕ → ℕ → List Edge
node_edges k a b B u = find [] k (
    (1, edge u empty a ∷ edge u empty b ∷ [])
    ∷ (2, edge u on_head (suc u) ∷ [])
    ∷ (3, edge u on_tail (suc u) ∷ [])
    ∷ (4, edge u (on_bytes B) (suc u) ∷ [])
    ∷ [])

-- the edges of the n nodes, where `bytes u` are the bytes of node u
unfoldable pub list_edges : List ℕ → List ℕ → List ℕ → (ℕ → ℕ) → ℕ → List Edge
list_edges kind to1 to2 bytes n = flat (map (λ u. node_edges (get_or kind u 0) (get_or to1 u 0) (get_or to2 u 0) (bytes u) u) (up_from 0 n))

-- the lists hold the nodes of the machine w
pub record HoldNodes (w : Machine) (kind to1 to2 : List ℕ) (bytes : ℕ → ℕ) (n : ℕ) : Type 0 where
  pub count : w.count ≡ n
  pub few : n ≤ nodes_most
  pub edges : (x : Edge) → Memᴰ x w.links ↔ Memᴰ x (list_edges kind to1 to2 bytes n)
