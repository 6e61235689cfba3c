-- What stands at a node in the array of entries.
use Rattle.std.specs.Prelude.{◌≡◌, Bool, true, false, List, ℕ, suc, ◌≤◌, ◌<◌, length, get_or, Option, Some, None}
use mathlib.Core.List.{map}
use Rattle.rules.specs.Sizes.{nodes_most}
use Rattle.rules.specs.Nodes.{Edge}
use Rattle.program.specs.Program.{atom_bytes, AtomAt}
use Rattle.kinds.specs.declared.Node.{Node}
use Rattle.entries.specs.Nodes.{node_edges}
use Rattle.entries.specs.declared.Kind.{Kind}
use Rattle.entries.specs.declared.Kind.TheVariants.{Last, Empty, Head, Tail, Bytes}
use Rattle.entries.specs.declared.Entry.{Entry}

-- ---- entries in numbers

abbrev pub kind_number : Kind → ℕ
kind_number Last = 0
kind_number Empty = 1
kind_number Head = 2
kind_number Tail = 3
kind_number Bytes = 4

unfoldable pub kinds_of : List Entry → List ℕ
kinds_of l = map (λ n. kind_number n.kind) l

unfoldable pub firsts_of : List Entry → List ℕ
firsts_of l = map (λ n. n.to1.0) l

unfoldable pub seconds_of : List Entry → List ℕ
seconds_of l = map (λ n. n.to2.0) l

unfoldable pub atoms_of : List Entry → List ℕ
atoms_of l = map (λ n. n.atom) l

-- ---- entries

abbrev pub entry : Kind → ℕ → ℕ → ℕ → Entry
entry k a b at = record { kind = k; to1 = record { 0 = a }; to2 = record { 0 = b }; atom = at }

abbrev pub blank : Entry
blank = entry Last 0 0 0

-- there is a place for each node
abbrev pub Room : List Entry → Type 0
Room l = length l ≡ nodes_most

-- what stands at node u
abbrev pub entry_at : List Entry → ℕ → Entry
entry_at l u = get_or l u blank

-- a where c holds, else b
abbrev pub pick : Bool → ℕ → ℕ → ℕ
pick c a b = elim c [ true ↦ a | false ↦ b ]

-- the edges of a node with this entry, where p is the program
abbrev pub edges_of : List ℕ → Entry → ℕ → List Edge
edges_of p n u = node_edges (kind_number n.kind) n.to1.0 n.to2.0 (atom_bytes p n.atom) u

-- a node with an edge on bytes names an atom of the program
abbrev pub Sound : List ℕ → Entry → Type 0
Sound p n = kind_number n.kind ≡ 4 → AtomAt p n.atom

-- the entry n is written at u, and no other is changed
pub record Puts (old new : List Entry) (u : ℕ) (n : Entry) : Type 0 where
  pub room : Room new
  pub here : entry_at new u ≡ n
  pub others : (v : ℕ) → (v ≡ u → ⊥) → entry_at new v ≡ entry_at old v

-- the node after u, unless u is the last that there is room for
abbrev pub NextOf : ℕ → Option Node → Type 0
NextOf u (Some n) = (n.0 ≡ suc u) × (n.0 < nodes_most)
NextOf u None = nodes_most ≤ suc u

-- u's only edge goes to the node after it
abbrev pub Links : List Entry → List Entry → ℕ → Kind → ℕ → Option Node → Type 0
Links old new u k at (Some n) = (n.0 ≡ suc u) × (n.0 < nodes_most) × Puts old new u (entry k n.0 n.0 at)
Links old new u k at None = nodes_most ≤ suc u
