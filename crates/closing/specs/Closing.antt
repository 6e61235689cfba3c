-- Closing a set of nodes under the edges that are crossed without a byte.
use Rattle.std.specs.Prelude.{◌≡◌, ◌⊎◌, Bool, true, false, ℕ, suc, ◌+◌, ◌*◌, ◌-◌, ◌≤◌, ◌<◌, ◌^◌, T, length, get_or, Option, Some, None}
use mathlib.Core.List.{List, [], ◌∷◌, Memᴰ}
use Rattle.std.specs.Bool.{then_some}
use Rattle.rules.specs.Tools.{has, with, find}
use Rattle.nodesets.specs.NodeSets.{mask_of}
use Rattle.rules.specs.Sizes.{nodes_most, words_a_row}
use Rattle.rules.specs.Nodes.{Kind, Edge}
use Rattle.rules.specs.SetRows.{crosses, closed}
use Rattle.entries.specs.Nodes.{list_edges}
use Rattle.entries.specs.Entries.{kinds_of, firsts_of, seconds_of}
use Rattle.entries.specs.declared.Entry.{Entry}
use Rattle.kinds.specs.declared.Node.{Node}

-- the edges of the nodes in the lists; no byte is on those that are on bytes
unfoldable pub ways : List ℕ → List ℕ → List ℕ → List Edge
ways kind to1 to2 = list_edges kind to1 to2 (λ u. 0) (length kind)

-- the lists have an entry for each node, and the edges go to nodes
pub record Nodes (kind to1 to2 : List ℕ) : Type 0 where
  pub few : length kind ≤ nodes_most
  pub firsts : length to1 ≡ length kind
  pub seconds : length to2 ≡ length kind
  pub below : (x : Edge) → Memᴰ x (ways kind to1 to2) → x.to < length kind

-- the words have a bit for each of n nodes, and are no more than a row's
pub record Wide (n : ℕ) (set : List ℕ) : Type 0 where
  pub long : n ≤ 64 * length set
  pub short : length set ≤ words_a_row

-- m closed, where n is the number of nodes
unfoldable pub closing : Bool → Bool → List ℕ → List ℕ → List ℕ → ℕ → ℕ
closing head tail kind to1 to2 m = closed (crosses head tail) (ways kind to1 to2) (2 ^ length kind) m

-- the targets of the edges that node u has by its kind
unfoldable pub targets_of : Bool → Bool → ℕ → ℕ → ℕ → ℕ → Option (Node × Node)
targets_of head tail k a b u =
    let next : Node × Node = (record { 0 = u + 1 }, record { 0 = u + 1 }) in
    find None k ((1, Some (record { 0 = a }, record { 0 = b })) ∷ (2, then_some head next) ∷ (3, then_some tail next) ∷ [])

-- ---- of the entries

abbrev pub ways_of : List Entry → List Edge
ways_of l = ways (kinds_of l) (firsts_of l) (seconds_of l)

abbrev pub NodesIn : List Entry → Type 0
NodesIn l = Nodes (kinds_of l) (firsts_of l) (seconds_of l)

abbrev pub closing_of : Bool → Bool → List Entry → ℕ → ℕ
closing_of head tail l m = closing head tail (kinds_of l) (firsts_of l) (seconds_of l) m

abbrev pub targets_at : Bool → Bool → List Entry → ℕ → Option (Node × Node)
targets_at head tail l u = targets_of head tail (get_or (kinds_of l) u 0) (get_or (firsts_of l) u 0) (get_or (seconds_of l) u 0) u

-- ---- a set that is closed

-- the set and what is pending have words for the nodes of these entries, and the set has no others
pub record SetsFor (l : List Entry) (set pending : List ℕ) : Type 0 where
  pub nodes : NodesIn l
  pub wide : Wide (length l) set
  pub long : length pending ≡ length set
  pub small : mask_of set < 2 ^ length l

-- v put into m: if it is new it is pending too, and its word is not passed
abbrev pub Added : ℕ → ℕ → ℕ → ℕ → ℕ → ℕ → ℕ → Type 0
Added m p i v m' p' i' =
    (T (has m v) × (m' ≡ m) × (p' ≡ p) × (i' ≡ i))
    ⊎ ((T (has m v) → ⊥) × (m' ≡ with m v) × (p' ≡ with p v) × (i' ≤ i) × (64 * i' ≤ v))

-- where c crosses an edge from a node of m, it goes to a node of m
abbrev pub Full : (Kind → Bool) → List Edge → ℕ → Type 0
Full c es m = (x : Edge) → Memᴰ x es → T (c x.on) → T (has m x.from) → T (has m x.to)

-- the same but for nodes that wait
abbrev pub FullBut : (ℕ → Type 0) → (Kind → Bool) → List Edge → ℕ → Type 0
FullBut Waits c es m = (x : Edge) → Memᴰ x es → T (c x.on) → T (has m x.from) → Waits x.from ⊎ T (has m x.to)

-- m is being closed: it has the seeds, and is within `full`. Some nodes wait; of these p has the ones that are pending, none of them
-- before word i.
pub record Sweep (c : Kind → Bool) (es : List Edge) (seeds full : ℕ) (Waits : ℕ → Type 0) (m p i : ℕ) : Type 0 where
  pub holds : (v : ℕ) → T (has seeds v) → T (has m v)
  pub within : (v : ℕ) → T (has m v) → T (has full v)
  pub leads : FullBut Waits c es m
  pub among : (v : ℕ) → Waits v → T (has m v)
  pub past : (v : ℕ) → T (has p v) → 64 * i ≤ v

-- closing goes on from m, p and i, where the nodes of Old wait, to m', p' and i', where those of New do
pub record Onward (c : Kind → Bool) (es : List Edge) (n : ℕ) (Old : ℕ → Type 0) (m p i : ℕ) (New : ℕ → Type 0) (m' p' i' : ℕ) : Type 0 where
  pub small : m < 2 ^ n → m' < 2 ^ n
  pub small-too : p < 2 ^ n → p' < 2 ^ n
  pub grows : m ≤ m'
  pub still : m' ≡ m → (p' ≡ p) × (i' ≡ i)
  pub back : i' ≤ i
  pub sweeps : (seeds full : ℕ) → Full c es full → Sweep c es seeds full Old m p i → Sweep c es seeds full New m' p' i'

-- what is left to do: nodes to add, then nodes that are pending, then words
abbrev pub left : ℕ → ℕ → ℕ → ℕ → ℕ → ℕ
left n w m p i = ((2 ^ n - m) * 2 ^ n + p) * suc w + (w - i)

-- one step from word i, of w
pub record Advanced (c : Kind → Bool) (es : List Edge) (n w m p i m' p' i' : ℕ) : Type 0 where
  pub small : m' < 2 ^ n
  pub small-too : p' < 2 ^ n
  pub at : i' ≤ w
  pub falls : left n w m' p' i' < left n w m p i
  pub sweeps : (seeds full : ℕ) → Full c es full → Sweep c es seeds full (λ v. T (has p v)) m p i → Sweep c es seeds full (λ v. T (has p' v)) m' p' i'

-- ---- marks

-- its mark, where m are its nodes and `last` is the final node
unfoldable pub mark_by : Bool → List ℕ → List ℕ → List ℕ → ℕ → ℕ → ℕ
mark_by head kind to1 to2 m last =
    elim (has m last) [ true ↦ 3 | false ↦ elim (has (closing head true kind to1 to2 m) last) [ true ↦ 2 | false ↦ 0 ] ]

-- the set has the nodes that a tail edge leaves
abbrev pub Tails : List ℕ → List ℕ → Type 0
Tails kind set = (u : ℕ) → u < length kind → get_or kind u 0 ≡ 3 → T (has (mask_of set) u)
