-- The nodes that a byte is taken from.
use Rattle.std.specs.Prelude.{◌≡◌, ◌↔◌, ℕ, T}
use mathlib.Core.List.{Memᴰ}
use Rattle.rules.specs.Tools.{has}
use Rattle.rules.specs.Nodes.{Edge}
use Rattle.rules.specs.SetRows.{on_byte, SetRow, Machine}

-- an edge that is crossed on byte b leaves the node
abbrev pub Leaves : Machine → ℕ → ℕ → Type 0
Leaves w b u = (x : Edge) × Memᴰ x w.links × T (on_byte b x.on) × (x.from ≡ u)

-- M holds the nodes that such an edge leaves
pub record Leaving (w : Machine) (b M : ℕ) : Type 0 where
  pub just : (u : ℕ) → T (has M u) ↔ Leaves w b u

-- A holds those of them that are in the row
pub record Taken (w : Machine) (r : SetRow) (b A : ℕ) : Type 0 where
  pub just : (u : ℕ) → T (has A u) ↔ (T (has r.nodes u) × Leaves w b u)
