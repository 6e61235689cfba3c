-- What building a tree's nodes answers.
use Rattle.std.specs.Prelude.{◌≡◌, List, ℕ, ◌<◌, get_or, Option, Some, None}
use Rattle.rules.specs.Sizes.{nodes_most}
use Rattle.rules.specs.Tree.{Tree}
use Rattle.rules.specs.Nodes.{node_count}
use Rattle.rules.specs.SetRows.{machine}
use Rattle.program.specs.Program.{atom_bytes, AtomAt}
use Rattle.spine.specs.Parts.{Part}
use Rattle.entries.specs.Nodes.{HoldNodes}
use Rattle.entries.specs.Entries.{kinds_of, firsts_of, seconds_of, atoms_of, Room}
use Rattle.entries.specs.declared.Entry.{Entry}

-- the entries hold the n nodes of X; each byte edge names an atom of the program p, whose bytes it is crossed on
pub record HoldTree (p : List ℕ) (X : Tree) (l : List Entry) (n : ℕ) : Type 0 where
  pub room : Room l
  pub nodes : HoldNodes (machine X) (kinds_of l) (firsts_of l) (seconds_of l) (λ u. atom_bytes p (get_or (atoms_of l) u 0)) n
  pub atoms : (u : ℕ) → u < n → get_or (kinds_of l) u 0 ≡ 4 → AtomAt p (get_or (atoms_of l) u 0)

-- none exactly where there are too many nodes
abbrev pub BuiltOf : List ℕ → Tree → List Entry → Option ℕ → Type 0
BuiltOf p X l (Some n) = HoldTree p X l n
BuiltOf p X l None = nodes_most < node_count X

-- so for the tree whose program ends at e
abbrev pub BuildsTree : List ℕ → ℕ → List Entry → Option ℕ → Type 0
BuildsTree p e l r = (h : Part p e) → BuiltOf p h.tree l r
