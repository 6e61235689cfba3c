-- What listing a tree's set rows is given, answers and leaves.
use Rattle.std.specs.Prelude.{◌≡◌, List, ℕ, ◌+◌, ◌*◌, ◌≤◌, ◌<◌, length, get_or, Option, Some, None}
use Rattle.rules.specs.Tree.{Tree}
use Rattle.rules.specs.SetRows.{Machine, machine, row_at, set_rows, row_count, mark_of}
use Rattle.rules.specs.Compile.{Room, rows_for}
use Rattle.program.specs.Program.{atom_bytes}
use Rattle.entries.specs.Nodes.{HoldNodes}
use Rattle.entries.specs.Entries.{kinds_of, firsts_of, seconds_of, atoms_of}
use Rattle.entries.specs.declared.Entry.{Entry}
use Rattle.runs.specs.Runs.{Atoms}
use Rattle.cells.specs.Cells.{place_of}

-- the lists have an entry for each node of X, and no more
pub record NodesOf (program : List ℕ) (X : Tree) (kind to1 to2 atom : List ℕ) : Type 0 where
  pub firsts : length to1 ≡ length kind
  pub seconds : length to2 ≡ length kind
  pub atoms : Atoms program kind atom
  pub hold : HoldNodes (machine X) kind to1 to2 (λ u. atom_bytes program (get_or atom u 0)) (length kind)

-- they are the nodes of some tree
abbrev pub SomeNodes : List ℕ → List ℕ → List ℕ → List ℕ → List ℕ → Type 0
SomeNodes program kind to1 to2 atom = (X : Tree) × NodesOf program X kind to1 to2 atom

abbrev pub room : List ℕ → List ℕ → List ℕ → Room
room cells marks sets = record { cells = cells; marks = marks; sets = sets }

-- the lent room is as long as it was
pub record SameRoom (old new : Room) : Type 0 where
  pub cells : length new.cells ≡ length old.cells
  pub marks : length new.marks ≡ length old.marks
  pub sets : length new.sets ≡ length old.sets

-- cells and marks of the n set rows stand at the front of the room
pub record RowsIn (w : Machine) (old new : Room) (n : ℕ) : Type 0 where
  pub all : n ≡ length (set_rows w)
  pub fits : n ≤ rows_for old
  pub cells : (q b : ℕ) → q < n → b < 256 → get_or new.cells (256 * q + b) 0 ≡ place_of w q b
  pub marks : (q : ℕ) → q < n → get_or new.marks q 0 ≡ mark_of w (row_at (set_rows w) q)

-- 11 exactly where S is greater than K
abbrev pub ListedOf : Tree → Room → Room → Option ℕ → Type 0
ListedOf X old new (Some n) = RowsIn (machine X) old new n
ListedOf X old new None = rows_for old < row_count X

-- so for the tree whose nodes are given
pub record Lists (program kind to1 to2 atom : List ℕ) (old new : Room) (r : Option ℕ) : Type 0 where
  pub room : SameRoom old new
  pub rows : (X : Tree) → NodesOf program X kind to1 to2 atom → ListedOf X old new r

-- ---- of the entries

abbrev pub SomeEntries : List ℕ → List Entry → Type 0
SomeEntries program l = SomeNodes program (kinds_of l) (firsts_of l) (seconds_of l) (atoms_of l)

abbrev pub ListsOf : List ℕ → List Entry → Room → Room → Option ℕ → Type 0
ListsOf program l = Lists program (kinds_of l) (firsts_of l) (seconds_of l) (atoms_of l)
