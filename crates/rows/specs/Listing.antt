-- Listing the set rows of a tree.
use Rattle.std.specs.Prelude.{◌≡◌, List, ℕ, ◌+◌, ◌*◌, ◌-◌, ◌≤◌, ◌<◌, length, get_or, Option, Some, None}
use Rattle.rules.specs.Sizes.{words_a_row}
use Rattle.rules.specs.Tree.{Tree}
use Rattle.rules.specs.SetRows.{machine, row_at, set_rows, row_count, mark_of}
use Rattle.rules.specs.Compile.{Room}
use Rattle.entries.specs.Nodes.{HoldNodes}
use Rattle.closing.specs.Closing.{Nodes}
use Rattle.known.specs.Known.{Book}
use Rattle.runs.specs.Runs.{Starts}
use Rattle.cells.specs.Cells.{place_of, Masked, MasksUnder, RowsUnder, Going, taken_at}
use Rattle.rows.specs.Rows.{ListedOf}
use Rattle.cells.specs.declared.Runs.{Runs}
use Rattle.known.specs.declared.Known.{Known}
use Rattle.entries.specs.Entries.{kinds_of, firsts_of, seconds_of}
use Rattle.entries.specs.declared.Entry.{Entry}

-- what stays as it is while rows are listed: the nodes, and the runs with their masks, in words that are wide enough
pub record Given (kind to1 to2 starts masks : List ℕ) (runs words : ℕ) : Type 0 where
  pub nodes : Nodes kind to1 to2
  pub some : 0 < length kind
  pub wide : length kind ≤ 64 * words
  pub short : words ≤ words_a_row
  pub parted : Starts starts runs
  pub long : words_a_row * runs ≤ length masks
  pub under : MasksUnder (length kind - 1) words masks runs

-- the nodes are those of X, and the masks those of its runs
pub record TreeOf (kind to1 to2 starts masks : List ℕ) (runs words : ℕ) (X : Tree) : Type 0 where
  pub bytes : ℕ → ℕ
  pub hold : HoldNodes (machine X) kind to1 to2 bytes (length kind)
  pub masked : Masked (machine X) words starts masks runs

-- there is room for so many rows
pub record RoomFor (room : ℕ) (cells marks : List ℕ) : Type 0 where
  pub cells-long : 256 * room ≤ length cells
  pub marks-long : room ≤ length marks

-- c rows of the tree are listed, of which the ones before row q have their cells and marks
pub record ListedTo (kind to1 to2 starts masks : List ℕ) (runs words room : ℕ) (cells marks sets heads nexts : List ℕ) (c q : ℕ) : Type 0 where
  pub book : Book words room sets heads nexts c
  pub under : RowsUnder (length kind - 1) words sets c
  pub going : (X : Tree) → TreeOf kind to1 to2 starts masks runs words X → Going (machine X) (taken_at words sets) c q 0
  pub leads : (X : Tree) → TreeOf kind to1 to2 starts masks runs words X → (p b : ℕ) → p < q → b < 256 → get_or cells (256 * p + b) 0 ≡ place_of (machine X) p b
  pub marked : (X : Tree) → TreeOf kind to1 to2 starts masks runs words X → (p : ℕ) → p < q → get_or marks p 0 ≡ mark_of (machine X) (row_at (set_rows (machine X)) p)

-- ---- of the entries, the runs and what is known

abbrev pub GivenBy : List Entry → Runs → ℕ → Type 0
GivenBy l r words = Given (kinds_of l) (firsts_of l) (seconds_of l) r.starts.now r.masks.now r.count words

abbrev pub TreeBy : List Entry → Runs → ℕ → Tree → Type 0
TreeBy l r words = TreeOf (kinds_of l) (firsts_of l) (seconds_of l) r.starts.now r.masks.now r.count words

abbrev pub ListedBy : List Entry → Runs → ℕ → List ℕ → List ℕ → List ℕ → Known → ℕ → Type 0
ListedBy l r words cells marks sets k q =
    ListedTo (kinds_of l) (firsts_of l) (seconds_of l) r.starts.now r.masks.now r.count words k.room cells marks sets k.heads k.nexts k.rows q

-- as many rows may be as before; row q has its cells and its mark, and the rows it leads to are listed; or there is no room for all
-- rows of the tree
abbrev pub RowListed : List Entry → Runs → ℕ → List ℕ → List ℕ → List ℕ → Known → Known → ℕ → Option (Unit {0}) → Type 0
RowListed l r words cells marks sets old k q (Some u) = (k.room ≡ old.room) × ListedBy l r words cells marks sets k (q + 1)
RowListed l r words cells marks sets old k q None = (k.room ≡ old.room) × ((X : Tree) → TreeBy l r words X → old.room < row_count X)

abbrev pub AllListed : List Entry → Runs → ℕ → Room → Room → Option ℕ → Type 0
AllListed l r words old new n = (X : Tree) → TreeBy l r words X → ListedOf X old new n
