-- The nodes and the cells of a row, and what is listed meanwhile.
use Rattle.std.specs.Prelude.{◌≡◌, ◌⊎◌, true, false, List, ◌++◌, ℕ, ◌*◌, ◌-◌, ◌≤◌, ◌<◌, T, eqb, ltb, length, get_or, take, drop, replicate, Option, Some, None}
use Rattle.rules.specs.Tools.{has, place}
use Rattle.rules.specs.Tree.{Tree}
use Rattle.rules.specs.SetRows.{Machine, machine, same_row, next, row_at, set_rows, row_count}
use Rattle.nodesets.specs.NodeSets.{mask_of, row_words, Within}
use Rattle.closing.specs.Closing.{closing}
use Rattle.cells.specs.Taken.{Leaving, Taken}
use Rattle.known.specs.Known.{Book, RowOf}
use Rattle.known.specs.declared.Known.{Known}
use Rattle.runs.specs.Runs.{InRun}

-- the place in the list of the row to which row p goes on byte b
abbrev pub place_of : Machine → ℕ → ℕ → ℕ
place_of w p b = place (same_row (next w (row_at (set_rows w) p) b)) (set_rows w)

-- row i of the list is where some row goes on some byte, and A is what is taken there
pub record Reached (w : Machine) (i A : ℕ) : Type 0 where
  pub from : ℕ
  pub on : ℕ
  pub is : row_at (set_rows w) i ≡ next w (row_at (set_rows w) from) on
  pub taken : Taken w (row_at (set_rows w) from) on A

-- c rows are listed, of which the ones from row 2 on are those of the sets taken; where the rows before q go is listed, and where
-- row q goes on the bytes before b
pub record Going (w : Machine) (taken : ℕ → ℕ) (c q b : ℕ) : Type 0 where
  pub two : 2 ≤ c
  pub within : c ≤ length (set_rows w)
  pub reached : (i : ℕ) → 2 ≤ i → i < c → Reached w i (taken i)
  pub leads : (p a : ℕ) → a < 256 → (p < q) ⊎ ((p ≡ q) × (a < b)) → place_of w p a < c

-- the set in row i of the set words
abbrev pub taken_at : ℕ → List ℕ → ℕ → ℕ
taken_at words sets i = mask_of (row_words words sets i)

-- ---- runs of bytes

-- mask k has the nodes from which an edge is crossed on the bytes of run k
abbrev pub Masked : Machine → ℕ → List ℕ → List ℕ → ℕ → Type 0
Masked w words starts masks runs = (k b : ℕ) → k < runs → InRun starts k b → Leaving w b (mask_of (row_words words masks k))

-- ---- a row

-- what row q is closed from: the start node, or the nodes after those from which an edge was taken
abbrev pub seeds_of : (ℕ → ℕ) → ℕ → ℕ
seeds_of taken q = elim (ltb q 2) [ true ↦ 1 | false ↦ taken q * 2 ]

-- its nodes: for row 1, the head row, head edges are crossed too
unfoldable pub nodes_of : List ℕ → List ℕ → List ℕ → (ℕ → ℕ) → ℕ → ℕ
nodes_of kind to1 to2 taken q = closing (eqb q 1) false kind to1 to2 (seeds_of taken q)

-- ---- rows filled

-- what was taken before, in w words of which those from `from` to `to` are in use: row r, of the c rows, has it, or r is 0
pub record TakenBefore (from to w : ℕ) (sets : List ℕ) (c : ℕ) (taken : List ℕ) (r : ℕ) : Type 0 where
  pub long : length taken ≡ w
  pub within : Within from to taken
  pub row : RowOf w sets c taken r

-- the cells from a on and before e become r
abbrev pub put_run : List ℕ → ℕ → ℕ → ℕ → List ℕ
put_run row a e r = take a row ++ (replicate (e - a) r ++ drop (e - a) (drop a row))

-- the sets of the masks, and of the rows from row 2 on, have nodes below `top` only
abbrev pub MasksUnder : ℕ → ℕ → List ℕ → ℕ → Type 0
MasksUnder top words masks runs = (k v : ℕ) → k < runs → T (has (mask_of (row_words words masks k)) v) → v < top

abbrev pub RowsUnder : ℕ → ℕ → List ℕ → ℕ → Type 0
RowsUnder top words sets c = (i v : ℕ) → 2 ≤ i → i < c → T (has (taken_at words sets i) v) → v < top

-- `set` holds the nodes of row q of the tree's rows, of which c are listed, and the masks are those of its runs
pub record AtRow (X : Tree) (words : ℕ) (set starts masks : List ℕ) (runs : ℕ) (sets : List ℕ) (c q : ℕ) : Type 0 where
  pub low : q < c
  pub nodes : (row_at (set_rows (machine X)) q).nodes ≡ mask_of set
  pub masked : Masked (machine X) words starts masks runs
  pub going : Going (machine X) (taken_at words sets) c q 0

-- the cells of row q on the bytes before b, and the rows that are then listed
pub record FilledTo (room : ℕ) (set starts masks : List ℕ) (runs : ℕ) (sets : List ℕ) (c : ℕ) (new heads nexts row : List ℕ) (d b : ℕ) : Type 0 where
  pub book : Book (length set) room new heads nexts d
  pub long : length new ≡ length sets
  pub more : c ≤ d
  pub under : (top : ℕ) → MasksUnder top (length set) masks runs → RowsUnder top (length set) sets c → RowsUnder top (length set) new d
  pub goes : (X : Tree) (q : ℕ) → AtRow X (length set) set starts masks runs sets c q → Going (machine X) (taken_at (length set) new) d q b
  pub cells : (X : Tree) (q : ℕ) → AtRow X (length set) set starts masks runs sets c q → (a : ℕ) → a < b → get_or row a 0 ≡ place_of (machine X) q a

-- as many rows may be as before, and row q has its cells; or there is no room for all rows of the tree
abbrev pub FilledAs : List ℕ → List ℕ → List ℕ → ℕ → List ℕ → Known → List ℕ → Known → List ℕ → Option (Unit {0}) → Type 0
FilledAs set starts masks runs sets old new k row (Some u) =
    (k.room ≡ old.room) × FilledTo old.room set starts masks runs sets old.rows new k.heads k.nexts row k.rows 256
FilledAs set starts masks runs sets old new k row None =
    (k.room ≡ old.room) × ((X : Tree) (q : ℕ) → AtRow X (length set) set starts masks runs sets old.rows q → old.room < row_count X)
