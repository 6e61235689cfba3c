-- "Sums": the starred ones, and the numbers of nodes, as questions about a pattern and what the rules say.
use Rattle.std.specs.Prelude.{◌≡◌, Bool, true, false, List, [], ◌∷◌, ℕ, ◌<◌, length, get_or}
use Rattle.std.proofs.Math.Option.{Option, none, some}
use Prim.Native.String.{String}
use Rattle.rules.specs.Tools.{bytes_of}
use Rattle.rules.specs.Tree.{Tree}
use Rattle.rules.specs.Nodes.{node_count}
use Rattle.rules.specs.SetRows.{row_count}
use Rattle.rules.specs.Table.{Table, cell, same_table, longest, starts}
use Rattle.rules.specs.Compiled.{compiled}
use Rattle.rules.specs.Reader.{got, bad, read}

pub data Question : Type 0 where
  nodes : Question  -- how many nodes it has
  set_rows : Question  -- S
  shape : Question  -- R, the head row and the marks
  goes : ℕ → ℕ → Question  -- the row that a row goes to on a byte
  longest_in : String → ℕ → Question  -- the longest end in a text from a place: one number, or none
  starts_in : String → Question  -- all starts in a text
  table_of : String → Question  -- whether its table is that of another pattern: 1 for yes

abbrev pub list_of : Option ℕ → List ℕ
list_of none = []
list_of (some e) = e ∷ []

abbrev pub yes_no : Bool → List ℕ
yes_no true = 1 ∷ []
yes_no false = 0 ∷ []

abbrev pub answer : Tree → Question → List ℕ
answer X nodes = node_count X ∷ []
answer X set_rows = row_count X ∷ []
answer X shape = let w : Table = compiled X in w.count ∷ w.head ∷ w.marks
answer X (goes q b) = cell (compiled X) q b ∷ []
answer X (longest_in t s) = list_of (longest (compiled X) (bytes_of t) s)
answer X (starts_in t) = starts (compiled X) (bytes_of t)
answer X (table_of p) = elim (read (bytes_of p)) [ got Y ↦ yes_no (same_table (compiled X) (compiled Y)) | bad n s ↦ 0 ∷ [] ]

-- a pattern that is turned away answers nothing
abbrev pub answer_to : String → Question → List ℕ
answer_to p q = elim (read (bytes_of p)) [ got X ↦ answer X q | bad n s ↦ [] ]

pub record Sum : Type 0 where
  pub pattern : String
  pub question : Question
  pub says : List ℕ

abbrev pub sum : String → Question → List ℕ → Sum
sum p q n = record { pattern = p; question = q; says = n }

abbrev pub sums : List Sum
sums =
    sum "" set_rows (3 ∷ []) ∷ sum "" shape (2 ∷ 0 ∷ 3 ∷ 0 ∷ [])
    ∷ sum "a" set_rows (4 ∷ []) ∷ sum "a" shape (3 ∷ 0 ∷ 0 ∷ 0 ∷ 3 ∷ []) ∷ sum "a" (goes 0 97) (2 ∷ [])
    ∷ sum "a$" set_rows (4 ∷ []) ∷ sum "a$" shape (3 ∷ 0 ∷ 0 ∷ 0 ∷ 2 ∷ [])
    ∷ sum "^$" set_rows (3 ∷ []) ∷ sum "^$" shape (2 ∷ 1 ∷ 0 ∷ 2 ∷ [])
    ∷ sum "$^" set_rows (3 ∷ []) ∷ sum "$^" shape (2 ∷ 1 ∷ 0 ∷ 2 ∷ [])
    ∷ sum "^$" (table_of "$^") (1 ∷ [])
    ∷ sum "$a" shape (1 ∷ 0 ∷ 0 ∷ [])
    ∷ sum ".*" set_rows (3 ∷ []) ∷ sum ".*" shape (1 ∷ 0 ∷ 3 ∷ [])
    ∷ sum "a*" (longest_in "aab" 0) (2 ∷ []) ∷ sum "a*" (longest_in "aab" 2) (2 ∷ [])
    ∷ sum "a$" (starts_in "aa") (1 ∷ []) ∷ sum "^a" (starts_in "aa") (0 ∷ []) ∷ sum "$" (starts_in "") (0 ∷ [])
    ∷ sum "(a{255}){4}" nodes (2040 ∷ []) ∷ sum "(a{255}){4}a{4}" nodes (2048 ∷ []) ∷ sum "(a{255}){4}a{5}" nodes (2050 ∷ [])
    ∷ sum "(((a{255}){255}){255}){0}" nodes (2 ∷ [])
    ∷ []

abbrev pub entry : ℕ → Sum
entry k = get_or sums k (sum "" set_rows [])

-- the one claim: each entry says what the definitions answer
abbrev pub SumsHold : Type 0
SumsHold = (k : ℕ) → k < length sums → answer_to (entry k).pattern (entry k).question ≡ (entry k).says
