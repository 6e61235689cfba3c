-- Compiling: what it answers, and what it leaves in the lent cells, marks and set words.
use Rattle.std.specs.Prelude.{◌≡◌, true, false, List, [], ◌∷◌, ◌++◌, ℕ, ◌-◌, ◌/◌, ◌<◌, min, ltb, length, replicate}
use Rattle.rules.specs.Sizes.{pattern_most, nodes_most, rows_most, words_a_row}
use Rattle.rules.specs.Tree.{Tree}
use Rattle.rules.specs.Grammar.{Legal}
use Rattle.rules.specs.Turned.{Turned}
use Rattle.rules.specs.Nodes.{node_count}
use Rattle.rules.specs.SetRows.{row_count}
use Rattle.rules.specs.Table.{Table}
use Rattle.rules.specs.Drawing.{Drawing}
use Rattle.rules.specs.Compiled.{compiled}
use Rattle.rules.specs.Reader.{got, bad, read}
use Rattle.rules.specs.Answers.{Refusal, refusal, Answer, refused, given, Due}

-- what stands in the lent room
pub record Room : Type 0 where
  pub cells : List ℕ
  pub marks : List ℕ
  pub sets : List ℕ

-- K
unfoldable pub rows_for : Room → ℕ
rows_for l = min rows_most (min (length l.cells / 256) (min (length l.marks) (length l.sets / words_a_row)))

-- xs, and zeros up to the length of the old list
abbrev pub over : List ℕ → List ℕ → List ℕ
over xs old = xs ++ replicate (length old - length xs) 0

-- what compiling hands back, R and the head row or a refusal, and what then stands in the room
pub record Outcome : Type 0 where
  pub answer : Answer (ℕ × ℕ)
  pub room : Room

-- a refusal sets all of the room to 0; a table sets what is past it to 0, and all set words
unfoldable pub leaves : Room → Answer Table → Outcome
leaves l (refused r) = record { answer = refused r; room = record { cells = over [] l.cells; marks = over [] l.marks; sets = over [] l.sets } }
leaves l (given w) = record {
  answer = given (w.count, w.head);
  room = record { cells = over w.cells l.cells; marks = over w.marks l.marks; sets = over [] l.sets };
}

-- ---- what is asked of it

-- 1
abbrev pub TooLong : List ℕ → Refusal → Type 0
TooLong p r = (pattern_most < length p) × (r ≡ refusal 1 pattern_most)

-- 2 to 9
abbrev pub TurnedAway : List ℕ → Refusal → Type 0
TurnedAway p r = (n : ℕ) × (i : ℕ) × Turned p n i × (r ≡ refusal n i)

-- 10
abbrev pub ManyNodes : List ℕ → Refusal → Type 0
ManyNodes p r = (X : Tree) × Legal p X × (nodes_most < node_count X) × (r ≡ refusal 10 0)

-- 11: S greater than K
abbrev pub ManyRows : List ℕ → Room → Refusal → Type 0
ManyRows p l r = (X : Tree) × Legal p X × (rows_for l < row_count X) × (r ≡ refusal 11 0)

abbrev pub CompileRefusals : List ℕ → Room → List (Refusal → Type 0)
CompileRefusals p l = TooLong p ∷ TurnedAway p ∷ ManyNodes p ∷ ManyRows p l ∷ []

-- else the drawing of the tree that p spells
abbrev pub DrawingOf : List ℕ → Table → Type 0
DrawingOf p w = (X : Tree) × Legal p X × Drawing X w

abbrev pub Draws : List ℕ → Room → Answer Table → Type 0
Draws p l = Due (CompileRefusals p l) (DrawingOf p)

pub record Compiles (p : List ℕ) (l : Room) (o : Outcome) : Type 0 where
  pub table : Answer Table
  pub draws : Draws p l table
  pub result : o ≡ leaves l table

-- ---- computed

unfoldable pub limited : Room → Tree → Answer Table
limited l X =
    elim (ltb nodes_most (node_count X)) [
      | true ↦ refused (refusal 10 0)
      | false ↦
          elim (ltb (rows_for l) (row_count X)) [ true ↦ refused (refusal 11 0) | false ↦ given (compiled X) ]
    ]

unfoldable pub drawn : List ℕ → Room → Answer Table
drawn p l =
    elim (ltb pattern_most (length p)) [
      | true ↦ refused (refusal 1 pattern_most)
      | false ↦
          elim (read p) [ bad n s ↦ refused (refusal n (length p - length s)) | got X ↦ limited l X ]
    ]

unfoldable pub compile : List ℕ → Room → Outcome
compile p l = leaves l (drawn p l)
