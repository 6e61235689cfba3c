-- "The numbered table": the numbering, and the smallest table of a pattern, its drawing.
use Rattle.std.specs.Prelude.{◌≡◌, ◌↔◌, Bool, List, [], ◌∷◌, ℕ, zero, suc, ◌+◌, ◌*◌, ◌≤◌, ◌<◌, max, T, length, get_or}
use Rattle.rules.specs.Tree.{Tree}
use Rattle.rules.specs.Meaning.{Match}
use Rattle.rules.specs.Table.{Table, cell, after, fits, takes, Formed}

-- a text is a string of bytes
abbrev pub Bytes : List ℕ → Type 0
Bytes [] = Unit {0}
Bytes (b ∷ bs) = (b < 256) × Bytes bs

-- P holds of each stretch of each text
abbrev pub OnStretches : (List ℕ → ℕ → ℕ → Type 0) → Type 0
OnStretches P = (t : List ℕ) → Bytes t → (s e : ℕ) → s ≤ e → e ≤ length t → P t s e

-- the table takes just the stretches that the tree matches
abbrev pub Right : Table → Tree → Type 0
Right w X = OnStretches (λ t s e. T (takes w t s e) ↔ Match t X s e)

-- the tables take the same stretches; the trees match the same stretches
abbrev pub Alike : Table → Table → Type 0
Alike w v = OnStretches (λ t s e. T (takes w t s e) ↔ T (takes v t s e))

abbrev pub SameMatches : Tree → Tree → Type 0
SameMatches X Y = OnStretches (λ t s e. Match t X s e ↔ Match t Y s e)

-- no table that takes the same stretches has fewer rows
abbrev pub Smallest : Table → Type 0
Smallest w = (v : Table) → Formed v → Alike v w → w.count ≤ v.count

-- no further bytes and end position tell row p of w and row q of v apart
abbrev pub SameRows : Table → ℕ → Table → ℕ → Type 0
SameRows w p v q = (z : List ℕ) → Bytes z → (at_end : Bool) → fits (get_or w.marks (after w p z) 0) at_end ≡ fits (get_or v.marks (after v q z) 0) at_end

-- rows that nothing tells apart are one row
abbrev pub Merged : Table → Type 0
Merged w = (p q : ℕ) → p < w.count → q < w.count → SameRows w p w q → p ≡ q

-- The numbering. The rows listed so far are those below a number. That is first the inside row, 0, and the head row if it
-- is another, so 1 + head. Then the cells are gone through in order, and a cell's row is appended if it is not yet listed.
abbrev pub listed_by : Table → ℕ → ℕ
listed_by w zero = suc w.head
listed_by w (suc i) = max (listed_by w i) (suc (get_or w.cells i 0))

-- What is appended is always the next number, and a row is listed before its own cells are gone through.
pub record Numbered (w : Table) : Type 0 where
  pub head-next : w.head ≤ 1
  pub cell-next : (q b : ℕ) → q < w.count → b < 256 → cell w q b ≤ listed_by w (256 * q + b)
  pub row_listed : (q : ℕ) → q < w.count → q < listed_by w (256 * q)

-- it has its own marks and cells, and nothing past them
pub record Exact (w : Table) : Type 0 where
  pub marks-exact : length w.marks ≡ w.count
  pub cells-exact : length w.cells ≡ 256 * w.count

-- w is the drawing of X: what is asked of a compiled table
pub record Drawing (X : Tree) (w : Table) : Type 0 where
  pub right : Right w X
  pub formed : Formed w
  pub exact : Exact w
  pub smallest : Smallest w
  pub numbered : Numbered w
