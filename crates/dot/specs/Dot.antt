-- A table as a graph for Graphviz, in its language dot.
use Rattle.std.specs.Prelude.{Bool, true, false, not, ◌&&◌, ◌||◌, List, [], ◌∷◌, ◌++◌, map, ℕ, ◌+◌, ◌*◌, ◌/◌, ◌%◌, ltb, eqb, get_or}
use Prim.Native.String.{String}
use Rattle.std.proofs.Math.Seq.{slice}
use Rattle.rules.specs.Tools.{bytes_of, up_from, all, flat}
use Rattle.rules.specs.Table.{Table, fits}
use Rattle.rules.specs.Answers.{Answer}
use Rattle.rules.specs.Listing.{line_end, decimal, Run, runs}
use Rattle.writing.specs.Texts.{if_formed}

-- a row that no reading leaves and in which no match ends, unless reading begins there
unfoldable pub is_trap : Table → ℕ → Bool
is_trap w q = not (eqb q 0) && (not (eqb q w.head) && (not (fits (get_or w.marks q 0) true) && all (λ c. eqb c q) (slice (256 * q) (256 * q + 256) w.cells)))

abbrev pub line : String → List ℕ
line s = bytes_of s ++ line_end

abbrev pub three_digits : ℕ → List ℕ
three_digits b = (48 + b / 100) ∷ (48 + b / 10 % 10) ∷ (48 + b % 10) ∷ []

-- a byte inside quotes: itself where it is printable, behind a backslash where it is a quote or a backslash;
-- any other by three digits, so that it is not taken for one that is printed as itself
unfoldable pub byte_text : ℕ → List ℕ
byte_text b =
    elim (ltb b 33 || ltb 126 b) [
      | true ↦ three_digits b
      | false ↦
          elim (eqb b 34 || eqb b 92) [ true ↦ 92 ∷ b ∷ [] | false ↦ b ∷ [] ]
    ]

unfoldable pub bytes_text : ℕ → ℕ → List ℕ
bytes_text lo hi = elim (eqb lo hi) [ true ↦ byte_text lo | false ↦ byte_text lo ++ bytes_of "-" ++ byte_text hi ]

abbrev pub arrow : ℕ → Run → List ℕ
arrow q r = decimal q ++ bytes_of " -> " ++ decimal r.to ++ bytes_of " [label=\"" ++ bytes_text r.lo r.hi ++ line "\"];"

-- none leads to a trap
unfoldable pub arrow_unless_trap : Table → ℕ → Run → List ℕ
arrow_unless_trap w q r = elim (is_trap w r.to) [ true ↦ [] | false ↦ arrow q r ]

-- a double circle where a match ends, a circle with `$` where one ends at the text's end only
unfoldable pub shape : ℕ → ℕ → List ℕ
shape q mark =
    elim (fits mark false) [
      | true ↦ line " [shape=doublecircle];"
      | false ↦
          elim (fits mark true) [ true ↦ bytes_of " [label=\"" ++ decimal q ++ line " $\"];" | false ↦ line ";" ]
    ]

-- a row with its arrows; nothing of a trap
unfoldable pub row_dot : Table → ℕ → List ℕ
row_dot w q =
    elim (is_trap w q) [
      | true ↦ []
      | false ↦ decimal q ++ shape q (get_or w.marks q 0) ++ flat (map (arrow_unless_trap w q) (runs (slice (256 * q) (256 * q + 256) w.cells)))
    ]

-- two arrows from points show where reading begins inside a text, and where it begins at position 0
unfoldable pub dot : Table → List ℕ
dot w =
    line "digraph table {" ++ line "rankdir=LR;" ++ line "node [shape=circle];" ++ line "inside [shape=point];" ++ line "head [shape=point];"
    ++ line "inside -> 0 [label=\"inside\"];" ++ bytes_of "head -> " ++ decimal w.head ++ line " [label=\"head\"];"
    ++ flat (map (row_dot w) (up_from 0 w.count)) ++ line "}"

-- of what is lent
abbrev pub dot_of : Table → Answer (List ℕ)
dot_of w = if_formed w (dot w)
