-- "Are these two the same?": what is said of an input of two patterns, each compiled in room for 1,024 rows.
use Rattle.std.specs.Prelude.{List, ◌++◌, ℕ}
use Rattle.rules.specs.Sizes.{pattern_most, rows_most}
use Rattle.rules.specs.Answers.{Refusal, refusal, FirstDue}
use Rattle.rules.specs.Compile.{Room, CompileRefusals, drawn}
use Rattle.rules.specs.Listing.{room_for}
use Rattle.rules.specs.Demands.{SamePatterns}
use Rattle.findings.specs.Said.{refused_line, same_text, different_text, expected_text, said_of_answers}
use Rattle.comparing.specs.Lines.{LongLine, TwoLines, JustLines, Lines, long, two, other, lines_of}

-- ---- what is asked

-- room for as many rows as a table may have
abbrev pub full_room : Room
full_room = room_for rows_most

-- p is refused with r
abbrev pub RefusedWith : List ℕ → Refusal → Type 0
RefusedWith p r = FirstDue (CompileRefusals p full_room) r

-- p compiles: no refusal is due
abbrev pub Accepted : List ℕ → Type 0
Accepted p = (r : Refusal) → RefusedWith p r → ⊥

-- what is said of the patterns p and q
pub data Verdict (p q : List ℕ) : List ℕ → Type 0 where
  same : Accepted p → Accepted q → SamePatterns p q → Verdict p q same_text
  different : Accepted p → Accepted q → (SamePatterns p q → ⊥) → Verdict p q different_text
  first-refused : {r : Refusal} → RefusedWith p r → Accepted q → Verdict p q (refused_line "first " r)
  second-refused : {s : Refusal} → Accepted p → RefusedWith q s → Verdict p q (refused_line "second " s)
  both-refused : {r s : Refusal} → RefusedWith p r → RefusedWith q s → Verdict p q (refused_line "first " r ++ refused_line "second " s)

-- the input is just two lines, both compile, and R holds of them
abbrev pub OfTwo : (List ℕ → List ℕ → Type 0) → List ℕ → Type 0
OfTwo R input = (p : List ℕ) × (q : List ℕ) × JustLines input p q × Accepted p × Accepted q × R p q

-- what is said of an input
pub data Says (input : List ℕ) : List ℕ → Type 0 where
  long-line : LongLine input → Says input (refused_line "first " (refusal 1 pattern_most))
  two-lines : {p q text : List ℕ} → TwoLines input p q → Verdict p q text → Says input text
  neither : (LongLine input → ⊥) → ((p q : List ℕ) → TwoLines input p q → ⊥) → Says input expected_text

-- ---- computed

abbrev pub said_of_patterns : List ℕ → List ℕ → List ℕ
said_of_patterns p q = said_of_answers (drawn p full_room) (drawn q full_room)

-- what is said of the lines of an input
abbrev pub said_of_lines : Lines → List ℕ
said_of_lines long = refused_line "first " (refusal 1 pattern_most)
said_of_lines (two p q) = said_of_patterns p q
said_of_lines other = expected_text

unfoldable pub comparison : List ℕ → List ℕ
comparison input = said_of_lines (lines_of input)
