-- "The listing program": what it prints, byte for byte.
use Rattle.std.specs.Prelude.{◌≢◌, true, false, List, [], ◌∷◌, ◌++◌, map, ℕ, zero, suc, ◌+◌, ◌*◌, ◌/◌, ◌%◌, ltb, eqb, get_or, replicate}
use Rattle.std.proofs.Math.Seq.{slice}
use Rattle.rules.specs.Tools.{bytes_of, up_from, copies, flat}
use Rattle.rules.specs.Sizes.{listing_rows, words_a_row}
use Rattle.rules.specs.Table.{Table}
use Rattle.rules.specs.Answers.{Answer, refused, given}
use Rattle.rules.specs.Compile.{Room, drawn}

-- every line ends with byte 10
abbrev pub line_end : List ℕ
line_end = 10 ∷ []

-- a number in decimal, of at most f digits
abbrev pub digits_of : ℕ → ℕ → List ℕ
digits_of zero n = []
digits_of (suc f) n = elim (ltb n 10) [ true ↦ (48 + n) ∷ [] | false ↦ digits_of f (n / 10) ++ ((48 + n % 10) ∷ []) ]

unfoldable pub decimal : ℕ → List ℕ
decimal n = digits_of (suc n) n

-- the bytes lo to hi go to one row
pub record Run : Type 0 where
  pub lo : ℕ
  pub hi : ℕ
  pub to : ℕ

abbrev pub BeginsOther : ℕ → List ℕ → Type 0
BeginsOther q [] = Unit {0}
BeginsOther q (c ∷ cs) = c ≢ q

-- from the byte b on, the cells part into the longest runs of bytes with one target
pub data LongestRuns : ℕ → List ℕ → List Run → Type 0 where
  end : {b : ℕ} → LongestRuns b [] []
  run : {b q : ℕ} {cs : List ℕ} {rs : List Run} (n : ℕ) → LongestRuns (suc (b + n)) cs rs → BeginsOther q cs
      → LongestRuns b (copies (suc n) q ++ cs) (record { lo = b; hi = b + n; to = q } ∷ rs)

-- the same computed: a run that lasts from lo to hi so far, and the cells of the bytes after hi
abbrev pub runs_on : ℕ → ℕ → ℕ → List ℕ → List Run
runs_on lo hi q [] = record { lo = lo; hi = hi; to = q } ∷ []
runs_on lo hi q (c ∷ cs) = elim (eqb c q) [ true ↦ runs_on lo (suc hi) q cs | false ↦ record { lo = lo; hi = hi; to = q } ∷ runs_on (suc hi) (suc hi) c cs ]

abbrev pub runs : List ℕ → List Run
runs [] = []
runs (c ∷ cs) = runs_on 0 0 c cs

abbrev pub run_text : Run → List ℕ
run_text r = bytes_of " " ++ decimal r.lo ++ bytes_of "-" ++ decimal r.hi ++ bytes_of ">" ++ decimal r.to

-- a row's line: number, mark, then the runs
abbrev pub row_line : Table → ℕ → List ℕ
row_line w q =
    decimal q ++ bytes_of " " ++ decimal (get_or w.marks q 0) ++ flat (map run_text (runs (slice (256 * q) (256 * q + 256) w.cells))) ++ line_end

unfoldable pub listing : Answer Table → List ℕ
listing (refused r) = bytes_of "refused " ++ decimal r.number ++ bytes_of " at " ++ decimal r.place ++ line_end
listing (given w) = bytes_of "rows " ++ decimal w.count ++ bytes_of " head " ++ decimal w.head ++ line_end ++ flat (map (row_line w) (up_from 0 w.count))

-- ---- the program

-- the input less one final byte 10
abbrev pub without_line_end : List ℕ → List ℕ
without_line_end [] = []
without_line_end (b ∷ []) = elim (eqb b 10) [ true ↦ [] | false ↦ b ∷ [] ]
without_line_end (b ∷ c ∷ s) = b ∷ without_line_end (c ∷ s)

abbrev pub room_for : ℕ → Room
room_for n = record { cells = replicate (256 * n) 0; marks = replicate n 0; sets = replicate (words_a_row * n) 0 }

-- what it prints for what it reads
unfoldable pub printed : List ℕ → List ℕ
printed input = listing (drawn (without_line_end input) (room_for listing_rows))
