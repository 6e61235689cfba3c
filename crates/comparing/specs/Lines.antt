-- An input of two patterns, one a line. Whether a line is too long for a pattern is judged ahead of what comes after it, so that the
-- beginning of an input decides.
use Rattle.std.specs.Prelude.{◌≡◌, ◌≢◌, ◌⊎◌, true, false, List, [], ◌∷◌, ◌++◌, ℕ, suc, ◌≤◌, ◌<◌, leb, ltb, eqb, length, take, drop}
use Rattle.rules.specs.Tools.{place}
use Rattle.rules.specs.Sizes.{pattern_most}
use Rattle.rules.specs.Listing.{line_end}

-- ---- what is asked

-- no byte of p ends a line
abbrev pub Unbroken : List ℕ → Type 0
Unbroken [] = Unit {0}
Unbroken (b ∷ p) = (b ≢ 10) × Unbroken p

-- what comes after a line: nothing, or its line end and whatever follows
abbrev pub Ended : List ℕ → Type 0
Ended [] = Unit {0}
Ended (b ∷ more) = b ≡ 10

-- p is the first line of s, and the rest is what comes after it
pub record Line (s p rest : List ℕ) : Type 0 where
  pub is : s ≡ p ++ rest
  pub unbroken : Unbroken p
  pub ended : Ended rest

-- the first line is too long for a pattern, whatever comes after it
pub record LongLine (input : List ℕ) : Type 0 where
  pub line : List ℕ
  pub rest : List ℕ
  pub first : Line input line rest
  pub long : pattern_most < length line

-- The first line is p, the second q, and nothing comes after them but one line end; after a second line that is too long for a
-- pattern anything may come.
pub record TwoLines (input p q : List ℕ) : Type 0 where
  pub after : List ℕ
  pub rest : List ℕ
  pub first : Line input p (10 ∷ after)
  pub short : length p ≤ pattern_most
  pub second : Line after q rest
  pub over : length q ≤ pattern_most → (rest ≡ []) ⊎ (rest ≡ line_end)

-- the input is p, a line end and q, with or without a line end after it, and nothing else
pub record JustLines (input p q : List ℕ) : Type 0 where
  pub first : Unbroken p
  pub second : Unbroken q
  pub is : (input ≡ p ++ (10 ∷ q)) ⊎ (input ≡ p ++ (10 ∷ (q ++ line_end)))

-- ---- computed

-- the place of the first line end; the length where there is none
abbrev pub line_end_in : List ℕ → ℕ
line_end_in s = place (λ b. eqb b 10) s

abbrev pub line_of : List ℕ → List ℕ
line_of s = take (line_end_in s) s

pub data Lines : Type 0 where
  long : Lines
  two : List ℕ → List ℕ → Lines
  other : Lines

-- the first line is p, and s comes after its line end
unfoldable pub second_of : List ℕ → List ℕ → Lines
second_of p s =
    elim (ltb pattern_most (line_end_in s)) [
      | true ↦ two p (line_of s)
      | false ↦ elim (leb (length s) (suc (line_end_in s))) [ true ↦ two p (line_of s) | false ↦ other ]
    ]

unfoldable pub lines_of : List ℕ → Lines
lines_of input =
    elim (ltb pattern_most (line_end_in input)) [
      | true ↦ long
      | false ↦
          elim (ltb (line_end_in input) (length input)) [ true ↦ second_of (line_of input) (drop (suc (line_end_in input)) input) | false ↦ other ]
    ]
