-- What a line stands for.
use Rattle.std.specs.Prelude.{◌≡◌, true, false, List, [], ◌∷◌, ℕ, ◌+◌, ◌*◌, ◌<◌, ◌≤◌, eqb, length, take, drop}
use Rattle.rules.specs.Tools.{if_some}
use Rattle.rules.specs.Sizes.{pattern_most}
use Rattle.rules.specs.Signs.{hex_digit}

-- a digit of base 16; another byte counts as 0
abbrev pub hex_value : ℕ → ℕ
hex_value c = if_some (hex_digit c) (λ x. x) 0

-- the pattern of a line: `%` and the two digits after it are one byte
unfoldable pub pattern_of : List ℕ → List ℕ
pattern_of [] = []
pattern_of (a ∷ []) = a ∷ []
pattern_of (a ∷ b ∷ []) = a ∷ b ∷ []
pattern_of (a ∷ b ∷ c ∷ s) = elim (eqb a 37) [ true ↦ (16 * hex_value b + hex_value c) ∷ pattern_of s | false ↦ a ∷ pattern_of (b ∷ c ∷ s) ]

-- the byte b of a pattern is written at `at` of a line, up to `next`
pub record Written (line : List ℕ) (at b next : ℕ) : Type 0 where
  pub is : pattern_of (drop at line) ≡ b ∷ pattern_of (drop next line)
  pub forward : at < next
  pub within : next ≤ length line

-- the n bytes at the start are the pattern of the line
pub record Unwritten (line pattern : List ℕ) (n : ℕ) : Type 0 where
  pub is : take n pattern ≡ pattern_of line
  pub fits : n ≤ length pattern

-- as much of a line as is kept
abbrev pub line_most : ℕ
line_most = 3 * pattern_most + 3

-- the first n bytes are those of a line that has not ended
pub record Begun (line : List ℕ) (n : ℕ) : Type 0 where
  pub room : length line ≡ line_most
  pub fits : n ≤ line_most
