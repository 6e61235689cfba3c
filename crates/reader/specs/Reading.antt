-- What reading a pattern answers.
use Rattle.std.specs.Prelude.{◌≡◌, Bool, true, false, List, ℕ, ◌+◌, ◌*◌, ◌-◌, ◌≤◌, ltb, length, Result, Ok, Err}
use Rattle.rules.specs.Sizes.{pattern_most}
use Rattle.rules.specs.Tree.{Tree}
use Rattle.rules.specs.Reader as rules
use Rattle.rules.specs.Reader.{got, bad, read}
use Rattle.rules.specs.Answers.{refusal, Answer, refused, given}
use Rattle.kinds.specs.declared.Refusal.{Refusal}
use Rattle.kinds.specs.Refusals.{refusal_of}
use Rattle.program.specs.Program.{program_most, Program}

abbrev pub of_reading : List ℕ → rules.Reading → Answer Tree
of_reading p (got X) = given X
of_reading p (bad n s) = refused (refusal n (length p - length s))

abbrev pub unless_long : Bool → Answer Tree → Answer Tree
unless_long true a = refused (refusal 1 pattern_most)
unless_long false a = a

-- 1 first; then 2 to 9, or the tree
unfoldable pub answer : List ℕ → Answer Tree
answer p = unless_long (ltb pattern_most (length p)) (of_reading p (read p))

-- a pattern that is not too long has room for its program: two words for each byte, and one
pub record ProgramRoom (p words : List ℕ) : Type 0 where
  pub enough : length p ≤ pattern_most → 2 * length p + 1 ≤ length words

-- the n words at the start are the program of the pattern's tree
pub record ProgramOf (p words : List ℕ) (n : ℕ) : Type 0 where
  pub tree : Tree
  pub is : answer p ≡ given tree
  pub program : Program words tree 0 n
  pub fits : n ≤ length words
  pub short : n ≤ program_most

abbrev pub ReadAs : List ℕ → List ℕ → Result ℕ Refusal → Type 0
ReadAs p words (Ok n) = ProgramOf p words n
ReadAs p words (Err r) = answer p ≡ refused (refusal_of r)
