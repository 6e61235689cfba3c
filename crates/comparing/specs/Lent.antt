-- The room that is lent to compile in.
use Rattle.std.specs.Prelude.{◌≡◌, List, ℕ, ◌*◌, length}
use Rattle.rules.specs.Sizes.{rows_most, words_a_row}

-- room for 1,024 rows
pub record LentRoom (cells marks sets : List ℕ) : Type 0 where
  pub cells-many : length cells ≡ 256 * rows_most
  pub marks-many : length marks ≡ rows_most
  pub sets-many : length sets ≡ words_a_row * rows_most
