-- Room to part rows.
use Rattle.std.specs.Prelude.{◌≡◌, List, ℕ, ◌*◌, ◌≤◌, length}
use Rattle.rules.specs.Sizes.{rows_most}
use Rattle.grid.specs.Rows.{row_words}

-- room for just n rows, and scratch for them
pub record Room (cells preds class number order touched : List ℕ) (n : ℕ) : Type 0 where
  pub few : n ≤ rows_most
  pub cells-long : length cells ≡ 256 * n
  pub preds-long : length preds ≡ row_words * n
  pub class-long : length class ≡ n
  pub number-long : length number ≡ n
  pub order-long : length order ≡ n
  pub touched-long : length touched ≡ row_words
