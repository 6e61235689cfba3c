-- What the steps of parting are given.
use Rattle.std.specs.Prelude.{◌≡◌, List, ℕ, ◌≤◌, ◌<◌, length}
use Rattle.rules.specs.Sizes.{rows_most}
use Rattle.rules.specs.Grid.{Grid}
use Rattle.columns.specs.Columns.{Columns}
use Rattle.grid.specs.Rows.{rows_of, Rows}

-- n rows with their marks and columns
pub record Named (cells marks bytes : List ℕ) (n : ℕ) : Type 0 where
  pub grid : Grid (rows_of cells n) marks
  pub rows : Rows cells n
  pub columns : Columns cells bytes n

-- lists for n rows: classes, and groups
pub record Lists (order place class start end seen prior last : List ℕ) (n : ℕ) : Type 0 where
  pub some : 0 < n
  pub few : n ≤ rows_most
  pub order-long : length order ≡ n
  pub place-long : length place ≡ n
  pub class-long : length class ≡ n
  pub start-long : length start ≡ n
  pub end-long : length end ≡ n
  pub seen-long : length seen ≡ n
  pub prior-long : length prior ≡ n
  pub last-long : length last ≡ n
