-- What merging is lent, and what it leaves.
use Rattle.std.specs.Prelude.{◌≡◌, List, ℕ, ◌*◌, ◌≤◌, length, take}
use Rattle.rules.specs.Sizes.{rows_most, words_a_row}
use Rattle.rules.specs.Table.{Table}
use Rattle.rules.specs.Grid.{Grid}
use Rattle.grid.specs.Rows.{rows_of}

-- n rows, as listing set rows leaves them, at the front of the lent room
pub record Lent (cells marks sets : List ℕ) (n : ℕ) : Type 0 where
  pub grid : Grid (rows_of cells n) (take n marks)
  pub few : n ≤ rows_most
  pub cells-long : 256 * n ≤ length cells
  pub marks-long : n ≤ length marks
  pub sets-long : words_a_row * n ≤ length sets

-- the table stands at the front of the lent room
pub record Stands (w : Table) (cells marks : List ℕ) (rows head : ℕ) : Type 0 where
  pub count : rows ≡ w.count
  pub first : head ≡ w.head
  pub cells-front : take (256 * rows) cells ≡ w.cells
  pub marks-front : take rows marks ≡ w.marks
