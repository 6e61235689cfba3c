-- Rows as they stand in the cells.
use Rattle.std.specs.Prelude.{◌≡◌, List, map, ℕ, ◌*◌, ◌/◌, ◌≤◌, ◌<◌, length, get_or, take, drop}
use Rattle.rules.specs.Tools.{up_from}
use Rattle.rules.specs.Sizes.{rows_most}

-- words for a set of rows
abbrev pub row_words : ℕ
row_words = rows_most / 64

-- the first n rows of the cells
unfoldable pub rows_of : List ℕ → ℕ → List (List ℕ)
rows_of cells n = map (λ q. take 256 (drop (256 * q) cells)) (up_from 0 n)

-- n rows of 256 cells, each one of the rows
pub record Rows (cells : List ℕ) (n : ℕ) : Type 0 where
  pub few : n ≤ rows_most
  pub long : length cells ≡ 256 * n
  pub inside : (i : ℕ) → i < 256 * n → get_or cells i 0 < n

-- each class is named by its least row
pub record Names (class : List ℕ) : Type 0 where
  pub low : (i : ℕ) → i < length class → get_or class i 0 ≤ i
  pub named : (i : ℕ) → i < length class → get_or class (get_or class i 0) 0 ≡ get_or class i 0
