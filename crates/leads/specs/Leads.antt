-- The rows that lead to each row, and those that lead to a class that waits.
use Rattle.std.specs.Prelude.{◌≡◌, true, List, ℕ, ◌+◌, ◌*◌, ◌≤◌, ◌<◌, length, get_or}
use Rattle.rules.specs.Sizes.{rows_most}
use Rattle.sets.specs.Sets.{member}
use Rattle.grid.specs.Rows.{row_words}

-- row i is put down at row t
abbrev pub Leads : List ℕ → ℕ → ℕ → Type 0
Leads preds t i = member preds (rows_most * t + i) ≡ true

-- nothing is taken out
pub record Grown (old new : List ℕ) : Type 0 where
  pub long : length new ≡ length old
  pub still : (x : ℕ) → member old x ≡ true → member new x ≡ true

-- row i is put down at its targets on the bytes
abbrev pub RowListed : List ℕ → List ℕ → List ℕ → ℕ → Type 0
RowListed cells bytes preds i = (k : ℕ) → k < length bytes → Leads preds (get_or cells (256 * i + get_or bytes k 0) 0) i

-- rows in a list, and for each of them the rows that lead to it
pub record Reach (order preds : List ℕ) : Type 0 where
  pub few : length order ≤ rows_most
  pub row : (p : ℕ) → p < length order → get_or order p 0 < length order
  pub long : length preds ≡ row_words * length order

-- what leads to a row at a place from `from` to `to` is in
abbrev pub Touched : List ℕ → List ℕ → List ℕ → ℕ → ℕ → Type 0
Touched order preds set from to = (p i : ℕ) → from ≤ p → p < to → i < rows_most → Leads preds (get_or order p 0) i → member set i ≡ true

-- stretches of the list
pub record Spans (order start end : List ℕ) (many : ℕ) : Type 0 where
  pub start-long : many ≤ length start
  pub end-long : many ≤ length end
  pub inside : (z : ℕ) → z < many → get_or end z 0 ≤ length order

-- what leads to a row of the stretches from `from` to `to` is in
abbrev pub TouchedAll : List ℕ → List ℕ → List ℕ → List ℕ → List ℕ → ℕ → ℕ → Type 0
TouchedAll order start end preds set from to = (z : ℕ) → from ≤ z → z < to → Touched order preds set (get_or start z 0) (get_or end z 0)
