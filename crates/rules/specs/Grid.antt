-- Rows of row numbers as listing set rows leaves them: what merging is given.
use Rattle.std.specs.Prelude.{◌≡◌, ◌⊎◌, List, [], ℕ, ◌<◌, ◌≤◌, length, get_or}
use Rattle.rules.specs.Table.{Mark}

-- y is one of the first two rows, or stands in cell c of row p, before cell b of row q
abbrev pub Came : List (List ℕ) → ℕ → ℕ → ℕ → Type 0
Came rs y q b = (y < 2) ⊎ ((p : ℕ) × (c : ℕ) × ((p < q) ⊎ ((p ≡ q) × (c < b))) × (c < 256) × (get_or (get_or rs p []) c 0 ≡ y))

-- rows of 256 row numbers each, a mark for each row, and the rows in the order in which they come
pub record Grid (rs : List (List ℕ)) (ms : List ℕ) : Type 0 where
  pub two : 2 ≤ length rs
  pub wide : (i : ℕ) → i < length rs → length (get_or rs i []) ≡ 256
  pub rows : (i b : ℕ) → i < length rs → b < 256 → get_or (get_or rs i []) b 0 < length rs
  pub marked : length ms ≡ length rs
  pub good : (i : ℕ) → i < length rs → Mark (get_or ms i 0)
  pub own : (q : ℕ) → q < length rs → Came rs q q 0
  pub target : (q b y : ℕ) → q < length rs → b < 256 → y < get_or (get_or rs q []) b 0 → Came rs y q b
