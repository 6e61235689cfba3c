-- Kept rows, their numbers, and where they go.
use Rattle.std.specs.Prelude.{◌≡◌, Bool, List, ℕ, ◌+◌, ◌*◌, ◌≤◌, ◌<◌, eqb, length, get_or}
use Rattle.rules.specs.Tools.{up_from, kept}

-- row q is the least of its class
abbrev pub is_kept : List ℕ → ℕ → Bool
is_kept class q = eqb (get_or class q 0) q

-- how many rows before row q are kept
unfoldable pub rank : List ℕ → ℕ → ℕ
rank class q = length (kept (is_kept class) (up_from 0 q))

-- each row's new number: that of the least row of its class, counted among the kept rows
pub record Numbering (class number : List ℕ) (rows : ℕ) : Type 0 where
  pub count : rows ≡ rank class (length class)
  pub long : length number ≡ length class
  pub numbers : (q : ℕ) → q < length class → get_or number q 0 ≡ rank class (get_or class q 0)

-- the first m cells of row q stand at row i, each put through the numbers; all others are as they were
pub record Moved (old number new : List ℕ) (i q m : ℕ) : Type 0 where
  pub long : length new ≡ length old
  pub moved : (b : ℕ) → b < m → get_or new (256 * i + b) 0 ≡ get_or number (get_or old (256 * q + b) 0) 0
  pub below : (j : ℕ) → j < 256 * i → get_or new j 0 ≡ get_or old j 0
  pub above : (j : ℕ) → 256 * i + m ≤ j → get_or new j 0 ≡ get_or old j 0

-- the kept rows and marks stand at their numbers
pub record Lowered (class number cells marks cells' marks' : List ℕ) : Type 0 where
  pub cells-long : length cells' ≡ length cells
  pub marks-long : length marks' ≡ length marks
  pub rows-down : (q b : ℕ) → q < length class → get_or class q 0 ≡ q → b < 256 → get_or cells' (256 * rank class q + b) 0 ≡ get_or number (get_or cells (256 * q + b) 0) 0
  pub marks-down : (q : ℕ) → q < length class → get_or class q 0 ≡ q → get_or marks' (rank class q) 0 ≡ get_or marks q 0
