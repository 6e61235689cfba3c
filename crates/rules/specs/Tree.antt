-- What a pattern spells: a tree.
use Rattle.std.specs.Prelude.{ℕ}

-- a repeat sign
pub data Repeat : Type 0 where
  star plus maybe : Repeat  -- `*`, `+`, `?`
  times : ℕ → ℕ → Repeat  -- times m d is `{m,n}` with n = m + d; `{m}` is times m 0
  at_least : ℕ → Repeat  -- `{m,}`

pub data Tree : Type 0 where
  nothing : Tree  -- an empty branch
  bytes : ℕ → Tree  -- a byte, `.` or a class: one byte of the set
  head tail : Tree  -- `^` and `$`
  in_row either : Tree → Tree → Tree  -- pieces in a row, and `|`
  repeated : Repeat → Tree → Tree
