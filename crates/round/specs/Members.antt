-- Rows of a set, one after the other.
use Rattle.std.specs.Prelude.{◌≡◌, false, Option, Some, None, List, ℕ, ◌/◌, ◌%◌, ◌≤◌, ◌<◌}
use Rattle.rules.specs.Tools.{has}
use Rattle.sets.specs.Sets.{member}

-- a later place is passed to, and the places between are of one word and not in it
pub record PastWord (word r p : ℕ) : Type 0 where
  pub later : r < p
  pub none : (j : ℕ) → r < j → j < p → (j / 64 ≡ r / 64) × (has word (j % 64) ≡ false)

-- no row from `from` to `to`, which is no more than n, is in the set
pub record NoneTo (set : List ℕ) (from n to : ℕ) : Type 0 where
  pub least : from ≤ to
  pub most : to ≤ n
  pub none : (j : ℕ) → from ≤ j → j < to → member set j ≡ false

-- the first row of the set from `from` on, of n rows, or none is in
abbrev pub Next : Option ℕ → List ℕ → ℕ → ℕ → Type 0
Next None set from n = NoneTo set from n n
Next (Some r) set from n = (r < n) × NoneTo set from n r
