-- Classes named by their least rows.
use Rattle.std.specs.Prelude.{◌≡◌, ◌⊎◌, ◌≢◌, List, ℕ, ◌≤◌, ◌<◌, length, get_or}
use Rattle.rules.specs.Sizes.{rows_most}

-- p is the least row of row i's class
pub record LeastOf (number : List ℕ) (i p : ℕ) : Type 0 where
  pub below : p ≤ i
  pub like : get_or number p 0 ≡ get_or number i 0
  pub none : (j : ℕ) → j < p → get_or number j 0 ≢ get_or number i 0

-- no row before row r is of class c, and none is noted; or the least such row is
abbrev pub FirstOf : List ℕ → List ℕ → ℕ → ℕ → Type 0
FirstOf number first r c =
    ((get_or first c 0 ≡ rows_most) × ((j : ℕ) → j < r → get_or number j 0 ≢ c))
    ⊎ ((get_or first c 0 < r) × (get_or number (get_or first c 0) 0 ≡ c) × ((j : ℕ) → j < get_or first c 0 → get_or number j 0 ≢ c))

-- the rows before row r are named by the least rows of their classes
pub record NamedTo (number first class : List ℕ) (r : ℕ) : Type 0 where
  pub first-long : length first ≡ length number
  pub class-long : length class ≡ length number
  pub known : (c : ℕ) → c < length number → FirstOf number first r c
  pub least : (j : ℕ) → j < r → LeastOf number j (get_or class j 0)

-- each row has the number of a class, below the number of rows
pub record Numbers (number : List ℕ) : Type 0 where
  pub few : length number ≤ rows_most
  pub low : (i : ℕ) → i < length number → get_or number i 0 < length number
