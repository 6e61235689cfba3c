-- What a round leaves of the classes.
use Rattle.std.specs.Prelude.{◌≡◌, ◌⊎◌, List, ℕ, ◌≤◌, ◌<◌, get_or}
use Rattle.keys.specs.Keys.{KeysAlike}

-- rows stay together exactly if they were, and on each byte go to classes of one key; a row keeps its number or takes one from `many` on
pub record Refined (cells class class' : List ℕ) (n from many : ℕ) : Type 0 where
  pub finer : (i j : ℕ) → i < n → j < n → get_or class' i 0 ≡ get_or class' j 0 → get_or class i 0 ≡ get_or class j 0
  pub keys : (i j : ℕ) → i < n → j < n → get_or class' i 0 ≡ get_or class' j 0 → KeysAlike cells class from i j
  pub fair : (i j : ℕ) → i < n → j < n → get_or class i 0 ≡ get_or class j 0 → KeysAlike cells class from i j → get_or class' i 0 ≡ get_or class' j 0
  pub new : (i : ℕ) → i < n → (get_or class' i 0 ≡ get_or class i 0) ⊎ (many ≤ get_or class' i 0)
