-- Classes cut by groups of rows.
use Rattle.std.specs.Prelude.{◌≡◌, ◌⊎◌, List, ℕ, ◌≤◌, ◌<◌, get_or}
use Rattle.stretches.specs.Stretches.{Placed, Stretches}

-- rows stay together if they were and are both in group g or both not; a row keeps its number or takes a new one
pub record CutOff (label class class' : List ℕ) (n g many many' : ℕ) : Type 0 where
  pub finer : (i j : ℕ) → i < n → j < n → get_or class' i 0 ≡ get_or class' j 0 → get_or class i 0 ≡ get_or class j 0
  pub parted : (i j : ℕ) → i < n → j < n → get_or class' i 0 ≡ get_or class' j 0 → get_or label i 0 ≡ g → get_or label j 0 ≡ g
  pub fair : (i j : ℕ) → i < n → j < n → get_or class i 0 ≡ get_or class j 0 → get_or label i 0 ≡ get_or label j 0 → get_or class' i 0 ≡ get_or class' j 0
  pub new : (i : ℕ) → i < n → (get_or class' i 0 ≡ get_or class i 0) ⊎ (many ≤ get_or class' i 0)
  pub more : many ≤ many'

-- the same for all groups before group g
pub record CutTo (label class class' : List ℕ) (n g many many' : ℕ) : Type 0 where
  pub finer : (i j : ℕ) → i < n → j < n → get_or class' i 0 ≡ get_or class' j 0 → get_or class i 0 ≡ get_or class j 0
  pub parted : (i j : ℕ) → i < n → j < n → get_or class' i 0 ≡ get_or class' j 0 → get_or label i 0 < g → get_or label i 0 ≡ get_or label j 0
  pub fair : (i j : ℕ) → i < n → j < n → get_or class i 0 ≡ get_or class j 0 → get_or label i 0 ≡ get_or label j 0 → get_or class' i 0 ≡ get_or class' j 0
  pub new : (i : ℕ) → i < n → (get_or class' i 0 ≡ get_or class i 0) ⊎ (many ≤ get_or class' i 0)
  pub more : many ≤ many'

-- rows in their stretches, with their places
pub record Standing (order place class start end : List ℕ) (n many : ℕ) : Type 0 where
  pub placed : Placed order place n
  pub stretches : Stretches order class start end n many
