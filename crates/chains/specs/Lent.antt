-- Groups in lists that are lent.
use Rattle.std.specs.Prelude.{◌≡◌, List, ℕ, length}
use Rattle.chains.specs.Chains.{Labelled, Grouped}
use Rattle.chains.specs.declared.Groups.{Groups}

-- the lists that are lent stay the same ones
abbrev pub SameLists : Groups → Groups → Type 0
SameLists old new = (new.seen.ghost_name ≡ old.seen.ghost_name) × (new.prior.ghost_name ≡ old.prior.ghost_name) × (new.last.ghost_name ≡ old.last.ghost_name)

-- each list has a place for each of n rows
pub record RoomFor (groups : Groups) (n : ℕ) : Type 0 where
  pub seen-long : length groups.seen.now ≡ n
  pub prior-long : length groups.prior.now ≡ n
  pub last-long : length groups.last.now ≡ n

-- the labels of n rows, and the chains of their groups
abbrev pub Labelled_in : List ℕ → List ℕ → Groups → ℕ → ℕ → ℕ → Type 0
Labelled_in label class groups n count many = Labelled label class groups.seen.now groups.prior.now groups.last.now n count many

-- some labels fit
abbrev pub Grouped_in : List ℕ → Groups → ℕ → ℕ → Type 0
Grouped_in class groups n many = Grouped class groups.seen.now groups.prior.now groups.last.now n many
