-- Groups of rows, each in a chain. A row's label is the number of its group.
use Rattle.std.specs.Prelude.{◌≡◌, ◌⊎◌, ◌≢◌, List, ℕ, ◌-◌, ◌≤◌, ◌<◌, length, get_or}

-- x is one more than the latest place before `end` that f takes to k; it is 0 where there is none
pub record Latest (f : ℕ → ℕ) (k end x : ℕ) : Type 0 where
  pub most : (i : ℕ) → i < end → f i ≡ k → i < x
  pub is : (x ≢ 0) → (x ≤ end) × (f (x - 1) ≡ k)

-- for each place before `count` the latest one before it that f takes to the same
abbrev pub Linked : (ℕ → ℕ) → List ℕ → ℕ → Type 0
Linked f links count = (i : ℕ) → i < count → Latest f (f i) i (get_or links i 0)

-- the label of the row seen at place i
abbrev pub label_at : List ℕ → List ℕ → ℕ → ℕ
label_at label seen i = get_or label (get_or seen i 0) 0

-- the labels of n rows: those of the rows seen, ascending, are below `groups`, those of all others are n;
-- the rows seen of each group are a chain, from its last
pub record Labelled (label class seen prior last : List ℕ) (n count groups : ℕ) : Type 0 where
  pub label-long : length label ≡ n
  pub seen-long : count ≤ length seen
  pub prior-long : count ≤ length prior
  pub last-long : groups ≤ length last
  pub seen-in : (i : ℕ) → i < count → get_or seen i 0 < n
  pub rising : (i j : ℕ) → i < j → j < count → get_or seen i 0 < get_or seen j 0
  pub low : (i : ℕ) → i < count → label_at label seen i < groups
  pub others : (r : ℕ) → r < n → ((i : ℕ) × (i < count) × (get_or seen i 0 ≡ r)) ⊎ (get_or label r 0 ≡ n)
  pub few : groups ≤ count
  pub linked : Linked (label_at label seen) prior count
  pub ends : (g : ℕ) → g < groups → Latest (label_at label seen) g count (get_or last g 0)
  pub some : (g : ℕ) → g < groups → get_or last g 0 ≢ 0
  pub class-one : (i j : ℕ) → i < n → j < n → get_or label i 0 < groups → get_or label i 0 ≡ get_or label j 0 → get_or class i 0 ≡ get_or class j 0

-- some labels fit
pub record Grouped (class seen prior last : List ℕ) (n groups : ℕ) : Type 0 where
  pub label : List ℕ
  pub count : ℕ
  pub labelled : Labelled label class seen prior last n count groups
