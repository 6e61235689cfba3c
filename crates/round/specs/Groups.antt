-- Rows sorted into groups: those of one class that go to classes of the same keys.
use Rattle.std.specs.Prelude.{◌≡◌, ◌⊎◌, ◌≢◌, false, Option, Some, None, List, ℕ, ◌+◌, ◌≤◌, ◌<◌, length, get_or}
use Rattle.sets.specs.Sets.{member}
use Rattle.mixing.specs.Mixing.{buckets}
use Rattle.keys.specs.Keys.{Alike, Idle, bucket_of}
use Rattle.chains.specs.Chains.{Latest, Linked, Labelled}

-- ---- the search for a row's group

-- the bucket of group g, by its first row
abbrev pub bucket_at : List ℕ → List ℕ → ℕ → List ℕ → List ℕ → ℕ → ℕ
bucket_at cells class from bytes firsts g = bucket_of cells class from bytes (get_or firsts g 0)

-- the groups in their buckets: the latest group of each bucket, and for each group the one before it in its bucket
pub record Book (cells class bytes firsts heads links : List ℕ) (from groups : ℕ) : Type 0 where
  pub heads-long : length heads ≡ buckets
  pub firsts-long : length firsts ≡ length class
  pub links-long : length links ≡ length class
  pub latest : (k : ℕ) → k < buckets → Latest (bucket_at cells class from bytes firsts) k groups (get_or heads k 0)
  pub linked : Linked (bucket_at cells class from bytes firsts) links groups

-- each group has a first row
pub record Firsts (class firsts links : List ℕ) (groups : ℕ) : Type 0 where
  pub firsts-long : groups ≤ length firsts
  pub links-long : groups ≤ length links
  pub row : (g : ℕ) → g < groups → get_or firsts g 0 < length class

-- a group whose first row goes as row r, or there is none
abbrev pub Sought : Option ℕ → List ℕ → List ℕ → List ℕ → ℕ → ℕ → ℕ → Type 0
Sought None cells class firsts from groups r = (h : ℕ) → h < groups → Alike cells class from (get_or firsts h 0) r → ⊥
Sought (Some g) cells class firsts from groups r = (g < groups) × Alike cells class from (get_or firsts g 0) r

-- ---- sorting

-- class c has one row
abbrev pub Single : List ℕ → List ℕ → ℕ → Type 0
Single start end c = get_or end c 0 ≡ get_or start c 0 + 1

-- rows before row r in groups, with the groups in their buckets
pub record Filed (cells class bytes seen prior last firsts heads links : List ℕ) (from count groups r : ℕ) : Type 0 where
  pub label : List ℕ
  pub labelled : Labelled label class seen prior last (length class) count groups
  pub before : (i : ℕ) → i < count → get_or seen i 0 < r
  pub book : Book cells class bytes firsts heads links from groups
  pub first-in : (g : ℕ) → g < groups → get_or firsts g 0 < length class
  pub first-own : (g : ℕ) → g < groups → get_or label (get_or firsts g 0) 0 ≡ g
  pub same : (i : ℕ) → i < length class → get_or label i 0 < groups → Alike cells class from (get_or firsts (get_or label i 0) 0) i
  pub one : (g h : ℕ) → g < groups → h < groups → Alike cells class from (get_or firsts g 0) (get_or firsts h 0) → g ≡ h
  pub busy : (i : ℕ) → i < length class → get_or label i 0 < groups → Idle cells class from i → ⊥

-- the rows before row r that are in no group go to no class that waits, or are alone in their class
pub record Passed (cells class start end seen : List ℕ) (from count r : ℕ) : Type 0 where
  pub rest : (i : ℕ) → i < r → i < length class → ((x : ℕ) → x < count → get_or seen x 0 ≢ i) → Idle cells class from i ⊎ Single start end (get_or class i 0)

-- each row's class has a number and a stretch
pub record Ends (class start end : List ℕ) : Type 0 where
  pub start-long : length start ≡ length class
  pub end-long : length end ≡ length class
  pub number : (i : ℕ) → i < length class → get_or class i 0 < length class
  pub order : (i : ℕ) → i < length class → get_or start (get_or class i 0) 0 < get_or end (get_or class i 0) 0

-- the rows that go to a class that waits are in groups, but for rows that are alone in their class
pub record Sorted (cells class start end seen prior last : List ℕ) (from groups : ℕ) : Type 0 where
  pub label : List ℕ
  pub count : ℕ
  pub labelled : Labelled label class seen prior last (length class) count groups
  pub same : (i j : ℕ) → i < length class → j < length class → get_or label i 0 < groups → get_or label i 0 ≡ get_or label j 0 → Alike cells class from i j
  pub differ : (i j : ℕ) → i < length class → j < length class → get_or label i 0 < groups → get_or label j 0 < groups → Alike cells class from i j → get_or label i 0 ≡ get_or label j 0
  pub busy : (i : ℕ) → i < length class → get_or label i 0 < groups → Idle cells class from i → ⊥
  pub rest : (i : ℕ) → i < length class → get_or label i 0 ≡ length class → Idle cells class from i ⊎ Single start end (get_or class i 0)

-- rows that are not touched go to no class that waits
abbrev pub Touches : List ℕ → List ℕ → List ℕ → ℕ → Type 0
Touches cells class touched from = (i : ℕ) → i < length class → member touched i ≡ false → Idle cells class from i
