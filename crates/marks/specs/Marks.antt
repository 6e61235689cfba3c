-- Rows sorted into groups by their marks.
use Rattle.std.specs.Prelude.{◌≡◌, ◌≢◌, List, ℕ, ◌-◌, ◌≤◌, ◌<◌, length, get_or}
use Rattle.chains.specs.Chains.{Labelled}

-- the first r rows are in groups, those with one mark in one; `group` has one more than the group of each mark that came, and 0 for the others
pub record MarkedTo (marks group seen prior last : List ℕ) (n groups r : ℕ) : Type 0 where
  pub label : List ℕ
  pub labelled : (class : List ℕ) → ((i j : ℕ) → i < n → j < n → get_or class i 0 ≡ get_or class j 0) → Labelled label class seen prior last n r groups
  pub long : length group ≡ 256
  pub seen-row : (i : ℕ) → i < r → get_or seen i 0 ≡ i
  pub known : (i : ℕ) → i < r → get_or group (get_or marks i 0) 0 ≢ 0
  pub is : (i : ℕ) → i < r → get_or label i 0 ≡ get_or group (get_or marks i 0) 0 - 1
  pub low : (m : ℕ) → get_or group m 0 ≤ groups
  pub one : (m k : ℕ) → get_or group m 0 ≢ 0 → get_or group m 0 ≡ get_or group k 0 → m ≡ k

-- groups by marks: rows have one label exactly if they have one mark
pub record ByMarks (marks class seen prior last : List ℕ) (n groups : ℕ) : Type 0 where
  pub label : List ℕ
  pub count : ℕ
  pub labelled : Labelled label class seen prior last n count groups
  pub like : (i j : ℕ) → i < n → j < n → get_or label i 0 ≡ get_or label j 0 → get_or marks i 0 ≡ get_or marks j 0
  pub fair : (i j : ℕ) → i < n → j < n → get_or marks i 0 ≡ get_or marks j 0 → get_or label i 0 ≡ get_or label j 0
