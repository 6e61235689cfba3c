-- "What a pattern matches".
use Rattle.std.specs.Prelude.{◌≡◌, ◌⊎◌, ◌↔◌, Bool, List, ℕ, zero, suc, ◌+◌, ◌≤◌, ◌<◌, T, length, get_or}
use Rattle.std.proofs.Math.Option.{Option, none, some}
use Rattle.rules.specs.Tools.{has}
use Rattle.rules.specs.Tree.{Repeat, star, plus, maybe, times, at_least, Tree, nothing, bytes, head, tail, in_row, either, repeated}

-- how often a repeat sign lets its atom stand
abbrev pub Allows : Repeat → ℕ → Type 0
Allows star k = 0 ≤ k
Allows plus k = 1 ≤ k
Allows maybe k = k ≤ 1
Allows (times m d) k = (m ≤ k) × (k ≤ m + d)
Allows (at_least m) k = m ≤ k

-- the stretch from s to e cuts into k parts that each have P
abbrev pub Cuts : (ℕ → ℕ → Type 0) → ℕ → ℕ → ℕ → Type 0
Cuts P zero s e = s ≡ e
Cuts P (suc k) s e = (m : ℕ) × P s m × Cuts P k m e

-- the tree matches the stretch of the text t from s to e
abbrev pub Match : List ℕ → Tree → ℕ → ℕ → Type 0
Match t nothing s e = s ≡ e
Match t (bytes B) s e = (e ≡ suc s) × (s < length t) × T (has B (get_or t s 0))
Match t head s e = (s ≡ 0) × (e ≡ 0)
Match t tail s e = (s ≡ length t) × (e ≡ length t)
Match t (in_row X Y) s e = (m : ℕ) × Match t X s m × Match t Y m e
Match t (either X Y) s e = Match t X s e ⊎ Match t Y s e
Match t (repeated r X) s e = (k : ℕ) × Allows r k × Cuts (Match t X) k s e

-- a stretch of the text that matches
abbrev pub Matches : Tree → List ℕ → ℕ → ℕ → Type 0
Matches X t s e = (s ≤ e) × (e ≤ length t) × Match t X s e

-- ---- the four answers, for any rule M that says which stretches match

-- whole match: (0, n) matches
abbrev pub IsWhole : (ℕ → ℕ → Type 0) → ℕ → Bool → Type 0
IsWhole M n b = T b ↔ M 0 n

-- longest from s: the greatest e, or none
abbrev pub IsLongest : (ℕ → ℕ → Type 0) → ℕ → Option ℕ → Type 0
IsLongest M s none = (e : ℕ) → M s e → ⊥
IsLongest M s (some e) = M s e × ((d : ℕ) → M s d → d ≤ e)

-- first: the least s that has any match, with its longest end, or none
abbrev pub IsFirst : (ℕ → ℕ → Type 0) → Option (ℕ × ℕ) → Type 0
IsFirst M none = (s e : ℕ) → M s e → ⊥
IsFirst M (some x) = IsLongest M x.0 (some x.1) × ((s e : ℕ) → M s e → x.0 ≤ s)

-- all starts: every s that has any match, ascending, each once
pub record IsStarts (M : ℕ → ℕ → Type 0) (xs : List ℕ) : Type 0 where
  pub sound : (i : ℕ) → i < length xs → (e : ℕ) × M (get_or xs i 0) e
  pub complete : (s e : ℕ) → M s e → (i : ℕ) × (i < length xs) × (get_or xs i 0 ≡ s)
  pub ascending : (i j : ℕ) → i < j → j < length xs → get_or xs i 0 < get_or xs j 0
