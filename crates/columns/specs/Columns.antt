-- Columns: neighbouring bytes on which every row goes alike.
use Rattle.std.specs.Prelude.{◌≡◌, List, ℕ, ◌+◌, ◌*◌, ◌≤◌, ◌<◌, length, get_or}

-- each of n rows goes alike on the bytes b and c
abbrev pub SameOn : List ℕ → ℕ → ℕ → ℕ → Type 0
SameOn cells n b c = (q : ℕ) → q < n → get_or cells (256 * q + b) 0 ≡ get_or cells (256 * q + c) 0

-- on each byte n rows go as on one of the bytes listed
pub record Columns (cells bytes : List ℕ) (n : ℕ) : Type 0 where
  pub column : (b : ℕ) → b < 256 → (k : ℕ) × (k < length bytes) × SameOn cells n b (get_or bytes k 0)

-- where no column begins, n rows go as on the byte before
pub record Begins (cells begins : List ℕ) (n : ℕ) : Type 0 where
  pub goes_on : (b : ℕ) → b < 255 → get_or begins (b + 1) 0 ≡ 0 → SameOn cells n (b + 1) b

-- row q's cells on the first bytes, up to byte m, are noted
pub record RowNoted (cells : List ℕ) (q : ℕ) (old new : List ℕ) (m : ℕ) : Type 0 where
  pub long : length new ≡ length old
  pub noted : (b : ℕ) → b < m → get_or new (b + 1) 0 ≡ 0 → (get_or old (b + 1) 0 ≡ 0) × (get_or cells (256 * q + (b + 1)) 0 ≡ get_or cells (256 * q + b) 0)
  pub rest : (b : ℕ) → m < b → get_or new b 0 ≡ get_or old b 0

-- no column begins after the byte at place k, up to byte b
pub record InColumn (begins bytes : List ℕ) (k b : ℕ) : Type 0 where
  pub from : get_or bytes k 0 ≤ b
  pub none : (x : ℕ) → get_or bytes k 0 ≤ x → x < b → get_or begins (x + 1) 0 ≡ 0

-- each byte is in the column of a byte listed
pub record Gathered (begins bytes : List ℕ) : Type 0 where
  pub column : (b : ℕ) → b < 256 → (k : ℕ) × (k < length bytes) × InColumn begins bytes k b
