-- A set of numbers in words of 64 bits.
use Rattle.std.specs.Prelude.{◌≡◌, Bool, ◌||◌, List, ℕ, ◌+◌, ◌*◌, ◌/◌, ◌%◌, ◌^◌, ◌<◌, length, get_or, set}
use Rattle.std.specs.Int.Bits.{bit_or}
use Rattle.rules.specs.Tools.{has}

-- x is in the set that the words hold
unfoldable pub member : List ℕ → ℕ → Bool
member ws x = has (get_or ws (x / 64) 0) (x % 64)

-- the words with x put in
unfoldable pub put_in : List ℕ → ℕ → List ℕ
put_in ws x = set ws (x / 64) (bit_or (get_or ws (x / 64) 0) (2 ^ (x % 64)))

-- the words with every member of the set that vs holds put in
unfoldable pub AllIn : List ℕ → List ℕ → ℕ → List ℕ → Type 0
AllIn ws vs start new = (x : ℕ) → x < 64 * length ws → member new x ≡ (member ws x || member vs (64 * start + x))
