-- Sets of nodes in words.
use Rattle.std.specs.Prelude.{◌≡◌, List, [], ◌∷◌, ℕ, ◌+◌, ◌*◌, ◌/◌, ◌%◌, ◌^◌, ◌≤◌, ◌<◌, T, length, get_or, take, drop}
use Rattle.std.specs.Int.Bits.{bit_and}
use Rattle.rules.specs.Tools.{has, with}
use Rattle.rules.specs.Sizes.{words_a_row}

-- the set that words hold, the lowest word first: of each word its 64 bits
unfoldable pub mask_of : List ℕ → ℕ
mask_of [] = 0
mask_of (x ∷ xs) = mask_of xs * 2 ^ 64 + x % 2 ^ 64

-- the words of row i of the set words, of which w are in use
abbrev pub row_words : ℕ → List ℕ → ℕ → List ℕ
row_words w sets i = take w (drop (words_a_row * i) sets)

-- word by word what both have
unfoldable pub meets : List ℕ → List ℕ → List ℕ
meets [] ys = []
meets (x ∷ xs) [] = []
meets (x ∷ xs) (y ∷ ys) = bit_and x y ∷ meets xs ys

-- no word is in use but those from word `from` on and before word `to`
pub record Within (from to : ℕ) (ws : List ℕ) : Type 0 where
  pub low : from ≤ to
  pub high : to ≤ length ws
  pub before : (i : ℕ) → i < from → get_or ws i 0 ≡ 0
  pub after : (i : ℕ) → to ≤ i → get_or ws i 0 ≡ 0

-- the words of twice the set, where c is carried in from below
unfoldable pub doubled : ℕ → List ℕ → List ℕ
doubled c [] = []
doubled c (x ∷ xs) = (x % 2 ^ 63 * 2 + c) ∷ doubled (x / 2 ^ 63 % 2) xs

-- v, of word i, was in the old set and is all that the new one lacks
pub record TakenOut (old new : List ℕ) (i v : ℕ) : Type 0 where
  pub long : length new ≡ length old
  pub there : (64 * i ≤ v) × (v < 64 * length old)
  pub out : T (has (mask_of new) v) → ⊥
  pub rest : mask_of old ≡ with (mask_of new) v
