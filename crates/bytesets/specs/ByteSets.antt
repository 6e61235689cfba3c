-- The set that four words hold, the lowest first.
use Rattle.std.specs.Prelude.{◌≡◌, [], ◌∷◌, ℕ, ◌+◌, ◌*◌, ◌^◌, ◌<◌}
use Rattle.rules.specs.Tools.{has, find}
use Rattle.rules.specs.Signs.{within}
use Rattle.bytesets.specs.declared.ByteSet.{ByteSet}

abbrev pub joined : ℕ → ℕ → ℕ → ℕ → ℕ
joined a b c d = a + 2 ^ 64 * (b + 2 ^ 64 * (c + 2 ^ 64 * d))

abbrev pub bytes_of : ByteSet → ℕ
bytes_of s = joined s.0 s.1 s.2 s.3

-- the word k of the four
abbrev pub word_of : ByteSet → ℕ → ℕ
word_of s k = find s.3 k ((0, s.0) ∷ (1, s.1) ∷ (2, s.2) ∷ [])

-- the word x, which begins with the byte `first`, has just the bytes from lo to hi
abbrev pub InWord : ℕ → ℕ → ℕ → ℕ → Type 0
InWord lo hi first x = (j : ℕ) → j < 64 → has x j ≡ within lo hi (first + j)
