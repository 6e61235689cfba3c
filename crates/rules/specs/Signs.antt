-- "The pattern language": the special bytes, what `.` stands for, digits, escapes of two bytes, named classes.
use Rattle.std.specs.Prelude.{Bool, ◌&&◌, not, ◌||◌, List, [], ◌∷◌, ◌++◌, ℕ, ◌-◌, ◌^◌, leb, eqb}
use Rattle.std.proofs.Math.Option.{Option, none, some}
use Rattle.rules.specs.Tools.{guard, or_else, find, any, bytes_of, range}

-- ---- the 14 special bytes; every other byte is plain

pub data Sign : Type 0 where
  plain dot opens_class closes_class opens_group closes_group bar star_sign plus_sign query_sign opens_count closes_count hat dollar backslash : Sign

abbrev pub specials : List (ℕ × Sign)
specials =
    (46, dot) ∷ (91, opens_class) ∷ (93, closes_class) ∷ (40, opens_group) ∷ (41, closes_group) ∷ (124, bar) ∷ (42, star_sign)
    ∷ (43, plus_sign) ∷ (63, query_sign) ∷ (123, opens_count) ∷ (125, closes_count) ∷ (94, hat) ∷ (36, dollar) ∷ (92, backslash) ∷ []

abbrev pub sign : ℕ → Sign
sign c = find plain c specials

abbrev pub is_special : ℕ → Bool
is_special c = any (λ x. eqb c x.0) specials

-- ---- sets of bytes

abbrev pub every_byte : ℕ
every_byte = 2 ^ 256 - 1

-- `.` stands for every byte
abbrev pub dot_bytes : ℕ
dot_bytes = every_byte

-- ---- digits

abbrev pub within : ℕ → ℕ → ℕ → Bool
within lo hi c = leb lo c && leb c hi

abbrev pub digit : ℕ → Option ℕ
digit c = guard (within 48 57 c) (c - 48)

-- of either case
abbrev pub hex_digit : ℕ → Option ℕ
hex_digit c = or_else (digit c) (or_else (guard (within 65 70 c) (c - 55)) (guard (within 97 102 c) (c - 87)))

-- ---- the byte after a `\`: a special byte or `-` stands for itself, `n` for 10, `r` for 13, `t` for 9

abbrev pub after_backslash : ℕ → Option ℕ
after_backslash c = or_else (guard (is_special c || eqb c 45) c) (find none c ((110, some 10) ∷ (114, some 13) ∷ (116, some 9) ∷ []))

-- ---- a member of a class that is no escape: any byte but `[`, `]`, `\` and `-`

abbrev pub bare : ℕ → Bool
bare c = not (eqb c 91 || eqb c 93 || eqb c 92 || eqb c 45)

-- ---- named classes: the spelling, and the bytes

abbrev pub named : List (List ℕ × List ℕ)
named =
    (bytes_of "[:digit:]", range 48 57)
    ∷ (bytes_of "[:upper:]", range 65 90)
    ∷ (bytes_of "[:lower:]", range 97 122)
    ∷ (bytes_of "[:alpha:]", range 65 90 ++ range 97 122)
    ∷ (bytes_of "[:alnum:]", range 65 90 ++ range 97 122 ++ range 48 57)
    ∷ (bytes_of "[:xdigit:]", range 48 57 ++ range 65 70 ++ range 97 102)
    ∷ (bytes_of "[:space:]", range 9 13 ++ range 32 32)
    ∷ []
