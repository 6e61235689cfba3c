-- Known sets: rows from row 2 on by the words of their sets, in buckets.
use Rattle.std.specs.Prelude.{◌≡◌, ◌⊎◌, true, false, List, [], ◌∷◌, ℕ, suc, ◌+◌, ◌*◌, ◌≤◌, ◌<◌, eqb, length, get_or, Option, Some, None}
use Rattle.std.specs.Int.Bits.{bit_xor}
use Rattle.rules.specs.Sizes.{rows_most, words_a_row}
use Rattle.mixing.specs.Mixing.{buckets, mixed, bucket_for}
use Rattle.nodesets.specs.NodeSets.{mask_of, row_words}
use Rattle.kinds.specs.declared.Row.{Row}
use Rattle.known.specs.declared.Known.{Known}

-- ---- the bucket of a set

-- word i mixed in; a word of 0 is passed by
unfoldable pub mixed_in : ℕ → ℕ → ℕ → ℕ
mixed_in h i x = elim (eqb x 0) [ true ↦ h | false ↦ mixed (bit_xor h x) + i * 2246822519 ]

-- the words from word i on mixed in
unfoldable pub all_mixed : ℕ → ℕ → List ℕ → ℕ
all_mixed h i [] = h
all_mixed h i (x ∷ xs) = all_mixed (mixed_in h i x) (suc i) xs

-- the empty set has a bucket of its own, past the others
abbrev pub bucket_in : ℕ → ℕ
bucket_in h = elim (eqb h 0) [ true ↦ buckets | false ↦ bucket_for h ]

unfoldable pub bucket_of : List ℕ → ℕ
bucket_of ws = bucket_in (all_mixed 0 0 ws)

-- that of row i
abbrev pub bucket_at : ℕ → List ℕ → ℕ → ℕ
bucket_at w sets i = bucket_of (row_words w sets i)

-- ---- rows of a bucket

-- r is the greatest row below `end` in bucket k; it is 0 where there is none
pub record Greatest (bucket : ℕ → ℕ) (k end r : ℕ) : Type 0 where
  pub most : (i : ℕ) → 2 ≤ i → i < end → bucket i ≡ k → i ≤ r
  pub is : (r ≡ 0) ⊎ ((2 ≤ r) × (r < end) × (bucket r ≡ k))

-- for each of the rows from 2 on the greatest one below it in its bucket
abbrev pub Linked : ℕ → List ℕ → List ℕ → ℕ → Type 0
Linked w sets nexts c = (i : ℕ) → 2 ≤ i → i < c → Greatest (bucket_at w sets) (bucket_at w sets i) i (get_or nexts i 0)

-- none of the c rows has the set
abbrev pub Unknown : ℕ → List ℕ → ℕ → List ℕ → Type 0
Unknown w sets c set = (i : ℕ) → 2 ≤ i → i < c → mask_of (row_words w sets i) ≡ mask_of set → ⊥

abbrev pub FoundAs : ℕ → List ℕ → ℕ → List ℕ → Option Row → Type 0
FoundAs w sets c set (Some r) = (2 ≤ r.0) × (r.0 < c) × (row_words w sets r.0 ≡ set)
FoundAs w sets c set None = Unknown w sets c set

-- the c rows that there are, of which there may be `room`
pub record Book (w room : ℕ) (sets heads nexts : List ℕ) (c : ℕ) : Type 0 where
  pub two : 2 ≤ c
  pub fits : c ≤ room
  pub few : room ≤ rows_most
  pub long : words_a_row * room ≤ length sets
  pub heads-long : length heads ≡ suc buckets
  pub nexts-long : length nexts ≡ rows_most
  pub firsts : (k : ℕ) → k ≤ buckets → Greatest (bucket_at w sets) k c (get_or heads k 0)
  pub links : Linked w sets nexts c

abbrev pub Knows : ℕ → List ℕ → Known → Type 0
Knows w sets k = Book w k.room sets k.heads k.nexts k.rows

-- row r, of the c rows, has the set; or r is 0
abbrev pub RowOf : ℕ → List ℕ → ℕ → List ℕ → ℕ → Type 0
RowOf w sets c set r = (r ≡ 0) ⊎ ((2 ≤ r) × (r < c) × (row_words w sets r ≡ set))

-- row r of the set words becomes the set, and the rows before it stay
pub record Stored (w : ℕ) (old new : List ℕ) (r : ℕ) (set : List ℕ) : Type 0 where
  pub long : length new ≡ length old
  pub here : row_words w new r ≡ set
  pub kept : (i : ℕ) → i < r → row_words w new i ≡ row_words w old i

-- the set has row r, and there are then d rows
pub record TookIn (w room : ℕ) (sets : List ℕ) (c : ℕ) (set : List ℕ) (new heads nexts : List ℕ) (r d : ℕ) : Type 0 where
  pub book : Book w room new heads nexts d
  pub long : length new ≡ length sets
  pub row : (2 ≤ r) × (r < d)
  pub here : row_words w new r ≡ set
  pub kept : (i : ℕ) → i < c → row_words w new i ≡ row_words w sets i
  pub grown : (d ≡ c) ⊎ ((d ≡ suc c) × (r ≡ c) × Unknown w sets c set)

-- as many rows may be as before; or there is no room for a row with the set, and all stays as it was
abbrev pub Took : ℕ → List ℕ → Known → List ℕ → List ℕ → Known → Option Row → Type 0
Took w sets old set new k (Some r) = (k.room ≡ old.room) × TookIn w old.room sets old.rows set new k.heads k.nexts r.0 k.rows
Took w sets old set new k None = (k ≡ old) × (new ≡ sets) × (old.rows ≡ old.room) × Unknown w sets old.rows set
