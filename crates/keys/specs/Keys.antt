-- Classes that wait, and what rows that go to them are told apart by. The classes from the number `from` on wait.
use Rattle.std.specs.Prelude.{◌≡◌, Bool, true, false, List, [], ◌∷◌, Option, Some, None, ℕ, ◌+◌, ◌*◌, ◌<◌, eqb, ltb, get_or}
use Rattle.mixing.specs.Mixing.{buckets, mixed, bucket_for}

-- the key of a class: its number if it waits, else 0
unfoldable pub key : ℕ → ℕ → ℕ
key from x = elim (ltb x from) [ true ↦ 0 | false ↦ x ]

-- the key of the class that row i goes to on the byte b
abbrev pub key_on : List ℕ → List ℕ → ℕ → ℕ → ℕ → ℕ
key_on cells class from i b = key from (get_or class (get_or cells (256 * i + b) 0) 0)

-- row i goes to no class that waits
abbrev pub Idle : List ℕ → List ℕ → ℕ → ℕ → Type 0
Idle cells class from i = (b : ℕ) → b < 256 → key_on cells class from i b ≡ 0

abbrev pub KeysAlike : List ℕ → List ℕ → ℕ → ℕ → ℕ → Type 0
KeysAlike cells class from i j = (b : ℕ) → b < 256 → key_on cells class from i b ≡ key_on cells class from j b

-- rows i and j are together, and on each byte go to classes of one key
pub record Alike (cells class : List ℕ) (from i j : ℕ) : Type 0 where
  pub together : get_or class i 0 ≡ get_or class j 0
  pub goes : KeysAlike cells class from i j

-- ---- what is asked of rows

pub record Tells (r : Bool) (cells class : List ℕ) (from i j : ℕ) : Type 0 where
  pub yes : r ≡ true → KeysAlike cells class from i j
  pub no : r ≡ false → KeysAlike cells class from i j → ⊥

-- the key of a class that waits mixed in, with the byte that leads there; 0 leaves what is mixed as it is
unfoldable pub mixed_in : ℕ → ℕ → ℕ → ℕ
mixed_in h b x = elim (eqb x 0) [ true ↦ h | false ↦ mixed h + (b * 65536 + x) ]

-- the keys that row r goes to on the bytes mixed in
unfoldable pub all_mixed : List ℕ → List ℕ → ℕ → ℕ → ℕ → List ℕ → ℕ
all_mixed cells class from r h [] = h
all_mixed cells class from r h (b ∷ bs) = all_mixed cells class from r (mixed_in h b (key_on cells class from r b)) bs

-- the bucket of row r: by its keys and its class
unfoldable pub bucket_of : List ℕ → List ℕ → ℕ → List ℕ → ℕ → ℕ
bucket_of cells class from bytes r = bucket_for (mixed (all_mixed cells class from r 0 bytes) + get_or class r 0)

-- a bucket is told exactly if row r goes to a class that waits, and is that of the rows that go as row r
abbrev pub Bucket : Option ℕ → List ℕ → List ℕ → ℕ → List ℕ → ℕ → Type 0
Bucket None cells class from bytes r = Idle cells class from r
Bucket (Some b) cells class from bytes r = (Idle cells class from r → ⊥) × (b < buckets) × ((q : ℕ) → Alike cells class from q r → bucket_of cells class from bytes q ≡ b)

-- whether row r goes to a class that waits
pub record Busy (any : Bool) (cells class : List ℕ) (from r : ℕ) : Type 0 where
  pub yes : any ≡ true → Idle cells class from r → ⊥
  pub no : any ≡ false → Idle cells class from r

-- the bucket of row r, which is that of the rows that go as row r
pub record BucketOf (b : ℕ) (cells class : List ℕ) (from : ℕ) (bytes : List ℕ) (r : ℕ) : Type 0 where
  pub low : b < buckets
  pub is : b ≡ bucket_of cells class from bytes r
  pub alike : (q : ℕ) → Alike cells class from q r → bucket_of cells class from bytes q ≡ b
