-- Rows in groups, and groups in buckets, in lists that are lent.
use Rattle.std.specs.Prelude.{◌≡◌, Option, Some, List, ℕ, length}
use Rattle.keys.specs.Keys.{Bucket}
use Rattle.keys.specs.declared.Keys.{Keys}
use Rattle.chains.specs.Lent.{RoomFor}
use Rattle.chains.specs.declared.Groups.{Groups}
use Rattle.round.specs.Groups.{Book, Firsts, Sought, Filed, Passed, Sorted}
use Rattle.round.specs.declared.Buckets.{Buckets}

-- the lists that are lent stay the same ones
abbrev pub SameLists : Buckets → Buckets → Type 0
SameLists old new = (new.firsts.ghost_name ≡ old.firsts.ghost_name) × (new.heads.ghost_name ≡ old.heads.ghost_name) × (new.links.ghost_name ≡ old.links.ghost_name)

-- row r goes to a class that waits, and this is its bucket
abbrev pub Bucket_in : Keys → ℕ → ℕ → Type 0
Bucket_in keys bucket r = Bucket (Some bucket) keys.cells.now keys.class.now keys.from keys.bytes.now r

abbrev pub Book_in : Keys → Buckets → Type 0
Book_in keys b = Book keys.cells.now keys.class.now keys.bytes.now b.firsts.now b.heads.now b.links.now keys.from b.many

abbrev pub Firsts_in : Keys → Buckets → Type 0
Firsts_in keys b = Firsts keys.class.now b.firsts.now b.links.now b.many

abbrev pub Sought_in : Option ℕ → Keys → Buckets → ℕ → Type 0
Sought_in found keys b r = Sought found keys.cells.now keys.class.now b.firsts.now keys.from b.many r

-- rows before row r in groups, in lists with room for all rows
pub record Filed_in (keys : Keys) (groups : Groups) (b : Buckets) (r : ℕ) : Type 0 where
  pub room : RoomFor groups (length keys.class.now)
  pub filed : Filed keys.cells.now keys.class.now keys.bytes.now groups.seen.now groups.prior.now groups.last.now b.firsts.now b.heads.now b.links.now keys.from b.rows b.many r

abbrev pub Passed_in : Keys → List ℕ → List ℕ → Groups → Buckets → ℕ → Type 0
Passed_in keys start end groups b r = Passed keys.cells.now keys.class.now start end groups.seen.now keys.from b.rows r

abbrev pub Sorted_in : Keys → List ℕ → List ℕ → Groups → ℕ → Type 0
Sorted_in keys start end groups many = Sorted keys.cells.now keys.class.now start end groups.seen.now groups.prior.now groups.last.now keys.from many
