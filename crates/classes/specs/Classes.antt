-- The parts of a class.
use Rattle.std.specs.Prelude.{List, [], ◌∷◌, ℕ, leb, length, Some, None}
use Rattle.std.proofs.Math.Option.{Option, none, some}
use Rattle.rules.specs.Tools.{◌>>=◌, guard, if_some, range, with_all}
use Rattle.rules.specs.Signs.{named}
use Rattle.rules.specs.Reader.{past, named_class, member, item, items}
use Rattle.bytesets.specs.ByteSets.{bytes_of}
use Rattle.bytesets.specs.declared.ByteSet.{ByteSet}

-- the bytes so far, and the place after what was read
abbrev pub class_of : Rattle.std.specs.Prelude.Option (ByteSet × ℕ) → Option (ℕ × ℕ)
class_of (Some x) = some (bytes_of x.0, x.1)
class_of None = none

-- the bytes that are found, added to the set B
abbrev pub added_to : ℕ → Option (List ℕ × List ℕ) → Option (ℕ × List ℕ)
added_to B o = o >>= λ (bs, u). some (with_all B bs, u)

-- after the member lo: a range up to another member, or lo alone
abbrev pub range_from : ℕ → List ℕ → Option (List ℕ × List ℕ)
range_from lo u = if_some (past 45 u) (λ v. member v >>= λ (hi, x). guard (leb lo hi) (range lo hi, x)) (some (lo ∷ [], u))

abbrev pub with_name : ℕ → List ℕ → Option (ℕ × List ℕ)
with_name B s = added_to B (named_class named s)

abbrev pub with_range : ℕ → ℕ → List ℕ → Option (ℕ × List ℕ)
with_range lo B s = added_to B (range_from lo s)

abbrev pub with_item : ℕ → List ℕ → Option (ℕ × List ℕ)
with_item B s = added_to B (item s)

abbrev pub all_items : List ℕ → Option (ℕ × List ℕ)
all_items s = items (length s) 0 s
