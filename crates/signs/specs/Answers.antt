-- What the readers of escapes, counts and classes answer: a value and the place after it, or none.
use Rattle.std.specs.Prelude.{◌≡◌, Bool, true, List, [], ◌∷◌, ℕ, ◌+◌, ◌≤◌, ◌<◌, length, drop, Some, None}
use Rattle.std.proofs.Math.Option.{Option, none, some}
use Rattle.rules.specs.Tools.{guard}
use Rattle.rules.specs.Reader.{past}
use Rattle.rules.specs.Tree as rules
use Rattle.signs.specs.declared.count.Repeat.{Repeat}
use Rattle.signs.specs.declared.count.Repeat.TheVariants.{Star, Plus, Maybe, Times, AtLeast}

-- what may be missing
abbrev pub value_of : {A : Type 0} → Rattle.std.specs.Prelude.Option A → Option A
value_of (Some x) = some x
value_of None = none

abbrev pub repeat_of : Repeat → rules.Repeat
repeat_of Star = rules.star
repeat_of Plus = rules.plus
repeat_of Maybe = rules.maybe
repeat_of (Times m more) = rules.times m more
repeat_of (AtLeast m) = rules.at_least m

-- a repeat sign and the place after it
abbrev pub count_of : Rattle.std.specs.Prelude.Option (Repeat × ℕ) → Option (rules.Repeat × ℕ)
count_of (Some x) = some (repeat_of x.0, x.1)
count_of None = none

-- the place after what was read is at least k on, and not past the end
abbrev pub Moves : {A : Type 0} → ℕ → List ℕ → ℕ → Option (A × ℕ) → Type 0
Moves k p at none = Unit {0}
Moves k p at (some x) = (at + k ≤ x.1) × (x.1 ≤ length p)

-- the bytes after it, for the place after it
abbrev pub left_of : {A : Type 0} → List ℕ → Option (A × ℕ) → Option (A × List ℕ)
left_of p none = none
left_of p (some x) = some (x.0, drop x.1 p)

-- what the first byte has, if there is one
abbrev pub first_of : (ℕ → Option ℕ) → List ℕ → Option ℕ
first_of f [] = none
first_of f (c ∷ s) = f c

-- r says whether the byte c stands at the place `at` of p
pub record Found (c : ℕ) (p : List ℕ) (at : ℕ) (r : Bool) : Type 0 where
  pub is : guard r (drop (at + 1) p) ≡ past c (drop at p)
  pub within : r ≡ true → at < length p

-- r is what f finds in p from the place `at` on, where it takes at least k bytes
pub record Reads {A : Type 0} (k : ℕ) (f : List ℕ → Option (A × List ℕ)) (p : List ℕ) (at : ℕ) (r : Option (A × ℕ)) : Type 0 where
  pub is : left_of p r ≡ f (drop at p)
  pub moves : Moves k p at r
