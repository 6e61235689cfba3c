-- What trying each start says: the first start, or a place that no start lies below.
use Rattle.std.specs.Prelude.{◌≡◌, true, List, ℕ, ◌+◌, ◌≤◌, length}
use Rattle.rules.specs.Table.{Table, first}
use Rattle.first.specs.declared.tries.Tried.{Tried}
use Rattle.first.specs.declared.tries.Tried.TheVariants.{Start, NoneBelow}
use Rattle.ahead.specs.Ahead.{is_start}
use Rattle.passing.specs.Run.{first_from}

abbrev pub Tries : Table → List ℕ → Tried → Type 0
Tries w t (Start s) = (first w t ≡ first_from w t s) × ((s ≤ length t) × (is_start w t s ≡ true))
Tries w t (NoneBelow s) = (first w t ≡ first_from w t s) × (s ≤ length t + 1)
