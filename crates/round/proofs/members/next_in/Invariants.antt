use mathlib.Core.Path.{◌≡◌}
use mathlib.Core.Bool.{false}
use Prim.Native.Nat.{ℕ, ◌-◌, ◌≤◌, ◌<◌}
use Rattle.sets.specs.Sets.{member}
use Rattle.round.proofs.members.next_in.Given as goal

abbrev pub invariant-loop-r : goal.invariant-loop-r
invariant-loop-r l = record { least : l.from ≤ l.r; none : (j : ℕ) → l.from ≤ j → j < l.r → member l.set j ≡ false }

abbrev pub decreases-loop-r : goal.decreases-loop-r
decreases-loop-r l = l.n - l.r
