use mathlib.Core.Path.{◌≡◌}
use Prim.Native.Nat.{ℕ, ◌≤◌}
use lib.ListN.{get_or}
use Rattle.nodesets.proofs.used_end.Given as goal

abbrev pub invariant-loop-i : goal.invariant-loop-i
invariant-loop-i l = (l.from ≤ l.i) × ((j : ℕ) → l.i ≤ j → get_or l.set j 0 ≡ 0)
