use Prim.Native.Nat.{◌-◌}
use lib.ListN.{length}
use Rattle.readings.proofs.LineLaws.{Copied}
use Rattle.readings.proofs.unwritten.Given as goal

-- `unwritten`
abbrev pub invariant-loop-at : goal.invariant-loop-at
invariant-loop-at l = Copied l.line l.pattern l.at l.n

abbrev pub decreases-loop-at : goal.decreases-loop-at
decreases-loop-at l = length l.line - l.at
