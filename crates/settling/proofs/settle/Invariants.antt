use Prim.Native.Nat.{◌-◌}
use lib.ListN.{length}
use Rattle.settling.proofs.RoundsLaws.{Rounds}
use Rattle.settling.proofs.settle.Given as goal

abbrev pub invariant-loop-from : goal.invariant-loop-from
invariant-loop-from l = Rounds l.paths l.fn.classes l.classes l.fn.groups l.groups l.firsts l.links l.touched l.total l.from

abbrev pub decreases-loop-from : goal.decreases-loop-from
decreases-loop-from l = length l.fn.classes.order.now - l.from
