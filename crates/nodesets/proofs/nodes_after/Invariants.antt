use mathlib.Core.Path.{◌≡◌}
use mathlib.Core.List.{◌++◌}
use Prim.Native.Nat.{◌<◌}
use lib.ListN.{take, drop}
use Rattle.nodesets.specs.NodeSets.{doubled}
use Rattle.nodesets.proofs.nodes_after.Given as goal

abbrev pub invariant-loop-i : goal.invariant-loop-i
invariant-loop-i l = (l.carry < 2) × (take l.i l.out ++ doubled l.carry (drop l.i l.set) ≡ doubled 0 l.set)
