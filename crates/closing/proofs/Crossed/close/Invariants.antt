use mathlib.Core.Path.{◌≡◌}
use Prim.Native.Nat.{◌^◌, ◌≤◌, ◌<◌}
use lib.Dec.{T}
use lib.ListN.{length}
use Rattle.rules.specs.Tools.{has}
use Rattle.nodesets.specs.NodeSets.{mask_of}
use Rattle.rules.specs.SetRows.{crosses}
use Rattle.closing.specs.Closing.{ways_of, closing_of, Full, Sweep, left}
use Rattle.closing.proofs.Crossed.close.Given as goal

abbrev pub invariant-loop-i : goal.invariant-loop-i
invariant-loop-i l = record {
  set_long : length l.set ≡ length l.initial.set;
  pending_long : length l.pending ≡ length l.initial.set;
  within : l.i ≤ length l.initial.set;
  set_small : mask_of l.set < 2 ^ length l.self.nodes.now;
  pending_small : mask_of l.pending < 2 ^ length l.self.nodes.now;
  full : Full (crosses l.self.head l.self.tail) (ways_of l.self.nodes.now) (closing_of l.self.head l.self.tail l.self.nodes.now (mask_of l.initial.set));
  sweep : Sweep (crosses l.self.head l.self.tail) (ways_of l.self.nodes.now) (mask_of l.initial.set)
      (closing_of l.self.head l.self.tail l.self.nodes.now (mask_of l.initial.set)) (λ v. T (has (mask_of l.pending) v)) (mask_of l.set) (mask_of l.pending) l.i;
}

abbrev pub decreases-loop-i : goal.decreases-loop-i
decreases-loop-i l = left (length l.self.nodes.now) (length l.initial.set) (mask_of l.set) (mask_of l.pending) l.i
