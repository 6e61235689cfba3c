use mathlib.Core.Path.{◌≡◌}
use Prim.Native.Nat.{◌-◌, ◌^◌, ◌<◌}
use lib.ListN.{length}
use Rattle.nodesets.specs.NodeSets.{mask_of}
use Rattle.rules.specs.SetRows.{crosses}
use Rattle.closing.specs.Closing.{ways_of, Onward}
use Rattle.closing.proofs.Sweeps.{OrNode}
use Rattle.closing.proofs.Crossed.follow.Given as goal

abbrev pub invariant-loop-a : goal.invariant-loop-a
invariant-loop-a l = record {
  set_long : length l.set ≡ length l.initial.set;
  pending_long : length l.pending ≡ length l.initial.set;
  node : l.u.0 < length l.self.nodes.now;
  onward : Onward (crosses l.self.head l.self.tail) (ways_of l.self.nodes.now) (length l.self.nodes.now)
      (OrNode (mask_of l.initial.pending) l.initial.u.0) (mask_of l.initial.set) (mask_of l.initial.pending) l.at
      (OrNode (mask_of l.pending) l.u.0) (mask_of l.set) (mask_of l.pending) l.i;
}

abbrev pub decreases-loop-a : goal.decreases-loop-a
decreases-loop-a l = 2 ^ length l.self.nodes.now - mask_of l.set
