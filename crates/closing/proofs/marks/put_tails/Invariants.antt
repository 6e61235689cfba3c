use mathlib.Core.Path.{◌≡◌}
use Prim.Native.Nat.{ℕ, ◌<◌}
use lib.Dec.{T}
use lib.ListN.{length, get_or}
use Rattle.rules.specs.Tools.{has}
use Rattle.nodesets.specs.NodeSets.{mask_of}
use Rattle.entries.specs.Entries.{kinds_of}
use Rattle.closing.proofs.marks.put_tails.Given as goal

abbrev pub invariant-loop-u : goal.invariant-loop-u
invariant-loop-u l = record {
  long : length l.set ≡ length l.initial.set;
  tails : (v : ℕ) → v < l.u → get_or (kinds_of l.nodes) v 0 ≡ 3 → T (has (mask_of l.set) v);
}
