use mathlib.Core.Path.{◌≡◌}
use Prim.Native.Nat.{ℕ, ◌<◌}
use lib.ListN.{get_or, drop}
use Rattle.keys.specs.Keys.{all_mixed}
use Rattle.keys.proofs.KeyLaws.{Seen}
use Rattle.keys.proofs.Keys.mixed.Given as goal

abbrev pub invariant-loop-b : goal.invariant-loop-b
invariant-loop-b l = record {
  mixed : all_mixed l.self.cells.now l.self.class.now l.self.from l.r l.h (drop l.b-index l.self.bytes.now) ≡ all_mixed l.self.cells.now l.self.class.now l.self.from l.r 0 l.self.bytes.now;
  bytes : (k : ℕ) → k < l.b-index → get_or l.self.bytes.now k 0 < 256;
  seen : Seen l.any l.self.cells.now l.self.class.now l.self.from l.self.bytes.now l.r l.b-index;
}
