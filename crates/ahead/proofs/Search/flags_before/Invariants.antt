use mathlib.Core.Path.{◌≡◌}
use mathlib.Core.Bool.{false}
use Prim.Native.Nat.{ℕ, ◌<◌}
use lib.ListN.{length, get_or, drop}
use Rattle.table.specs.Lent.{lent_table}
use Rattle.ahead.specs.Ahead.{ahead}
use Rattle.ahead.proofs.AheadLaws.{Rest}
use Rattle.ahead.proofs.Search.flags_before.Given as goal

-- the flags below q are what walks found, and from q on none is set
abbrev pub invariant-loop-q : goal.invariant-loop-q
invariant-loop-q l = record {
  long : length l.earlier ≡ 1024;
  made : (k : ℕ) → k < l.q → get_or l.earlier k false ≡ ahead (lent_table l.self.table) k (drop l.from l.self.text.now);
  rest : Rest l.earlier l.q;
}
