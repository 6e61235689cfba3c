use mathlib.Core.Path.{◌≡◌}
use mathlib.Core.Bool.{true, false}
use Prim.Native.Nat.{ℕ, ◌<◌}
use lib.ListN.{length, get_or}
use Rattle.rules.specs.Table.{fits}
use Rattle.table.specs.Lent.{lent_table}
use Rattle.ahead.specs.Ahead.{mark}
use Rattle.ahead.proofs.AheadLaws.{Rest}
use Rattle.ahead.proofs.flags_at_end.Given as goal

-- the flags below q are made, and from q on none is set
abbrev pub invariant-loop-q : goal.invariant-loop-q
invariant-loop-q l = record {
  long : length l.flags ≡ 1024;
  made : (k : ℕ) → k < l.q → get_or l.flags k false ≡ fits (mark (lent_table l.table) k) true;
  rest : Rest l.flags l.q;
}
