use mathlib.Core.Path.{◌≡◌}
use Prim.Native.Nat.{◌+◌}
use Rattle.table.specs.Lent.{lent_table}
use Rattle.passing.specs.Run.{first_from, outcome, Kept}
use Rattle.passing.proofs.read_on.Given as goal

abbrev pub invariant-loop-p : goal.invariant-loop-p
invariant-loop-p l = record {
  kept : Kept l.search.table.rows l.list (l.p + 1);
  same : first_from (lent_table l.search.table) l.search.text.now l.from ≡ outcome (lent_table l.search.table) l.search.text.now l.list l.p l.p;
}
