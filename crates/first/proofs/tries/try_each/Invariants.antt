use mathlib.Core.Path.{◌≡◌}
use Prim.Native.Nat.{◌*◌, ◌≤◌}
use Rattle.rules.specs.Table.{first}
use Rattle.table.specs.Lent.{lent_table}
use Rattle.passing.specs.Run.{first_from}
use Rattle.first.proofs.tries.try_each.Given as goal

abbrev pub invariant-loop-s : goal.invariant-loop-s
invariant-loop-s l = record {
  cheap : l.spent ≤ 4 * l.n;
  past : first (lent_table l.search.table) l.search.text.now ≡ first_from (lent_table l.search.table) l.search.text.now l.s;
}
