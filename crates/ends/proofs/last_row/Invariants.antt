use Prim.Native.Nat.{◌-◌, ◌≤◌}
use Rattle.table.specs.Lent.{lent_table}
use Rattle.ends.specs.Readings.{LeadsOn}
use Rattle.ends.proofs.last_row.Given as goal

abbrev pub invariant-loop-p : goal.invariant-loop-p
invariant-loop-p l = (l.p ≤ l.n) × LeadsOn (lent_table l.checked.table) l.checked.text.now l.checked.table.head.0 0 l.q.0 l.p

abbrev pub decreases-loop-p : goal.decreases-loop-p
decreases-loop-p l = l.n - l.p
