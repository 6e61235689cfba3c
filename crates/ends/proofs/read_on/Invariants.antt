use Prim.Native.Nat.{◌+◌}
use Rattle.table.specs.Lent.{lent_table}
use Rattle.ends.specs.Readings.{LeadsOn}
use Rattle.ends.proofs.read_on.Given as goal

abbrev pub invariant-loop-byte : goal.invariant-loop-byte
invariant-loop-byte l = LeadsOn (lent_table l.checked.table) l.checked.text.now l.fn.q.0 l.from l.row.0 (l.from + l.byte-index)
