use Prim.Native.Nat.{◌-◌}
use Rattle.table.specs.Lent.{lent_table}
use Rattle.ends.specs.Readings.{FindsOn}
use Rattle.ends.proofs.Reading.find_most.Given as goal

abbrev pub invariant-loop-read : goal.invariant-loop-read
invariant-loop-read l = FindsOn (lent_table l.checked.table) l.checked.text.now l.fn.self l.read

abbrev pub decreases-loop-read : goal.decreases-loop-read
decreases-loop-read l = l.n - l.read.at
