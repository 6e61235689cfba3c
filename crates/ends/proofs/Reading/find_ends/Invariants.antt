use Rattle.table.specs.Lent.{lent_table}
use Rattle.ends.specs.Readings.{FindsOn}
use Rattle.ends.proofs.ReadingLaws.{at}
use Rattle.ends.proofs.Reading.find_ends.Given as goal

abbrev pub invariant-loop-p : goal.invariant-loop-p
invariant-loop-p l = FindsOn (lent_table l.checked.table) l.checked.text.now l.fn.self (at l.row l.p l.found)
