use mathlib.Core.List.{map}
use Rattle.rules.specs.Tools.{up_from, flat}
use Rattle.table.specs.Lent.{lent_table}
use Rattle.writing.specs.Writing.{Puts}
use Rattle.dot.specs.Dot.{row_dot}
use Rattle.dot.proofs.put_rows.Given as goal

abbrev pub invariant-loop-q : goal.invariant-loop-q
invariant-loop-q l = Puts l.initial.page (flat (map (row_dot (lent_table l.table)) (up_from 0 l.q))) l.page
