-- What is lent, as a table of the rules.
use Rattle.std.specs.Prelude.{List, ℕ}
use Rattle.rules.specs.Table.{Table}
use Rattle.table.specs.declared.Lent.{Lent}

abbrev pub table_of : ℕ → ℕ → List ℕ → List ℕ → Table
table_of rows head marks cells = record { count = rows; head = head; marks = marks; cells = cells }

abbrev pub lent_table : Lent → Table
lent_table t = table_of t.rows t.head.0 t.marks.now t.cells.now
