use mathlib.Core.Path.{sym, ◌∙◌}
use Rattle.table.specs.Lent.{lent_table}
use Rattle.writing.proofs.Writings.{nothing, join}
use Rattle.dot.proofs.DotLaws.{row-none, row_one}
use Rattle.dot.proofs.put_row.Goals as goal

pub returns-then-not-is_trap : goal.returns-then-not-is_trap
returns-then-not-is_trap c =
    rw (row_one (lent_table c.args.table.now) c.args.q.0 (sym c.is_trap.ensures ∙ c.if-not-is_trap.true)) (join (join c.put_number.ensures c.put_shape.ensures) c.put_ways.ensures)

pub returns-else-not-is_trap : goal.returns-else-not-is_trap
returns-else-not-is_trap c = rw (row-none (lent_table c.args.table.now) c.args.q.0 (sym c.is_trap.ensures ∙ c.if-not-is_trap.false)) nothing
