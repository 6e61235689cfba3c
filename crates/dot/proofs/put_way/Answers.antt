use mathlib.Core.Path.{sym, ◌∙◌}
use Rattle.table.specs.Lent.{lent_table}
use Rattle.writing.specs.RunsLeft.{run_view}
use Rattle.writing.proofs.Writings.{nothing}
use Rattle.dot.proofs.DotLaws.{arrow-none, arrow-one}
use Rattle.dot.proofs.put_way.Goals as goal

pub returns-then-not-is_trap : goal.returns-then-not-is_trap
returns-then-not-is_trap c = rw (arrow-one (lent_table c.args.table.now) c.args.q.0 (run_view c.args.run) (sym c.is_trap.ensures ∙ c.if-not-is_trap.true)) c.put_arrow.ensures

pub returns-else-not-is_trap : goal.returns-else-not-is_trap
returns-else-not-is_trap c = rw (arrow-none (lent_table c.args.table.now) c.args.q.0 (run_view c.args.run) (sym c.is_trap.ensures ∙ c.if-not-is_trap.false)) nothing
