use mathlib.Core.Path.{sym, ◌∙◌}
use borrow.Author.Tests.{not-true, not-false}
use Rattle.findings.proofs.TableTest.{counts-apart, heads-apart, marks-apart, cells_left}
use Rattle.findings.proofs.tables.same_table.Goals as goal
use Rattle.findings.proofs.tables.same_table.Goals.{then-table-other-via-then-table-other, then-table-other-via-else-table-other+then-ne}

pub returns-then-table-other : goal.returns-then-table-other
returns-then-table-other c =
    elim c.then-table-other.branch [
      | then-table-other-via-then-table-other w ↦ sym (counts-apart c.args.table.now c.args.other.now w.if-table-other.true)
      | then-table-other-via-else-table-other+then-ne w ↦ sym (heads-apart c.args.table.now c.args.other.now w.if-table-other.false (not-true _ (sym w.ne.ensures ∙ w.if-ne.true)))
    ]

pub returns-then-eq : goal.returns-then-eq
returns-then-eq c =
    c.eq-then-eq.ensures
    ∙ sym (cells_left c.args.table.now c.args.other.now c.if-table-other.false (not-false _ (sym c.ne.ensures ∙ c.if-ne.false)) (sym c.eq.ensures ∙ c.if-eq.true))

pub returns-else-eq : goal.returns-else-eq
returns-else-eq c =
    c.if-eq.false
    ∙ sym (marks-apart c.args.table.now c.args.other.now c.if-table-other.false (not-false _ (sym c.ne.ensures ∙ c.if-ne.false)) (sym c.eq.ensures ∙ c.if-eq.false))
