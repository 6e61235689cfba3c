use mathlib.Core.Path.{sym, ◌∙◌}
use Rattle.writing.proofs.Writings.{join}
use Rattle.dot.proofs.DotLaws.{shape-match, shape-end, shape-plain}
use Rattle.dot.proofs.put_shape.Goals as goal

pub returns-then-ends_here : goal.returns-then-ends_here
returns-then-ends_here c = rw (shape-match c.args.q.0 c.args.mark (sym c.ends_here.ensures ∙ c.if-ends_here.true)) c.put_all.ensures

pub returns-then-ends_here-2 : goal.returns-then-ends_here-2
returns-then-ends_here-2 c =
    rw (shape-end c.args.q.0 c.args.mark (sym c.ends_here.ensures ∙ c.if-ends_here.false) (sym c.ends_here-else-ends_here.ensures ∙ c.if-ends_here-2.true))
    (join (join c.put_all-then-ends_here-2.ensures c.put_number.ensures) c.put_all-then-ends_here-2-2.ensures)

pub returns-else-ends_here-2 : goal.returns-else-ends_here-2
returns-else-ends_here-2 c =
    rw (shape-plain c.args.q.0 c.args.mark (sym c.ends_here.ensures ∙ c.if-ends_here.false) (sym c.ends_here-else-ends_here.ensures ∙ c.if-ends_here-2.false))
    c.put_all-else-ends_here-2.ensures
