use mathlib.Core.Path.{sym, ap, ◌∙◌}
use native.Mathlib.Omega.{arith}
use Rattle.rules.specs.Answers.{given}
use Rattle.writing.proofs.Answered.{whole-written}
use Rattle.draw.proofs.GraphLaws.{graph-given}
use Rattle.draw.proofs.graph_whole.Goals as goal

pub returns : goal.returns
returns c =
    let g = graph-given c.args.input.now in
    let x = whole-written c.args.out.now c.graph.new.out g.text (omega (arith, g.short)) c.graph.result (rw g.is at c.graph.ensures) c.whole_length.ensures in
    record { out_after = ap given x.0 ∙ sym g.is; prefix_len = x.1 }
