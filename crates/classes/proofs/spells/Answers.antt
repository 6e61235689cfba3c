use mathlib.Core.Path.{refl, sym, ◌∙◌}
use native.Mathlib.Omega.{arith}
use Rattle.classes.proofs.ClassLaws.{starts-on, starts-off, starts-all}
use Rattle.classes.proofs.spells.Goals as goal

pub loop-i-init : goal.loop-i-init
loop-i-init c = refl

pub returns-then-bytes-i-clause-value : goal.returns-then-bytes-i-clause-value
returns-then-bytes-i-clause-value c =
    sym (c.loop-i.invariant ∙ starts-off c.args.bytes.now c.args.name.now c.loop-i.i (omega arith) (omega arith) c.if-bytes-i.true)

pub loop-i-preserved : goal.loop-i-preserved
loop-i-preserved c =
    c.loop-i.invariant ∙ starts-on c.args.bytes.now c.args.name.now c.loop-i.i (omega arith) (omega arith) c.if-bytes-i.false

pub returns-clause-value : goal.returns-clause-value
returns-clause-value c =
    sym (c.loop-i.invariant ∙ starts-all c.args.bytes.now c.args.name.now c.loop-i.i (omega arith))
