use borrow.Author.Rules.{rules}
use mathlib.Core.Path.{refl}
use native.Mathlib.Omega.{arith}
use Rattle.nodesets.proofs.NodeSetLaws.{agree_same, agree-set}
use Rattle.nodesets.proofs.copy.Goals as goal

pub loop-i-init : goal.loop-i-init
loop-i-init c = λ j l. absurd (omega arith)

pub loop-i-preserved : goal.loop-i-preserved
loop-i-preserved c = agree-set c.loop-i.out c.args.set.now c.loop-i.i _ (search rules) refl c.loop-i.invariant

pub returns : goal.returns
returns c = agree_same c.loop-i.out c.args.set.now (search rules) (λ j l. c.loop-i.invariant j (omega arith))
