use native.Mathlib.Omega.{arith}
use Rattle.nodesets.proofs.NodeSetLaws.{again-first, again-more, again-end}
use Rattle.nodesets.proofs.meet_again.Goals as goal

pub loop-i-init : goal.loop-i-init
loop-i-init c = again-first c.args.out.now c.args.a.now c.args.b.now c.requires.1.1.0 c.requires.1.1.1

pub loop-i-preserved : goal.loop-i-preserved
loop-i-preserved c = again-more c.args.out.now c.args.a.now c.args.b.now c.loop-i.invariant (omega (arith, c.requires.0, c.requires.1.1.0.high))

pub returns : goal.returns
returns c = again-end c.args.out.now c.args.a.now c.args.b.now c.loop-i.invariant c.requires.0 c.requires.1.0 (omega arith) c.requires.1.1.0 c.requires.1.1.1
