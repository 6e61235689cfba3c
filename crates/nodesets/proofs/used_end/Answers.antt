use native.Mathlib.Omega.{arith}
use lib.ListN.{get_or-eq_default}
use Rattle.nodesets.proofs.NodeSetLaws.{unused-more}
use Rattle.nodesets.proofs.used_end.Goals as goal

pub loop-i-init : goal.loop-i-init
loop-i-init c = (c.requires, λ j l. get_or-eq_default c.args.set.now 0 {n = j} l)

pub loop-i-preserved : goal.loop-i-preserved
loop-i-preserved c = (omega arith, unused-more c.args.set.now c.loop-i.i (omega arith) c.if-set-i-ne0.false c.loop-i.invariant.1)
