use native.Mathlib.Omega.{arith}
use Rattle.nodesets.proofs.NodeSetLaws.{apart_more, same_test}
use Rattle.nodesets.proofs.same.Goals as goal

pub loop-i-preserved : goal.loop-i-preserved
loop-i-preserved c = apart_more c.args.a.now c.args.b.now c.loop-i.i c.loop-i.apart c.loop-i.invariant

pub returns : goal.returns
returns c = same_test c.args.a.now c.args.b.now c.loop-i.apart c.loop-i.i c.requires (omega arith) c.loop-i.invariant
