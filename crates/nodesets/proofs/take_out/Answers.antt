use native.Mathlib.Omega.{arith}
use Rattle.nodesets.proofs.NodeSetLaws.{shifted-le, mask-out}
use Rattle.nodesets.proofs.take_out.Goals as goal

pub overflow_sub-set : goal.overflow_sub-set
overflow_sub-set c = shifted-le c.args.set.now c.args.i c.requires.0 c.requires.1.1 (omega arith)

pub returns : goal.returns
returns c = mask-out c.args.set.now c.args.i c.requires.0 c.requires.1.1 (omega arith)
