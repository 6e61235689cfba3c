use native.Mathlib.Omega.{arith}
use Rattle.keys.proofs.KeyLaws.{alike_all}
use Rattle.keys.proofs.Keys.alike.Goals as goal

pub returns : goal.returns
returns c = alike_all c.args.self.now.class.now c.args.self.now.from c.args.self.now.columns (omega arith) (omega arith) (omega arith) c.loop-b.invariant
