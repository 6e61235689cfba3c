use native.Mathlib.Omega.{arith}
use Rattle.known.proofs.Buckets.{told-apart}
use Rattle.known.proofs.has_set.Goals as goal

pub returns-then-sets-at : goal.returns-then-sets-at
returns-then-sets-at c =
    told-apart c.args.sets.now c.args.r c.args.words.now c.args.i (omega arith) c.if-sets-at.true
