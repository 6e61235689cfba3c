use native.Mathlib.Omega.{arith}
use Rattle.known.proofs.Mixed.{bucket-none, bucket-some}
use Rattle.known.proofs.bucket.Goals as goal

pub returns-then-h-eq0 : goal.returns-then-h-eq0
returns-then-h-eq0 c =
    (bucket-none c.args.words.now c.mix_all-h.ensures c.if-h-eq0.true, omega arith)

pub returns : goal.returns
returns c =
    (bucket-some c.args.words.now c.mix_all-h.ensures c.if-h-eq0.false c.bucket_of.ensures.0, omega (arith, c.bucket_of.ensures.1))
