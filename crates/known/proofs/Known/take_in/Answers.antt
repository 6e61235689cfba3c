use mathlib.Core.Path.{refl}
use native.Mathlib.Omega.{arith}
use Rattle.known.proofs.Buckets.{empty-row, found-row}
use Rattle.known.proofs.Known.take_in.Goals as goal

pub returns-then-r-ne0 : goal.returns-then-r-ne0
returns-then-r-ne0 c =
    let words = c.args.words.now in
    let B = c.requires.0 in
    (refl, found-row words B (empty-row words B c.requires.1.0 (omega arith) c.bucket-k.ensures.0 c.if-r-ne0.true))
