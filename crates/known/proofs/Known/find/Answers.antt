use mathlib.Core.Path.{refl}
use native.Mathlib.Omega.{arith}
use Rattle.known.proofs.Buckets.{sought-none, sought-row, sought-at, sought-next}
use Rattle.known.proofs.Known.find.Goals as goal

pub loop-r-preserved : goal.loop-r-preserved
loop-r-preserved c =
    let args = c.args in
    let other = (sought-at args.sets.now c.loop-r.r args.words.now c.has_set.ensures).1 c.if-has_set.false in
    (sought-next c.loop-r.invariant args.self.now.nexts c.requires.0.links c.if-r-eq0.false refl other).1

pub returns-then-r-eq0 : goal.returns-then-r-eq0
returns-then-r-eq0 c =
    let B = c.requires.0 in
    sought-none c.loop-r.invariant c.if-r-eq0.true (omega (arith, B.fits, B.long)) c.requires.1.0 (λ i. omega (arith, c.type_inv.sets i)) (λ i. omega (arith, c.type_inv.words i))

pub returns-then-has_set : goal.returns-then-has_set
returns-then-has_set c =
    let args = c.args in
    let R = sought-row c.loop-r.invariant c.if-r-eq0.false in
    (R.0, R.1, (sought-at args.sets.now c.loop-r.r args.words.now c.has_set.ensures).0 c.if-has_set.true)
