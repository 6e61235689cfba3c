use native.Mathlib.Omega.{arith}
use Rattle.known.proofs.Mixed.{mixed-first, mixed-more, mixed-end}
use Rattle.known.proofs.mix_all.Goals as goal

pub loop-i-init : goal.loop-i-init
loop-i-init c =
    mixed-first c.args.words.now c.requires.1

pub loop-i-preserved : goal.loop-i-preserved
loop-i-preserved c =
    mixed-more c.args.words.now c.loop-i.i c.loop-i.h (omega (arith, c.requires.1.high)) c.mix_in-h.ensures c.loop-i.invariant

pub returns : goal.returns
returns c =
    mixed-end c.args.words.now c.loop-i.i c.loop-i.h c.requires.1 (omega arith) c.loop-i.invariant
