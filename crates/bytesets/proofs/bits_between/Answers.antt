use Prim.Native.Nat.{◌+◌, ◌-◌, min}
use native.Mathlib.Omega.{arith}
use lib.Pow.{pow_mono}
use Rattle.bytesets.proofs.ByteSetLaws.{word-range}
use Rattle.bytesets.proofs.bits_between.Goals as goal

-- `bits_between`
pub overflow_sub-result : goal.overflow_sub-result
overflow_sub-result c = let lo = c.args.lo in let hi = c.args.hi in let first = c.args.first in
    rw (c.bits_below.ensures, c.saturating_sub.ensures, c.bits_below-2.ensures, c.saturating_sub-2.ensures)
    (omega (arith, pow_mono {i = min (lo - first) 64} {j = min (hi + 1 - first) 64} (omega (arith, c.requires))))

pub returns : goal.returns
returns c = λ j l. rw (c.bits_below.ensures, c.saturating_sub.ensures, c.bits_below-2.ensures, c.saturating_sub-2.ensures) (word-range c.args.lo c.args.hi c.args.first c.requires j l)
