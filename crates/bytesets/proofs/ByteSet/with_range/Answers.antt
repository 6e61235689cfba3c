use native.Mathlib.Omega.{arith}
use Rattle.bytesets.proofs.ByteSetLaws.{words-added}
use Rattle.bytesets.proofs.ByteSet.with_range.Goals as goal

-- `with_range`
pub returns : goal.returns
returns c = let s = c.args.self in
    words-added c.args.lo c.args.hi c.requires (omega arith) s.0 s.1 s.2 s.3
    c.bits_between.result c.bits_between-2.result c.bits_between-3.result c.bits_between-4.result
    (omega arith) (omega arith) (omega arith) (omega arith) (omega arith) (omega arith) (omega arith) (omega arith)
    c.bits_between.ensures c.bits_between-2.ensures c.bits_between-3.ensures c.bits_between-4.ensures
