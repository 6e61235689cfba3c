use native.Mathlib.Omega.{arith}
use Rattle.bytesets.proofs.ByteSetLaws.{four-has}
use Rattle.bytesets.proofs.ByteSet.has.Goals as goal

-- `has`
pub returns : goal.returns
returns c = let s = c.args.self in rw c.word.ensures (four-has s.0 s.1 s.2 s.3 c.args.byte (omega arith) (omega arith) (omega arith) (omega arith))
