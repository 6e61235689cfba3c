use native.Mathlib.Omega.{arith}
use Rattle.table.proofs.CheckLaws.{well}
use Rattle.ends.proofs.ReadingLaws.{stretch_length, leads-more, leads-at}
use Rattle.ends.proofs.read_on.Goals as goal

pub step-row-requires : goal.step-row-requires
step-row-requires c = let g = well c.args.checked.now.passed in
    omega arith

pub loop-byte-preserved : goal.loop-byte-preserved
loop-byte-preserved c = let C = c.args.checked.now in
    leads-more c.args.from c.args.to _ c.loop-byte.invariant (well C.passed) (omega arith) c.loop-byte-test.true (C.passed.bytes _) c.step-row.ensures

pub returns : goal.returns
returns c = leads-at c.loop-byte.invariant (omega (arith, stretch_length c.args.checked.now.text.now c.args.from c.args.to (omega arith)))
