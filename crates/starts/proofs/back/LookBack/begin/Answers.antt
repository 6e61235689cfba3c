use native.Mathlib.Omega.{arith}
use Rattle.table.proofs.CheckLaws.{well}
use Rattle.ahead.proofs.AheadLaws.{flags-end}
use Rattle.starts.proofs.back.LookBack.begin.Goals as goal

pub flags_at_end-requires : goal.flags_at_end-requires
flags_at_end-requires c = well c.args.search.now.passed

pub returns : goal.returns
returns c = record { come = omega arith; inside = omega arith; cheap = omega arith; flagged = flags-end c.args.search.now.text.now c.flags_at_end.ensures }
