use Rattle.round.proofs.GroupLaws.{Seek}
use Rattle.round.proofs.Buckets.find.Given as goal

abbrev pub invariant-loop-x : goal.invariant-loop-x
invariant-loop-x l = Seek l.keys.cells.now l.keys.class.now l.keys.bytes.now l.self.firsts.now l.keys.from l.self.many l.r l.bucket l.x

abbrev pub decreases-loop-x : goal.decreases-loop-x
decreases-loop-x l = l.x
