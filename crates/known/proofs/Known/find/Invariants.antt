use Rattle.known.proofs.Buckets.{Sought}
use Rattle.known.proofs.Known.find.Given as goal

abbrev pub invariant-loop-r : goal.invariant-loop-r
invariant-loop-r l = Sought l.sets l.words l.self.rows l.r

abbrev pub decreases-loop-r : goal.decreases-loop-r
decreases-loop-r l = l.r
