use Rattle.std.proofs.Common.{◌<◌}
use Rattle.sums.proofs.number_of.Given as goal

abbrev pub invariant-loop-digit : goal.invariant-loop-digit
invariant-loop-digit l = l.n < 10000
