use native.Mathlib.Omega.{arith}
use Rattle.stretches.proofs.StretchLaws.{many-few}
use Rattle.settling.proofs.RoundsLaws.{next-round, all_settled}
use Rattle.settling.proofs.settle.Goals as goal

pub loop-from-smaller : goal.loop-from-smaller
loop-from-smaller c = omega (arith, many-few c.loop-from.invariant.standing.stretches, c.loop-from-test.true)

pub loop-from-preserved : goal.loop-from-preserved
loop-from-preserved c =
    let N = c.cut_round-next in
    next-round c.loop-from.invariant c.loop-from-test.true N.ensures.same_lists N.ensures.room N.auto.firsts N.auto.links N.auto.touched N.ensures.stands N.ensures.refined

pub returns-clause-settled : goal.returns-clause-settled
returns-clause-settled c = all_settled c.loop-from.invariant (omega arith)
