use mathlib.Core.Path.{sym, ◌∙◌}
use native.Mathlib.Omega.{arith}
use Rattle.round.proofs.MemberLaws.{none-past}
use Rattle.round.proofs.members.next_in.Goals as goal

pub loop-r-preserved : goal.loop-r-preserved
loop-r-preserved c = record {
  least = omega (arith, c.past-r.ensures.later);
  none = none-past c.args.set.now c.loop-r.invariant.none (sym c.test.ensures ∙ c.if-test.false) c.past-r.ensures;
}
