use native.Mathlib.Omega.{arith}
use lib.Count.{trailing_le}
use Rattle.round.proofs.MemberLaws.{after, past-none, past-some}
use Rattle.round.proofs.members.past.Goals as goal

pub returns-then-after-eq0 : goal.returns-then-after-eq0
returns-then-after-eq0 c = past-none c.args.word c.args.r c.if-after-eq0.true

pub overflow_cast-result : goal.overflow_cast-result
overflow_cast-result c = omega (arith, trailing_le 64 (after c.args.word c.args.r))

pub overflow_add-result-3 : goal.overflow_add-result-3
overflow_add-result-3 c = omega (arith, c.requires, trailing_le 64 (after c.args.word c.args.r))

pub returns : goal.returns
returns c = past-some c.args.word c.args.r c.if-after-eq0.false (omega arith)
