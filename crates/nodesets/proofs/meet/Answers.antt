use borrow.Author.Rules.{rules}
use mathlib.Core.Path.{sym}
use native.Mathlib.Omega.{arith}
use Rattle.nodesets.proofs.NodeSetLaws.{agree_same, agree-set, get_or-meets, length_meets}
use Rattle.nodesets.proofs.meet.Goals as goal

pub loop-i-preserved : goal.loop-i-preserved
loop-i-preserved c = agree-set c.loop-i.out _ c.loop-i.i _ (search rules) (sym (get_or-meets c.args.a.now c.args.b.now c.loop-i.i)) c.loop-i.invariant

pub returns : goal.returns
returns c = agree_same c.loop-i.out _ (search (rules, length_meets)) (λ j l. c.loop-i.invariant j (omega arith))
