use native.Mathlib.Omega.{arith}
use Rattle.leads.proofs.LeadLaws.{all_more}
use Rattle.leads.proofs.touched.list.Goals as goal

pub loop-z-preserved : goal.loop-z-preserved
loop-z-preserved c =
    all_more c.args.order.now c.args.start.now c.args.end.now c.args.preds.now c.args.from c.loop-z.z c.touch.ensures.0 c.touch.ensures.1 c.loop-z.invariant

pub returns : goal.returns
returns c = λ z lo hi. c.loop-z.invariant z lo (omega arith)
