use native.Mathlib.Omega.{arith}
use Rattle.leads.proofs.LeadLaws.{touched-more}
use Rattle.leads.proofs.touched.touch.Goals as goal

pub loop-p-preserved : goal.loop-p-preserved
loop-p-preserved c =
    touched-more c.args.order.now c.args.preds.now c.loop-p.set c.args.from c.loop-p.p (omega arith) c.put_all.auto.set c.put_all.ensures c.loop-p.invariant.0 c.loop-p.invariant.1
