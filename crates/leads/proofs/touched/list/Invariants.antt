use Rattle.leads.specs.Leads.{TouchedAll}
use Rattle.leads.proofs.touched.list.Given as goal

abbrev pub invariant-loop-z : goal.invariant-loop-z
invariant-loop-z l = TouchedAll l.order l.start l.end l.preds l.set l.from l.z
