use Rattle.leads.specs.Leads.{Grown, Touched}
use Rattle.leads.proofs.touched.touch.Given as goal

abbrev pub invariant-loop-p : goal.invariant-loop-p
invariant-loop-p l = Grown l.initial.set l.set × Touched l.order l.preds l.set l.from l.p
