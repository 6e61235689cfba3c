use Prim.Native.Nat.{ℕ, ◌<◌}
use Rattle.leads.specs.Leads.{RowListed}
use Rattle.leads.proofs.preds.list.Given as goal

abbrev pub invariant-loop-i : goal.invariant-loop-i
invariant-loop-i l = (j : ℕ) → j < l.i → RowListed l.cells l.bytes l.preds j
