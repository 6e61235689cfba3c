use mathlib.Core.Path.{◌≡◌}
use Prim.Native.Nat.{ℕ}
use Rattle.std.specs.Prelude.{Some}
use Rattle.leads.specs.Leads.{Leads}
use Rattle.leads.proofs.LeadLaws.{Listing}
use Rattle.leads.proofs.preds.list_row.Given as goal

abbrev pub invariant-loop-b : goal.invariant-loop-b
invariant-loop-b l = record {
  listing : Listing l.cells l.bytes l.initial.preds l.i l.preds l.b-index;
  last : (t : ℕ) → l.last ≡ Some t → Leads l.preds t l.i;
}
