use mathlib.Core.Path.{◌≡◌, subst}
use Prim.Native.Nat.{ℕ}
use native.Mathlib.Omega.{arith}
use Rattle.leads.specs.Leads.{Leads, Grown}
use Rattle.leads.proofs.LeadLaws.{listing-more, put-grown}
use Rattle.leads.proofs.preds.list_row.Goals as goal

pub loop-b-preserved : goal.loop-b-preserved
loop-b-preserved c =
    let t = c.goes_to-t in
    let down : Grown c.loop-b.preds c.put.new.set × Leads c.put.new.set t.result c.args.i = put-grown c.loop-b.preds t.result c.args.i (omega arith) c.put.ensures in
    record {
      listing = listing-more c.loop-b.invariant.listing t.ensures.1 down.0 down.1;
      last = λ u e. let same : t.result ≡ u = cc in subst (λ (x : ℕ). Leads c.put.new.set x c.args.i) same down.1;
    }
