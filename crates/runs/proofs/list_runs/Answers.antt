use mathlib.Core.Path.{sym, ◌∙◌}
use native.Mathlib.Omega.{arith}
use lib.Seq.{set-set}
use Rattle.rules.proofs.Tests.{is_false}
use Rattle.runs.proofs.Parting.{runs-next, runs-longer}
use Rattle.runs.proofs.list_runs.Goals as goal
use Rattle.runs.proofs.list_runs.Goals.{then-test, else-test}

pub loop-b-preserved : goal.loop-b-preserved
loop-b-preserved c =
    elim c.if-test.branch [
      | then-test w ↦ rw (w.starts-is, w.k-is) (runs-next c.loop-b.invariant (omega arith))
      | else-test w ↦ rw (w.starts-is, w.k-is) (rw set-set at (runs-longer c.loop-b.invariant (omega arith) (is_false _ (sym c.test.ensures ∙ w.if-test.false))))
    ]
