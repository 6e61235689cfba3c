use mathlib.Core.Path.{refl}
use Prim.Native.Nat.{ℕ}
use native.Mathlib.Omega.{arith}
use lib.ListN.{get_or-replicate}
use Rattle.table.proofs.CheckLaws.{well}
use Rattle.passing.proofs.KeptLaws.{kept_none}
use Rattle.passing.proofs.RunLaws.{outcome_none, opened-over}
use Rattle.passing.proofs.read_on.Goals as goal

pub loop-p-init : goal.loop-p-init
loop-p-init c = let g = well c.args.search.now.passed in record {
  kept = kept_none _ refl g.few-rows g.few-rows (λ q l. omega (arith, get_or-replicate {A = ℕ} 1024 q 0 0 (omega arith)));
  same = outcome_none _ _ _ _ refl refl;
}

pub returns-then-list-eq0 : goal.returns-then-list-eq0
returns-then-list-eq0 c = opened-over _ _ c.open_at.ensures c.loop-p.invariant.same c.if-list-eq0.true
