use mathlib.Core.Path.{◌≡◌}
use native.Mathlib.Omega.{arith}
use Rattle.cutting.proofs.CutLaws.{still-grouped, cut-next}
use Rattle.cutting.proofs.cut_groups.Goals as goal

pub cut_group-total-requires-clause-grouped : goal.cut_group-total-requires-clause-grouped
cut_group-total-requires-clause-grouped c = (still-grouped c.loop-g.invariant c.requires.grouped, c.loop-g-test.true)

pub loop-g-preserved : goal.loop-g-preserved
loop-g-preserved c =
    let R = c.cut_group-total.ensures in
    cut-next c.loop-g.invariant c.loop-g-test.true R.same_lists R.stands R.cut_off

pub returns-clause-cut : goal.returns-clause-cut
returns-clause-cut c =
    let e : c.loop-g.g ≡ c.args.count = omega (arith, c.loop-g.invariant.few) in
    λ label rows L. rw e at (c.loop-g.invariant.cut label rows L)
