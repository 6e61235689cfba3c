use mathlib.Core.Path.{refl, ap, ◌∙◌}
use native.Mathlib.Omega.{arith}
use lib.ListN.{length}
use Rattle.nodesets.specs.NodeSets.{row_words}
use Rattle.nodesets.proofs.NodeSetLaws.{row-long}
use Rattle.known.specs.declared.Known.{Known}
use Rattle.cells.proofs.Filling.{taken-first, taken_more, filled_none, filled-over, filled_more}
use Rattle.cells.proofs.fill_runs.Goals as goal

pub loop-k-init : goal.loop-k-init
loop-k-init c =
    let P = c.requires.room in
    record {
      row_long = P.0;
      room = refl;
      filled = filled_none P.1.1.0.first P.1.1.1.1;
      before = taken-first c.requires.within.1 P.1.0 c.requires.within.0 P.1.1.1.1;
    }

pub returns-in_err-r : goal.returns-in_err-r
returns-in_err-r c =
    let P = c.requires.room in
    let I = c.loop-k.invariant in
    let told = c.in_err-r.ensures in
    rw c.from_residual.ensures (
      ap (λ (k : Known). k.room) told.1.0 ∙ I.room,
      filled-over P.1.1.0 (omega arith) I.filled (told.1.2 ∙ I.room, rw told.0 at told.1.3),
    )

pub loop-k-preserved : goal.loop-k-preserved
loop-k-preserved c =
    let P = c.requires.room in
    let A = c.args in
    let I = c.loop-k.invariant in
    let told = c.in_ok-r.ensures in
    let took = rw I.room at told.1.1 in
    let more = filled_more P.1.1.0 (omega arith) I.filled I.row_long (rw told.0 at took) c.spread_run.ensures in
    let mask = row_words (length A.set.now) A.runs.now.masks.now c.loop-k.k in
    let long = row-long A.runs.now.masks.now c.loop-k.k (length A.set.now) (omega (arith, P.1.0, P.1.1.1.0)) in
    record {
      row_long = more.0;
      room = told.1.0 ∙ I.room;
      filled = more.1;
      before = taken_more A.set.now mask long c.requires.within.0 told.0 took;
    }
