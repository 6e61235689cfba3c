use mathlib.Core.Path.{◌≡◌, refl, ap, ◌∙◌}
use native.Mathlib.Omega.{arith}
use lib.ListN.{length}
use Rattle.nodesets.specs.NodeSets.{Within, meets}
use Rattle.nodesets.proofs.NodeSetLaws.{length_meets, meets-within, row-part, part-long}
use Rattle.cells.proofs.Filling.{taken-again}
use Rattle.cells.proofs.take_run.Goals as goal

pub returns-then-before-ne0 : goal.returns-then-before-ne0
returns-then-before-ne0 c =
    let A = c.args in (
      c.meet_again.ensures.0 ∙ ap (meets A.set.now) (row-part A.runs.now.masks.now A.k (length A.set.now)),
      (refl, taken-again c.requires.room.1.1 c.requires.within.1 c.if-before-ne0.true c.meet_again.ensures.1 c.if-meet_again.true),
    )

pub take_in-requires : goal.take_in-requires
take_in-requires c =
    let A = c.args in
    let p = part-long A.runs.now.masks.now A.k (length A.set.now) (omega (arith, c.requires.room.0, c.requires.room.1.0)) in
    let e : length c.meet_again.new.out ≡ length A.set.now = ap length c.meet_again.ensures.0 ∙ length_meets A.set.now _ p in
    let within : Within A.used.from A.used.to c.meet_again.new.out = rw c.meet_again.ensures.0 (meets-within A.set.now _ p c.requires.within.0) in
    (rw e c.requires.room.1.1, (rw e c.requires.room.0, within))

pub returns : goal.returns
returns c =
    let A = c.args in
    let p = part-long A.runs.now.masks.now A.k (length A.set.now) (omega (arith, c.requires.room.0, c.requires.room.1.0)) in
    let e : length c.meet_again.new.out ≡ length A.set.now = ap length c.meet_again.ensures.0 ∙ length_meets A.set.now _ p in
    (c.meet_again.ensures.0 ∙ ap (meets A.set.now) (row-part A.runs.now.masks.now A.k (length A.set.now)), rw e at c.take_in.ensures)
