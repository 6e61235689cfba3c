use mathlib.Core.Path.{ap, sym, ◌∙◌}
use mathlib.Core.Bool.{true, false}
use native.Mathlib.Omega.{arith}
use Rattle.table.proofs.CheckLaws.{well}
use Rattle.ends.specs.Readings.{end_of}
use Rattle.ends.proofs.ReadingLaws.{finds-more}
use Rattle.ends.proofs.Reading.find_ends.Goals as goal
use Rattle.ends.proofs.Reading.find_ends.Goals.{then-ends_here, else-ends_here}

pub bounds-checked-row : goal.bounds-checked-row
bounds-checked-row c = let g = well c.args.checked.now.passed in
    omega arith

pub step-row-requires : goal.step-row-requires
step-row-requires c = let g = well c.args.checked.now.passed in
    omega arith

pub loop-p-preserved : goal.loop-p-preserved
loop-p-preserved c =
    let C = c.args.checked.now in
    let more = finds-more c.loop-p.invariant (well C.passed) (omega arith) (C.passed.bytes c.loop-p.p) c.step-row.ensures in
    elim c.if-ends_here.branch [
      | then-ends_here w ↦ more true (sym c.ends_here.ensures ∙ w.if-ends_here.true) c.if-ends_here.found (ap end_of w.found-is)
      | else-ends_here w ↦ more false (sym c.ends_here.ensures ∙ w.if-ends_here.false) c.if-ends_here.found (ap end_of w.found-is)
    ]
