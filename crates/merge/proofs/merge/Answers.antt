use borrow.Author.Rules.{rules}
use Prim.Native.Nat.{◌*◌}
use native.Mathlib.Omega.{arith}
use lib.Seq.{length-take-le}
use Rattle.grid.specs.Rows.{row_words}
use Rattle.merge.proofs.FrontLaws.{zeros-front, front-grid, front-room, front-stands}
use Rattle.merge.proofs.merge.Goals as goal

pub merge_all-requires : goal.merge_all-requires
merge_all-requires c =
    let n = c.args.rows in
    let L = c.requires in
    let zeros = zeros-front n L.few in
    let sets = length-take-le (row_words * n) c.args.sets.now (omega (arith, L.sets-long)) in (
      front-grid c.args.cells.now c.args.marks.now n L.cells-long L.marks-long L.grid,
      front-room c.args.cells.now c.args.marks.now n L.cells-long L.marks-long L.few sets zeros zeros zeros (search rules),
    )

pub returns-clause-stands : goal.returns-clause-stands
returns-clause-stands c =
    let L = c.requires in
    front-stands c.args.cells.now c.args.marks.now c.args.rows L.cells-long L.marks-long L.grid c.merge_all.ensures
