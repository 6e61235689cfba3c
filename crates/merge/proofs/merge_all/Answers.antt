use mathlib.Core.Path.{sym, refl}
use native.Mathlib.Omega.{arith}
use lib.ListN.{length}
use Rattle.grid.proofs.GridLaws.{rows_in}
use Rattle.merge.proofs.StandLaws.{class-long, class-names, table-stands}
use Rattle.merge.proofs.merge_all.Goals as goal

pub give-rows-requires : goal.give-rows-requires
give-rows-requires c =
    let n = length c.args.marks.now in
    let e = class-long c.args.cells.now n c.requires.0 c.name.ensures in
    (class-names c.args.cells.now n c.requires.0 c.name.ensures, omega (arith, e, c.requires.1.few), omega (arith, e, c.name.auto.number, c.requires.1.number-long))

pub move_down-requires : goal.move_down-requires
move_down-requires c =
    let n = length c.args.marks.now in
    let e = class-long c.args.cells.now n c.requires.0 c.name.ensures in
    (rw e (rows_in c.args.cells.now n c.requires.0 c.requires.1.few c.requires.1.cells-long), sym e, c.give-rows.ensures.long)

pub returns : goal.returns
returns c =
    let n = length c.args.marks.now in
    let R = rows_in c.args.cells.now n c.requires.0 c.requires.1.few c.requires.1.cells-long in
    table-stands c.args.cells.now n c.requires.0 c.name.ensures R refl c.give-rows.ensures c.move_down.ensures
