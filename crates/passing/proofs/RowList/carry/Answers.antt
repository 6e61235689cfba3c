use mathlib.Core.Path.{◌≡◌, sym}
use Prim.Native.Nat.{◌+◌, ◌*◌, ◌<◌}
use native.Mathlib.Omega.{arith}
use lib.ListN.{get_or}
use borrow.Author.Tests.{eqb-true}
use Rattle.table.proofs.CheckLaws.{well}
use Rattle.passing.proofs.RunLaws.{carried-dead, carried-joined}
use Rattle.passing.proofs.RowList.carry.Goals as goal
use Rattle.passing.proofs.RowList.carry.Goals.{After-step-next}

-- the next row is a row
inside : (c : After-step-next) → c.step-next.result.0 < c.args.search.now.table.rows
inside c =
    let S = c.args.search.now in
    let b = get_or S.text.now c.args.p 0 in
    omega (arith, c.step-next.ensures, (well S.passed).formed.cells-rows (256 * c.args.entry.row.0 + b) (omega (arith, S.passed.bytes c.args.p)))

pub step-next-requires : goal.step-next-requires
step-next-requires c = let g = well c.args.search.now.passed in
    omega arith

pub returns-then-eq : goal.returns-then-eq
returns-then-eq c =
    let S = c.args.search.now in
    let same : c.step-next.result.0 ≡ S.dead.0 = eqb-true _ _ (sym c.if-eq.ensures) in
    carried-dead _ _ c.requires.kept (S.stuck (omega (arith, inside (goal.at.returns-then-eq c).After-step-next))) S.passed.bytes c.step-next.ensures same

pub join-requires-clause-row : goal.join-requires-clause-row
join-requires-clause-row c = inside (goal.at.join-requires-clause-row c).After-step-next

pub returns : goal.returns
returns c = carried-joined _ _ c.join.ensures c.step-next.ensures
