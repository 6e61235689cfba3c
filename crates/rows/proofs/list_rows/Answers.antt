use mathlib.Core.Path.{refl}
use native.Mathlib.Omega.{arith}
use Rattle.rows.proofs.Listable.{room-is, two-rows}
use Rattle.rows.proofs.list_rows.Goals as goal

pub returns-then-room-lt2 : goal.returns-then-room-lt2
returns-then-room-lt2 c =
    let A = c.args in
    let K = room-is A.cells.now A.marks.now A.sets.now c.min.ensures c.min-2.ensures c.min-room.ensures in
    record { room = record { cells = refl; marks = refl; sets = refl }; rows = λ X N. omega (arith, K, c.if-room-lt2.true, two-rows X) }

pub list_in-requires-clause-room : goal.list_in-requires-clause-room
list_in-requires-clause-room c =
    let A = c.args in
    (c.if-room-lt2.false, room-is A.cells.now A.marks.now A.sets.now c.min.ensures c.min-2.ensures c.min-room.ensures)

pub list_in-requires-2-clause-room : goal.list_in-requires-2-clause-room
list_in-requires-2-clause-room c =
    let A = c.args in
    (c.if-room-lt2.false, room-is A.cells.now A.marks.now A.sets.now c.min.ensures c.min-2.ensures c.min-room.ensures)
