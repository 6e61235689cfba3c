use native.Mathlib.Omega.{arith}
use lib.ListN.{length-set}
use Rattle.marks.proofs.MarkLaws.{few, known_group}
use Rattle.marks.proofs.sort_row.Goals as goal

pub overflow_add-group : goal.overflow_add-group
overflow_add-group c = omega (arith, few c.requires.marked, c.requires.room)

pub overflow_cast-group : goal.overflow_cast-group
overflow_cast-group c = omega (arith, few c.requires.marked, c.requires.room)

pub offset_bounds-groups-count : goal.offset_bounds-groups-count
offset_bounds-groups-count c = omega (arith, few c.requires.marked, c.requires.room)

pub bounds-groups-count : goal.bounds-groups-count
bounds-groups-count c = omega (arith, few c.requires.marked, c.requires.room, c.requires.room.1.last-long)

pub join-requires : goal.join-requires
join-requires c =
    let R = c.requires.room.1 in
    omega (arith, few c.requires.marked, c.requires.room, R.seen-long, R.prior-long, R.last-long, length-set c.args.groups.now.last.now c.args.count 0)

pub overflow_add-result : goal.overflow_add-result
overflow_add-result c = omega (arith, few c.requires.marked, c.requires.room)

pub join-requires-2 : goal.join-requires-2
join-requires-2 c =
    let R = c.requires.room.1 in
    omega (arith, c.requires.room, R.seen-long, R.prior-long, known_group c.requires.marked R c.requires.room.2 c.if-g-eq0.false)
