use Prim.Native.Nat.{◌<◌}
use native.Mathlib.Omega.{arith}
use Rattle.table.proofs.CheckLaws.{well}
use Rattle.passing.proofs.KeptLaws.{kept_room, joined_old, joined_new}
use Rattle.passing.proofs.RowList.join.Goals as goal
use Rattle.passing.proofs.RowList.join.Goals.{Else-self-i}

room : (c : Else-self-i) → c.args.len < 1024
room c = omega (arith, kept_room c.requires.kept c.requires.row c.if-self-i.false, (well c.args.search.now.passed).few-rows)

pub returns-then-self-i : goal.returns-then-self-i
returns-then-self-i c = joined_old c.requires.kept c.requires.row c.args.from c.if-self-i.true

pub bounds-self-len : goal.bounds-self-len
bounds-self-len c = room (goal.at.bounds-self-len c).Else-self-i

pub offset_bounds-self-len : goal.offset_bounds-self-len
offset_bounds-self-len c = omega (arith, room (goal.at.offset_bounds-self-len c).Else-self-i)

pub overflow_add-result : goal.overflow_add-result
overflow_add-result c = omega (arith, room (goal.at.overflow_add-result c).Else-self-i)

pub returns : goal.returns
returns c = joined_new c.requires.kept c.requires.row c.if-self-i.false c.args.from
