use native.Mathlib.Omega.{arith}
use Rattle.settling.proofs.RoundLaws.{to-ends, touches}
use Rattle.settling.proofs.sort.Goals as goal

pub sort-requires-clause-ends : goal.sort-requires-clause-ends
sort-requires-clause-ends c = to-ends c.requires.standing.0

pub sort-requires-clause-touches : goal.sort-requires-clause-touches
sort-requires-clause-touches c =
    let S = c.requires.standing.0 in
    (touches S c.list.new.set c.requires.drawn c.list.ensures, omega (arith, S.stretches.class-long, S.placed.few, c.list.auto.set, c.requires.scratch.touched-long))

pub returns-clause-room : goal.returns-clause-room
returns-clause-room c = rw c.requires.standing.0.stretches.class-long at c.sort.ensures.room_kept
