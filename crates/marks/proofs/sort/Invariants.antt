use lib.ListN.{length}
use Rattle.chains.specs.Lent.{SameLists, RoomFor}
use Rattle.marks.specs.Lent.{MarkedTo_in}
use Rattle.marks.proofs.sort.Given as goal

abbrev pub invariant-loop-r : goal.invariant-loop-r
invariant-loop-r l = SameLists l.fn.groups l.groups × RoomFor l.groups (length l.marks) × MarkedTo_in l.marks l.group l.groups l.count l.r
