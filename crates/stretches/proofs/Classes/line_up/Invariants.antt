use lib.ListN.{length}
use Rattle.stretches.specs.Lent.{SameLists, ClassesKept}
use Rattle.stretches.specs.Stretches.{InOrder}
use Rattle.stretches.proofs.Classes.line_up.Given as goal

abbrev pub invariant-loop-r : goal.invariant-loop-r
invariant-loop-r l = SameLists l.fn.self l.self × ClassesKept l.fn.self l.self × InOrder l.self.order.now l.self.place.now (length l.fn.self.order.now) l.r
