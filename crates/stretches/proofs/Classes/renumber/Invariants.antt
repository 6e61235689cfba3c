use lib.ListN.{length}
use Rattle.stretches.specs.Lent.{SameLists, Unmoved, EndsKept}
use Rattle.stretches.specs.Stretches.{Renumbered}
use Rattle.stretches.proofs.Classes.renumber.Given as goal

abbrev pub invariant-loop-p : goal.invariant-loop-p
invariant-loop-p l = SameLists l.fn.self l.self × (Unmoved l.fn.self l.self × EndsKept l.fn.self l.self)
    × Renumbered l.fn.self.order.now l.fn.self.class.now l.self.class.now (length l.fn.self.order.now) l.from l.p l.z
