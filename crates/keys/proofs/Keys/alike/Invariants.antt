use Rattle.keys.proofs.KeyLaws.{SameTo}
use Rattle.keys.proofs.Keys.alike.Given as goal

abbrev pub invariant-loop-b : goal.invariant-loop-b
invariant-loop-b l = SameTo l.self.cells.now l.self.class.now l.self.from l.self.bytes.now l.p l.q l.b-index
