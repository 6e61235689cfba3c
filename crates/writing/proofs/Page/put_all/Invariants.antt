use lib.ListN.{take}
use Rattle.writing.specs.Writing.{Puts}
use Rattle.writing.proofs.Page.put_all.Given as goal

abbrev pub invariant-loop-b : goal.invariant-loop-b
invariant-loop-b l = Puts l.initial.self (take l.b-index l.text) l.self
