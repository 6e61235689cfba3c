use mathlib.Core.Path.{◌≡◌}
use mathlib.Core.Logic.{◌↔◌}
use Rattle.nodesets.proofs.NodeSetLaws.{Agree}
use Rattle.nodesets.proofs.same.Given as goal

abbrev pub invariant-loop-i : goal.invariant-loop-i
invariant-loop-i l = (l.apart ≡ 0) ↔ Agree l.a l.b l.i
