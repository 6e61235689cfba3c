use mathlib.Core.Path.{◌≡◌}
use lib.Dec.{eqb}
use lib.ListN.{drop}
use Rattle.std.specs.List.{starts_with}
use Rattle.classes.proofs.spells.Given as goal

-- `spells`: what is left of the name has to stand where the loop has come to.
abbrev pub invariant-loop-i : goal.invariant-loop-i
invariant-loop-i l = starts_with eqb l.bytes l.name ≡ starts_with eqb (drop l.i l.bytes) (drop l.i l.name)
