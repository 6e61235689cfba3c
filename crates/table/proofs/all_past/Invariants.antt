use mathlib.Core.Path.{◌≡◌}
use lib.Dec.{leb, eqb}
use lib.ListN.{take}
use Rattle.rules.specs.Tools.{all}
use Rattle.table.proofs.all_past.Given as goal

-- no cell that was passed lies past the last row exactly if `far` is 0
abbrev pub invariant-loop-cell : goal.invariant-loop-cell
invariant-loop-cell l = eqb l.far 0 ≡ all (λ c. leb c l.last) (take l.cell-index l.cells)
