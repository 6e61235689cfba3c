use mathlib.Core.Path.{◌≡◌}
use lib.Dec.{eqb}
use lib.ListN.{take}
use Rattle.rules.specs.Tools.{all}
use Rattle.table.proofs.all_to.Given as goal

-- every cell that was passed is the row exactly if `differing` is 0
abbrev pub invariant-loop-cell : goal.invariant-loop-cell
invariant-loop-cell l = eqb l.differing 0 ≡ all (λ c. eqb c l.q.0) (take l.cell-index l.cells)
