use mathlib.Core.Path.{ap, ◌∙◌}
use Prim.Native.Nat.{ℕ}
use lib.Dec.{leb, eqb}
use borrow.Author.Rules.{rules}
use Rattle.table.proofs.CellLaws.{bits-on, not-past}
use Rattle.table.proofs.all_past.Goals as goal

pub loop-cell-preserved : goal.loop-cell-preserved
loop-cell-preserved c =
    let A = c.args in
    bits-on (λ x. leb x A.last) A.cells.now c.loop-cell.cell-index c.loop-cell.far _ (search rules)
    (ap (λ (n : ℕ). eqb n 0) c.saturating_sub-far.ensures ∙ not-past _ A.last) c.loop-cell.invariant
