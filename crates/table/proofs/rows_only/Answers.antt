use mathlib.Core.Path.{ap, sym, ◌∙◌}
use Prim.Native.Nat.{ℕ}
use lib.Dec.{ltb}
use Rattle.rules.specs.Tools.{all}
use Rattle.table.proofs.CellLaws.{rows_none}
use Rattle.table.proofs.rows_only.Goals as goal

pub returns-then-rows-eq0 : goal.returns-then-rows-eq0
returns-then-rows-eq0 c =
    let A = c.args in
    c.is_empty.ensures ∙ rows_none A.cells.now ∙ ap (λ (n : ℕ). all (λ x. ltb x n) A.cells.now) (sym c.if-rows-eq0.true)
