use mathlib.Core.Path.{◌≡◌, ap, sym, ◌∙◌}
use mathlib.Core.Bool.{Bool, ◌&&◌}
use native.Mathlib.Omega.{arith}
use lib.ListN.{take}
use Rattle.rules.specs.Tools.{all}
use Rattle.rules.specs.Table.{Table, is_mark, well_formed}
use Rattle.rules.proofs.TableLaws.{not-formed, formed-rest}
use Rattle.table.specs.Lent.{lent_table}
use Rattle.table.proofs.Lent.is_well_formed.Goals as goal

abbrev marked : Table → Bool
marked w = all is_mark (take w.count w.marks)

-- what the cells say leaves the marks to decide
rest : (w : Table) {b r q : Bool} → r ≡ b → r ≡ q → q && marked w ≡ well_formed w → b && marked w ≡ well_formed w
rest w e f formed = ap (λ (b : Bool). b && marked w) (sym e ∙ f) ∙ formed

-- `is_well_formed` meets its contract: each early answer is a size or a head that is not right; the rest is left to the cells and the marks.
pub returns-then-self-lt1 : goal.returns-then-self-lt1
returns-then-self-lt1 c = not-formed _ (λ g. omega arith)

pub returns-then-self-n : goal.returns-then-self-n
returns-then-self-n c = not-formed _ (λ g. omega arith)

pub returns-then-self-n-2 : goal.returns-then-self-n-2
returns-then-self-n-2 c = not-formed _ (λ g. omega arith)

pub returns-then-self : goal.returns-then-self
returns-then-self c = not-formed _ (λ g. omega arith)

pub returns-then-not-rows_only : goal.returns-then-not-rows_only
returns-then-not-rows_only c = let a = c.args in
    let w = lent_table a.self.now in
    rest w c.if-not-rows_only.true c.rows_only.ensures
    (formed-rest w (omega arith) (omega arith) (omega arith) (omega arith) (omega arith))

pub returns : goal.returns
returns c =
    let a = c.args in
    let w = lent_table a.self.now in
    c.marks_only.ensures
    ∙ rest w c.if-not-rows_only.false c.rows_only.ensures
    (formed-rest w (omega arith) (omega arith) (omega arith) (omega arith) (omega arith))
