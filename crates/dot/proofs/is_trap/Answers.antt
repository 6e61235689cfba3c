use mathlib.Core.Path.{◌≡◌, sym, ap, ◌∙◌}
use Prim.Native.Nat.{◌+◌, ◌-◌, ◌*◌}
use native.Mathlib.Omega.{arith}
use lib.Dec.{eqb}
use lib.ListN.{take, drop}
use Rattle.rules.specs.Tools.{all}
use Rattle.table.specs.Lent.{lent_table}
use Rattle.writing.proofs.RowLaws.{part_slice}
use Rattle.dot.proofs.DotLaws.{no-trap-inside, no-trap-head, no-trap-match, trap-by-cells}
use Rattle.dot.proofs.is_trap.Goals as goal
use Rattle.dot.proofs.is_trap.Goals.{then-eq-via-then-eq, then-eq-via-else-eq+then-eq-2}

pub returns-then-eq : goal.returns-then-eq
returns-then-eq c =
    let w = lent_table c.args.table.now in
    elim c.then-eq.branch [
      | then-eq-via-then-eq v ↦ no-trap-inside w c.args.q.0 (sym c.eq.ensures ∙ v.if-eq.true)
      | then-eq-via-else-eq+then-eq-2 v ↦ no-trap-head w c.args.q.0 (sym c.eq.ensures ∙ v.if-eq.false) (sym v.eq-else-eq.ensures ∙ v.if-eq-2.true)
    ]

pub returns-else-not-ends_here : goal.returns-else-not-ends_here
returns-else-not-ends_here c =
    no-trap-match (lent_table c.args.table.now) c.args.q.0 (sym c.eq.ensures ∙ c.if-eq.false) (sym c.eq-else-eq.ensures ∙ c.if-eq-2.false) c.ends_here.ensures c.if-not-ends_here.false

pub returns-then-not-ends_here : goal.returns-then-not-ends_here
returns-then-not-ends_here c =
    let q = c.args.q.0 in
    let cells = c.args.table.now.cells.now in
    let e : 256 ≡ 256 * q + 256 - 256 * q = omega arith in
    c.no_byte_leaves.ensures
    ∙ ap (λ n. all (λ x. eqb x q) (take n (drop (256 * q) cells))) e
    ∙ ap (all (λ x. eqb x q)) (part_slice (256 * q) (256 * q + 256) cells)
    ∙ sym (trap-by-cells (lent_table c.args.table.now) q (sym c.eq.ensures ∙ c.if-eq.false) (sym c.eq-else-eq.ensures ∙ c.if-eq-2.false) c.ends_here.ensures c.if-not-ends_here.true)
