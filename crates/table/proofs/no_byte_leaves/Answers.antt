use mathlib.Core.Path.{◌≡◌, ap, ◌∙◌}
use Prim.Native.Nat.{ℕ, ◌+◌, ◌*◌, ◌-◌}
use native.Mathlib.Omega.{arith}
use lib.Dec.{eqb}
use lib.ListN.{take, drop}
use Rattle.rules.specs.Tools.{all}
use Rattle.table.proofs.no_byte_leaves.Goals as goal

-- `no_byte_leaves` meets its contract: by the first cell, or by all of them.
pub returns : goal.returns
returns c =
    let A = c.args in
    let e : 256 * A.q.0 + 256 - 256 * A.q.0 ≡ 256 = omega arith in
    c.all_to.ensures ∙ ap (λ (n : ℕ). all (λ x. eqb x A.q.0) (take n (drop (256 * A.q.0) A.cells.now))) e
