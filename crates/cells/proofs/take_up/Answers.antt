use mathlib.Core.Path.{ap, ◌∙◌}
use mathlib.Core.Bool.{false}
use native.Mathlib.Nat.{lt_of_lt_of_le}
use native.Mathlib.Omega.{arith}
use lib.Dec.{eqb}
use lib.ListN.{length}
use lib.Pow.{pow_mono}
use Rattle.closing.specs.Closing.{Wide, closing_of}
use Rattle.cells.specs.Cells.{taken_at, nodes_of}
use Rattle.cells.proofs.RowLaws.{seeds-lt}
use Rattle.cells.proofs.take_up.Goals as goal

pub begin-requires : goal.begin-requires
begin-requires c =
    let P = c.requires.1 in
    (omega (arith, P.0.long, P.1.1.0), (P.0.short, (P.1.1.1.0, λ l. lt_of_lt_of_le (P.1.1.1.1 l) (pow_mono P.0.long))))

pub close-requires-clause-sets : goal.close-requires-clause-sets
close-requires-clause-sets c =
    let P = c.requires.1 in
    let A = c.args in
    let B = c.begin.ensures in
    let e = c.copy_from_slice.ensures.after in
    let small = seeds-lt (taken_at (length A.set.now) A.sets.now) A.q (length A.nodes.now) P.1.1.0 P.1.1.1.1 in
    let wide : Wide (length A.nodes.now) c.begin.new.set = record { long = omega (arith, P.0.long, B.0); short = omega (arith, P.0.short, B.0) } in
    (record { nodes = c.requires.0; wide = wide; long = ap length e; small = rw B.1 small }, rw (e, B.1) small)

pub returns : goal.returns
unfolding nodes_of
returns c =
    (c.close.ensures.0 ∙ c.begin.ensures.0, (c.close.ensures.1.0 ∙ c.begin.ensures.0, c.close.ensures.1.1 ∙ ap (closing_of (eqb c.args.q 1) false c.args.nodes.now) c.begin.ensures.1))
