use mathlib.Core.Path.{◌≡◌, sym, ◌∙◌}
use Prim.Native.Nat.{◌+◌, ◌*◌, ◌-◌, ◌<◌}
use native.Mathlib.Omega.{arith}
use borrow.Rule.Slice.PartMut.{mid_len}
use lib.ListN.{length}
use Rattle.closing.specs.Closing.{Wide}
use Rattle.entries.proofs.EntryLaws.{length-kinds}
use Rattle.rows.proofs.RowByRow.{taken-lt, nodes-lt, nodes-full, listed-full, listed_more}
use Rattle.rows.proofs.list_row.Goals as goal

pub take_up-requires : goal.take_up-requires
take_up-requires c =
    let G = c.requires.given in
    let L = c.requires.listed in
    let K = length-kinds c.args.nodes.now in
    let wide : Wide (length c.args.nodes.now) c.args.set.now = record { long = omega (arith, K, G.0.wide); short = G.0.short } in
    let some : 0 < length c.args.nodes.now = omega (arith, K, G.0.some) in
    (G.0.nodes, (wide, (G.1.0, (some, ((λ h. omega (arith, L.0.book.long, L.0.book.fits, L.1.0)), rw K at (taken-lt G.0 L.0 L.1.0))))))

pub returns-in_err-fill : goal.returns-in_err-fill
returns-in_err-fill c =
    let G = c.requires.given in
    let L = c.requires.listed in
    let told = c.in_err-fill.ensures in
    rw c.from_residual.ensures (told.0, listed-full c.take_up.new.set c.take_up.ensures.0 G.0 L.0 L.1.0 c.take_up.ensures.1.1 told.1)

pub overflow_sub-last : goal.overflow_sub-last
overflow_sub-last c =
    omega (arith, length-kinds c.args.nodes.now, c.requires.given.0.some)

pub overflow_cast-last : goal.overflow_cast-last
overflow_cast-last c =
    omega (arith, length-kinds c.args.nodes.now, c.requires.given.0.nodes.few)

pub mark_of-requires : goal.mark_of-requires
mark_of-requires c =
    let G = c.requires.given in
    let L = c.requires.listed in
    let T = c.take_up.ensures in
    let K = length-kinds c.args.nodes.now in
    let wide : Wide (length c.args.nodes.now) c.take_up.new.set = record { long = omega (arith, K, T.0, G.0.wide); short = omega (arith, T.0, G.0.short) } in
    let small = rw K at (nodes-lt G.0 L.0 L.1.0) in
    record {
      sets = (record { nodes = G.0.nodes; wide = wide; long = T.1.0 ∙ sym T.0; small = rw T.1.1 small }, (G.1.1.0 ∙ sym T.0, omega (arith, K, G.0.some)));
      tails = (G.1.1.1, rw T.1.1 (nodes-full G.0 L.0 L.1.0));
    }

pub returns : goal.returns
returns c =
    let G = c.requires.given in
    let L = c.requires.listed in
    let told = c.in_ok-fill.ensures in
    let q = c.args.q in
    let size : 256 * q + 256 - 256 * q ≡ 256 = omega arith in
    let long = c.fill.auto.row ∙ mid_len (256 * q) (256 * q + 256) c.args.cells.now (omega (arith, L.0.book.fits, L.1.0, L.1.1.cells-long)) ∙ size in
    let mark = rw (← length-kinds c.args.nodes.now) at c.mark_of.ensures in
    (told.0, rw told.0 (listed_more c.take_up.new.set c.take_up.ensures.0 G.0 L.0 L.1.0 c.take_up.ensures.1.1 L.1.1 told.1 long size mark))
