use borrow.Author.Rules.{rules}
use mathlib.Core.Path.{◌≡◌}
use Prim.Native.Nat.{◌/◌, ◌%◌, ◌^◌}
use native.Mathlib.Omega.{arith}
use lib.ListN.{get_or}
use Rattle.nodesets.proofs.NodeSetLaws.{doubled-more, doubled-end}
use Rattle.nodesets.proofs.nodes_after.Goals as goal

pub loop-i-preserved : goal.loop-i-preserved
loop-i-preserved c =
    let top : get_or c.args.set.now c.loop-i.i 0 / 2 ^ 63 ≡ get_or c.args.set.now c.loop-i.i 0 / 2 ^ 63 % 2 = omega arith in
    (omega (arith, top), rw top (doubled-more c.loop-i.out c.args.set.now c.loop-i.i c.loop-i.carry (search rules) c.loop-i.invariant.1 (search rules)))

pub returns : goal.returns
returns c = doubled-end c.loop-i.out c.args.set.now c.loop-i.i c.loop-i.carry (search rules) c.loop-i.invariant.1 (omega arith)
