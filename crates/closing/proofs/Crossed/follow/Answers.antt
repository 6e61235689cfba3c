use mathlib.Core.Path.{sym, ◌∙◌}
use Prim.Native.Nat.{◌<◌}
use native.Mathlib.Omega.{arith}
use lib.ListN.{length}
use Rattle.nodesets.specs.NodeSets.{mask_of}
use Rattle.rules.proofs.Tests.{is_true, is_false}
use Rattle.entries.specs.Entries.{kinds_of}
use Rattle.entries.proofs.EntryLaws.{length-kinds}
use Rattle.closing.proofs.Ways.{leads-two, leads-nowhere}
use Rattle.closing.proofs.Sweeps.{onward_then, onward-stop, one-low, two-low, onward-last, onward-on}
use Rattle.closing.proofs.Crossed.follow.Goals as goal

pub returns : goal.returns
returns c =
    let l = c.args.self.now.nodes.now in
    let K = length-kinds l in
    let I = c.loop-a.invariant in
    let low : c.loop-a.u.0 < length (kinds_of l) = omega (arith, K, I.node) in
    let stop = rw K at (onward-stop {m = mask_of c.loop-a.set} {p = mask_of c.loop-a.pending} {i = c.loop-a.i} (leads-nowhere low c.in_default.ensures)) in
    (I.set_long, (I.pending_long, onward_then I.onward stop))

pub is_in-requires : goal.is_in-requires
is_in-requires c =
    let l = c.args.self.now.nodes.now in
    let K = length-kinds l in
    let I = c.loop-a.invariant in
    let low : c.loop-a.u.0 < length (kinds_of l) = omega (arith, K, I.node) in
    omega (arith, K, one-low c.requires.0.nodes (leads-two low c.in-Some.ensures), c.requires.0.wide.long, I.set_long)

pub add-requires : goal.add-requires
add-requires c =
    let l = c.args.self.now.nodes.now in
    let K = length-kinds l in
    let I = c.loop-a.invariant in
    let low : c.loop-a.u.0 < length (kinds_of l) = omega (arith, K, I.node) in
    (I.pending_long ∙ sym I.set_long, omega (arith, K, two-low c.requires.0.nodes (leads-two low c.in-Some.ensures), c.requires.0.wide.long, I.set_long))

pub returns-then-is_in : goal.returns-then-is_in
returns-then-is_in c =
    let l = c.args.self.now.nodes.now in
    let K = length-kinds l in
    let I = c.loop-a.invariant in
    let low : c.loop-a.u.0 < length (kinds_of l) = omega (arith, K, I.node) in
    let L = leads-two low c.in-Some.ensures in
    let last = rw K at (onward-last c.requires.0.nodes L (is_true _ (sym c.is_in.ensures ∙ c.if-is_in.true)) c.add.ensures.1.1) in
    (c.add.ensures.0 ∙ I.set_long, (c.add.ensures.1.0 ∙ I.set_long, onward_then I.onward last))

pub put_in-requires : goal.put_in-requires
put_in-requires c =
    let l = c.args.self.now.nodes.now in
    let K = length-kinds l in
    let I = c.loop-a.invariant in
    let low : c.loop-a.u.0 < length (kinds_of l) = omega (arith, K, I.node) in
    omega (arith, K, one-low c.requires.0.nodes (leads-two low c.in-Some.ensures), c.requires.0.wide.long, I.set_long)

pub add-i-requires : goal.add-i-requires
add-i-requires c =
    let l = c.args.self.now.nodes.now in
    let K = length-kinds l in
    let I = c.loop-a.invariant in
    let low : c.loop-a.u.0 < length (kinds_of l) = omega (arith, K, I.node) in
    (I.pending_long ∙ sym I.set_long ∙ sym c.put_in.ensures.0, omega (arith, K, two-low c.requires.0.nodes (leads-two low c.in-Some.ensures), c.requires.0.wide.long, I.set_long, c.put_in.ensures.0))

pub loop-a-preserved : goal.loop-a-preserved
loop-a-preserved c =
    let l = c.args.self.now.nodes.now in
    let K = length-kinds l in
    let I = c.loop-a.invariant in
    let low : c.loop-a.u.0 < length (kinds_of l) = omega (arith, K, I.node) in
    let L = leads-two low c.in-Some.ensures in
    let on = rw K at (onward-on c.requires.0.nodes L (is_false _ (sym c.is_in.ensures ∙ c.if-is_in.false)) c.put_in.ensures.1 c.add-i.ensures.1.1) in
    record {
      set_long = c.add-i.ensures.0 ∙ c.put_in.ensures.0 ∙ I.set_long;
      pending_long = c.add-i.ensures.1.0 ∙ c.put_in.ensures.0 ∙ I.set_long;
      node = omega (arith, K, one-low c.requires.0.nodes L);
      onward = onward_then I.onward on.1;
    }
