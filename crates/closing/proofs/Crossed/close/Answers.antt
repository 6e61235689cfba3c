use mathlib.Core.Path.{refl, ◌∙◌}
use Prim.Native.Nat.{◌≤◌}
use native.Mathlib.Omega.{arith}
use lib.ListN.{length}
use Rattle.entries.specs.Entries.{kinds_of, firsts_of, seconds_of}
use Rattle.entries.proofs.EntryLaws.{length-kinds}
use Rattle.closing.proofs.Sweeps.{closing-full, sweep-start, sweep-end}
use Rattle.closing.proofs.Crossed.close.Goals as goal

pub loop-i-init : goal.loop-i-init
loop-i-init c =
    let A = c.args.self.now in
    let l = A.nodes.now in
    let S = c.requires.sets.0 in
    let small = rw (← length-kinds l) at S.small in
    record {
      set_long = refl;
      pending_long = S.long;
      within = omega arith;
      set_small = S.small;
      pending_small = c.requires.sets.1;
      full = closing-full A.head A.tail (kinds_of l) (firsts_of l) (seconds_of l) S.nodes _ small;
      sweep = sweep-start A.head A.tail (kinds_of l) (firsts_of l) (seconds_of l) S.nodes _ small c.requires.pending.0 c.requires.pending.1;
    }

pub loop-i-preserved : goal.loop-i-preserved
loop-i-preserved c =
    let I = c.loop-i.invariant in
    let a = rw I.set_long at c.advance-i.ensures.1.1 in
    record {
      set_long = c.advance-i.ensures.0 ∙ I.set_long;
      pending_long = c.advance-i.ensures.1.0 ∙ I.set_long;
      within = a.at;
      set_small = a.small;
      pending_small = a.small-too;
      full = I.full;
      sweep = a.sweeps _ _ I.full I.sweep;
    }

pub returns : goal.returns
returns c =
    let A = c.args.self.now in
    let l = A.nodes.now in
    let S = c.requires.sets.0 in
    let I = c.loop-i.invariant in
    let K = length-kinds l in
    let past : length c.args.set.now ≤ c.loop-i.i = omega (arith, I.set_long) in
    let closed = sweep-end A.head A.tail (kinds_of l) (firsts_of l) (seconds_of l) S.nodes _ (rw (← K) at S.small) (length c.args.set.now) in
    (I.set_long, (I.pending_long, closed (rw (← K) at S.wide.long) past (rw (← K) at I.set_small) (rw (← K) at I.pending_small) I.sweep))
