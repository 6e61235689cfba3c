use mathlib.Core.Path.{sym, ◌∙◌}
use native.Mathlib.Omega.{arith}
use Rattle.rules.proofs.Sets.{with-has, with-keeps}
use Rattle.nodesets.specs.NodeSets.{mask_of}
use Rattle.entries.specs.Entries.{kinds_of}
use Rattle.entries.proofs.EntryLaws.{length-kinds, get-kind}
use Rattle.closing.proofs.KindLaws.{not-tail}
use Rattle.closing.proofs.MarkLaws.{tails-more}
use Rattle.closing.proofs.marks.put_tails.Goals as goal
use Rattle.closing.proofs.marks.put_tails.Goals.{then-eq, else-eq}

pub loop-u-preserved : goal.loop-u-preserved
loop-u-preserved c =
    let l = c.args.nodes.now in
    let I = c.loop-u.invariant in
    let m = mask_of c.loop-u.set in
    let u = c.loop-u.u in
    elim c.if-eq.branch [
      | then-eq w ↦ rw w.set-is (record {
        long = w.put_in.ensures.0 ∙ I.long;
        tails = tails-more (kinds_of l) m _ u I.tails (λ v h. rw w.put_in.ensures.1 (with-keeps m u v h)) (λ e. rw w.put_in.ensures.1 (with-has m u));
      })
      | else-eq w ↦ rw w.set-is (record {
        long = I.long;
        tails = tails-more (kinds_of l) m _ u I.tails (λ v h. h) (λ e. absurd (not-tail _ w.if-eq.ensures (sym (get-kind l u) ∙ e)));
      })
    ]

pub returns : goal.returns
returns c =
    (c.loop-u.invariant.long, λ v l. c.loop-u.invariant.tails v (omega (arith, length-kinds c.args.nodes.now)))
