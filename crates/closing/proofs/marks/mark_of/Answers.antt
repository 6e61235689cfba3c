use mathlib.Core.Path.{sym, ap, ◌∙◌, subst}
use Prim.Native.Nat.{ℕ}
use lib.Dec.{T}
use lib.ListN.{length}
use Rattle.rules.specs.Tools.{has}
use Rattle.rules.proofs.Tests.{is_true, is_false, both_left}
use Rattle.nodesets.specs.NodeSets.{mask_of}
use Rattle.nodesets.proofs.NodeSetLaws.{meets-has, length_meets, meets-lt}
use Rattle.entries.specs.Entries.{kinds_of, firsts_of, seconds_of}
use Rattle.closing.proofs.Sweeps.{has-lt}
use Rattle.closing.proofs.MarkLaws.{mark-3, mark-2, mark-0, full-but-tails}
use Rattle.closing.proofs.marks.mark_of.Goals as goal

pub returns-then-is_in : goal.returns-then-is_in
returns-then-is_in c =
    let args = c.args in
    let l = args.nodes.now in
    mark-3 args.head (kinds_of l) (firsts_of l) (seconds_of l) (mask_of args.set.now) args.last.0 (is_true _ (sym c.is_in.ensures ∙ c.if-is_in.true))

pub close-requires : goal.close-requires
close-requires c =
    let A = c.args in
    let l = A.nodes.now in
    let S = c.requires.sets.0 in
    let e = c.meet.ensures in
    let long = ap length e ∙ length_meets A.set.now A.tails.now c.requires.sets.1.0 in
    let small = meets-lt (length l) A.set.now A.tails.now (λ v h. has-lt _ _ v S.small h) in
    let full = full-but-tails A.head (kinds_of l) (firsts_of l) (seconds_of l) A.set.now A.tails.now c.requires.tails.0 c.requires.tails.1 in
    record {
      sets = (record { nodes = S.nodes; wide = S.wide; long = long; small = S.small }, rw e small);
      pending = rw e ((λ v h. both_left (has (mask_of A.set.now) v) (has (mask_of A.tails.now) v) (subst T (meets-has A.set.now A.tails.now v) h)), full);
    }

pub returns-then-is_in-2 : goal.returns-then-is_in-2
returns-then-is_in-2 c =
    let A = c.args in
    let l = A.nodes.now in
    let out = is_false _ (sym c.is_in.ensures ∙ c.if-is_in.false) in
    let later = ap (λ (m : ℕ). has m A.last.0) (sym c.close.ensures.1.1) ∙ sym c.is_in-2.ensures in
    mark-2 A.head (kinds_of l) (firsts_of l) (seconds_of l) (mask_of A.set.now) A.last.0 out (is_true _ (later ∙ c.if-is_in-2.true))

pub returns : goal.returns
returns c =
    let A = c.args in
    let l = A.nodes.now in
    let out = is_false _ (sym c.is_in.ensures ∙ c.if-is_in.false) in
    let later = ap (λ (m : ℕ). has m A.last.0) (sym c.close.ensures.1.1) ∙ sym c.is_in-2.ensures in
    mark-0 A.head (kinds_of l) (firsts_of l) (seconds_of l) (mask_of A.set.now) A.last.0 out (is_false _ (later ∙ c.if-is_in-2.false))
