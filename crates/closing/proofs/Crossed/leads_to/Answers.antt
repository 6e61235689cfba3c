use mathlib.Core.Logic.{⊎_elim}
use native.Mathlib.Omega.{arith}
use Rattle.entries.proofs.EntryLaws.{length-kinds, get-kind, get-first, get-second}
use Rattle.closing.specs.Closing.{targets_of}
use Rattle.closing.proofs.KindLaws.{last-or-bytes}
use Rattle.closing.proofs.Crossed.leads_to.Goals as goal

pub returns-in-Empty : goal.returns-in-Empty
unfolding targets_of
returns-in-Empty c =
    let l = c.args.self.now.nodes.now in
    rw (get-kind l c.args.u.0, get-first l c.args.u.0, get-second l c.args.u.0, c.in-Empty.is)

pub overflow_add-next : goal.overflow_add-next
overflow_add-next c =
    omega (arith, length-kinds c.args.self.now.nodes.now)

pub returns-then-self : goal.returns-then-self
unfolding targets_of
returns-then-self c =
    rw (get-kind c.args.self.now.nodes.now c.args.u.0, c.in-Head.is, c.if-self.true)

pub returns-else-self : goal.returns-else-self
unfolding targets_of
returns-else-self c =
    rw (get-kind c.args.self.now.nodes.now c.args.u.0, c.in-Head.is, c.if-self.false)

pub returns-then-self-2 : goal.returns-then-self-2
unfolding targets_of
returns-then-self-2 c =
    rw (get-kind c.args.self.now.nodes.now c.args.u.0, c.in-Tail.is, c.if-self-2.true)

pub returns-else-self-2 : goal.returns-else-self-2
unfolding targets_of
returns-else-self-2 c =
    rw (get-kind c.args.self.now.nodes.now c.args.u.0, c.in-Tail.is, c.if-self-2.false)

pub returns : goal.returns
unfolding targets_of
returns c =
    rw (get-kind c.args.self.now.nodes.now c.args.u.0)
    (⊎_elim (λ e. rw e) (λ e. rw e) (last-or-bytes _ c.in_default.not-Empty c.in_default-kind.not-Head c.in_default-kind-2.not-Tail))
