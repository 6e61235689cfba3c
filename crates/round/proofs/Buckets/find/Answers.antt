use Rattle.round.proofs.GroupLaws.{seek-in, seek-first, seek-next}
use Rattle.round.proofs.Buckets.find.Goals as goal
use Rattle.round.proofs.Buckets.find.Goals.{else-keys-first-via-then-keys-first+else-alike, else-keys-first-via-else-keys-first}

pub loop-x-init : goal.loop-x-init
loop-x-init c = seek-first c.requires.row.1.2 (c.requires.book.0.latest c.args.bucket c.requires.row.1.1)

pub returns-then-alike : goal.returns-then-alike
returns-then-alike c = (seek-in c.loop-x.invariant c.loop-x-test.true, record { together = c.if-keys-first.true; goes = c.alike.ensures.yes c.if-alike.true })

pub loop-x-preserved : goal.loop-x-preserved
loop-x-preserved c = (seek-next c.requires.row.1.2 c.args.self.now.links.now c.loop-x.invariant c.loop-x-test.true c.requires.book.0.linked
    (elim c.else-keys-first.branch [
      | else-keys-first-via-then-keys-first+else-alike w ↦ λ s. w.alike.ensures.no w.if-alike.false s.goes
      | else-keys-first-via-else-keys-first w ↦ λ s. w.if-keys-first.false s.together
    ])).1
