use Rattle.round.proofs.GroupLaws.{room-in, passed-put}
use Rattle.round.proofs.Buckets.sort_row.Goals as goal

pub returns-clause-passed_after : goal.returns-clause-passed_after
returns-clause-passed_after c = rw (c.put_row.ensures.seen.0, c.put_row.ensures.seen.1) (passed-put c.requires.passed_before (room-in c.requires.before c.requires.row.0).0)
