use native.Mathlib.Omega.{arith}
use lib.ListN.{length-set}
use Rattle.round.proofs.GroupLaws.{lists-in, room-in, filed-joined}
use Rattle.round.proofs.Buckets.put_row.Goals as goal

pub join-requires : goal.join-requires
join-requires c =
    let R = room-in c.requires.before c.requires.row.0 in
    (R.0, R.1, omega (arith, c.in-Some.ensures.0, R), R.5, R.6)

pub returns-clause-after : goal.returns-clause-after
returns-clause-after c = record {
  room = record {
    seen-long = rw (c.join.ensures.seen, length-set) c.requires.before.room.seen-long;
    prior-long = rw (c.join.ensures.prior, length-set) c.requires.before.room.prior-long;
    last-long = rw (c.join.ensures.last, length-set) c.requires.before.room.last-long;
  };
  filed = rw (c.join.ensures.seen, c.join.ensures.prior, c.join.ensures.last)
      (filed-joined c.requires.before.filed (lists-in c.requires.before) c.requires.row.0 c.requires.row.1.0 c.in-Some.ensures.0 c.in-Some.ensures.1);
}
