use mathlib.Core.Path.{sym}
use native.Mathlib.Omega.{arith}
use lib.ListN.{length-set}
use Rattle.keys.proofs.KeyLaws.{alike_refl}
use Rattle.round.proofs.GroupLaws.{lists-in, room-in, filed-opened}
use Rattle.round.proofs.Buckets.open.Goals as goal

pub bounds-self-g : goal.bounds-self-g
bounds-self-g c = omega (arith, room-in c.requires.before c.requires.row.0)

pub bounds-self-g-2 : goal.bounds-self-g-2
bounds-self-g-2 c = omega (arith, room-in c.requires.before c.requires.row.0)

pub bounds-groups-g : goal.bounds-groups-g
bounds-groups-g c = omega (arith, room-in c.requires.before c.requires.row.0)

pub join-requires : goal.join-requires
join-requires c =
    let R = room-in c.requires.before c.requires.row.0 in
    (R.0, R.1, simp length-set (omega (arith, R)), R.5, R.6)

pub returns-clause-after : goal.returns-clause-after
returns-clause-after c = record {
  room = record {
    seen-long = rw (c.join.ensures.seen, length-set) c.requires.before.room.seen-long;
    prior-long = rw (c.join.ensures.prior, length-set) c.requires.before.room.prior-long;
    last-long = rw (c.join.ensures.last, length-set, length-set) c.requires.before.room.last-long;
  };
  filed = rw (c.join.ensures.seen, c.join.ensures.prior, c.join.ensures.last) (filed-opened c.requires.before.filed (lists-in c.requires.before) c.requires.row.0 c.requires.row.1.0 c.requires.row.1.1
      (sym (c.requires.row.1.2 c.args.r (alike_refl c.args.r))) c.requires.row.2);
}
