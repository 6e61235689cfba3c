use mathlib.Core.Path.{refl}
use native.Mathlib.Omega.{arith}
use Rattle.round.proofs.GroupLaws.{filed-none, filed-later, passed_none, passed_over, sorted_all}
use Rattle.round.proofs.sort.Goals as goal

pub loop-r-init : goal.loop-r-init
loop-r-init c = rw c.into_iter-r-iterator.ensures.into_iter_gives record {
  can_next = tt;
  is_finite = tt;
  rows = (refl, refl);
  same_lists = ((refl, refl, refl), (refl, refl, refl));
  filed = record { room = c.requires.room.0; filed = filed-none c.requires.room.1 c.requires.room.2 };
  passed = passed_none c.args.keys.now.class.now;
}

pub sort_row-requires-clause-passed_before : goal.sort_row-requires-clause-passed_before
sort_row-requires-clause-passed_before c = passed_over c.loop-r.invariant.passed c.requires.touches.0 c.loop-r.invariant.rows.0 c.in-Some.ensures.steps.3.1

pub returns-clause-sorted : goal.returns-clause-sorted
returns-clause-sorted c =
    let I = c.loop-r.invariant in
    sorted_all (omega arith) (filed-later I.filed.filed c.loop-r.r-iterator.n c.loop-r.r-iterator.within) (passed_over I.passed c.requires.touches.0 I.rows.0 c.in-None.ensures.steps.3)
