use native.Mathlib.Omega.{arith}
use Rattle.cutting.proofs.MoveLaws.{first, next, to-swap, carried_none, carried-next, to-cut}
use Rattle.cutting.proofs.CutLaws.{cut-here}
use Rattle.cutting.proofs.cut_group.Goals as goal

pub bounds-classes-c : goal.bounds-classes-c
bounds-classes-c c = (first c.args.classes.now c.args.groups.now c.requires.standing c.requires.grouped).number

pub loop-x-init : goal.loop-x-init
loop-x-init c = carried_none c.args.classes.now c.args.groups.now c.requires.standing c.requires.grouped

pub offset_bounds-groups-x-in-loop-x : goal.offset_bounds-groups-x-in-loop-x
offset_bounds-groups-x-in-loop-x c = omega (arith, next c.loop-x.invariant c.requires.grouped c.loop-x-test.true)

pub bounds-groups-x-in-loop-x : goal.bounds-groups-x-in-loop-x
bounds-groups-x-in-loop-x c = (next c.loop-x.invariant c.requires.grouped c.loop-x-test.true).seen-long

pub overflow_sub-at : goal.overflow_sub-at
overflow_sub-at c = omega (arith, next c.loop-x.invariant c.requires.grouped c.loop-x-test.true)

pub swap-requires : goal.swap-requires
swap-requires c = to-swap c.loop-x.invariant c.requires.grouped c.loop-x-test.true

pub offset_bounds-groups-x-in-loop-x-2 : goal.offset_bounds-groups-x-in-loop-x-2
offset_bounds-groups-x-in-loop-x-2 c = omega (arith, next c.loop-x.invariant c.requires.grouped c.loop-x-test.true)

pub bounds-groups-x-in-loop-x-2 : goal.bounds-groups-x-in-loop-x-2
bounds-groups-x-in-loop-x-2 c = (next c.loop-x.invariant c.requires.grouped c.loop-x-test.true).prior-long

pub loop-x-smaller : goal.loop-x-smaller
loop-x-smaller c = (next c.loop-x.invariant c.requires.grouped c.loop-x-test.true).less

pub loop-x-preserved : goal.loop-x-preserved
loop-x-preserved c = carried-next c.loop-x.invariant c.requires.grouped c.loop-x-test.true c.swap.ensures.same_lists c.swap.ensures.classes_kept c.swap.ensures.swapped

pub cut-requires : goal.cut-requires
cut-requires c = to-cut c.loop-x.invariant c.requires.grouped

pub returns-clause-cut_off : goal.returns-clause-cut_off
returns-clause-cut_off c = cut-here c.loop-x.invariant c.cut.new.self c.requires.grouped.1 c.loop-x-test.false c.cut.ensures.cut
