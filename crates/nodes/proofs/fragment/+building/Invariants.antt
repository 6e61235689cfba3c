use Rattle.std.proofs.Common.{◌+◌, ◌*◌}
use Rattle.nodes.proofs.CopyLaws.{Copying}
use Rattle.nodes.proofs.TurnLaws.{Stands}
use Rattle.nodes.proofs.fragment.+building.Given as goal

-- A part's end falls at each call that goes to a smaller part; else the functions are in this order.
abbrev pub decreases-build_after : goal.decreases-build_after
decreases-build_after l = 7 * l.end + 2

abbrev pub decreases-build_around : goal.decreases-build_around
decreases-build_around l = 7 * l.end + 3

abbrev pub decreases-build_bottom : goal.decreases-build_bottom
decreases-build_bottom l = 7 * l.end

abbrev pub decreases-build_copies : goal.decreases-build_copies
decreases-build_copies l = 7 * l.end + 5

abbrev pub decreases-build_copy : goal.decreases-build_copy
decreases-build_copy l = 7 * l.end + 4

abbrev pub decreases-build_part : goal.decreases-build_part
decreases-build_part l = 7 * l.end + 1

abbrev pub decreases-build_repeat : goal.decreases-build_repeat
decreases-build_repeat l = 7 * l.end + 6

-- The copies that are left come after those that stand.
abbrev pub invariant-build_copies-loop-end_node : goal.invariant-build_copies-loop-end_node
invariant-build_copies-loop-end_node l = Copying l.program l.end l.back l.fn.copies l.left l.fn.base.0 l.at.0 l.fn.nodes l.nodes

abbrev pub decreases-build_copies-loop-end_node : goal.decreases-build_copies-loop-end_node
decreases-build_copies-loop-end_node l = l.left.plain + l.left.extra

-- What was built stands up to `last`; the operations that are left on the spine stand above it.
abbrev pub invariant-build_part-loop-up : goal.invariant-build_part-loop-up
invariant-build_part-loop-up l = Stands l.program l.end l.fn.base.0 l.fn.nodes l.spine l.up l.start.0 l.nodes l.last.0
