-- The builders. In their cycle the end of the part falls at each call.
use Rattle.std.proofs.Common.{◌≡◌, ◌+◌, ◌-◌, sym, ◌∙◌, arith, rules}
use Rattle.rules.specs.Nodes.{frag}
use Rattle.spine.proofs.PartLaws.{nonempty, shaped, leaf-shaped}
use Rattle.nodes.proofs.BuiltLaws.{empty-built, head-built, tail-built, bytes-built, around-built}
use Rattle.nodes.proofs.CopyLaws.{no_copies, plain_copy, extra-copy, copying-more, copying-last, copying-over, copying-full}
use Rattle.nodes.proofs.TurnLaws.{again, lent, bottom, stands-bottom, turn, turn-over, turn-full, turn_up, stands-all}
use Rattle.entries.specs.Entries.{pick}
use Rattle.nodes.proofs.fragment.+building.Goals as goal
use Rattle.nodes.proofs.fragment.+building.Goals.{build_around-then-skip, build_around-else-skip, build_around-then-back, build_around-else-back}

-- build_after
pub build_after-returns : goal.build_after-returns
build_after-returns t c h =
    let q : c.args.before.0 + 1 ≡ c.in_ok-base.base.0 = omega (arith, c.in_ok-base.ensures) in
    rw q (c.build_part.ensures h)

-- build_around
pub build_around-returns : goal.build_around-returns
build_around-returns t c h =
    let x = c.args.base.0 + 1 in
    let e = c.in_ok-e.e.0 in
    let s : c.if-skip.empties.0 ≡ pick c.args.skip e x = elim c.if-skip.branch [ build_around-then-skip w ↦ search rules | build_around-else-skip w ↦ search rules ] in
    let b : c.if-back.empties.0 ≡ pick c.args.back x e = elim c.if-back.branch [ build_around-then-back w ↦ search rules | build_around-else-back w ↦ search rules ] in
    around-built _ c.args.skip c.args.back (frag h.tree) _ _ _ _ _ _ _ (c.in_ok-x_end.ensures h) c.in_ok-e.ensures.0 c.in_ok-e.ensures.1
    (rw (c.empties.ensures, s) at c.put.ensures)
    (rw (c.empties-2.ensures, b) at c.put-2.ensures)

-- build_bottom
pub build_bottom-overflow_sub-i : goal.build_bottom-overflow_sub-i
build_bottom-overflow_sub-i t c = nonempty c.requires.2.part

pub build_bottom-bounds-program-i : goal.build_bottom-bounds-program-i
build_bottom-bounds-program-i t c = omega (arith, c.requires.2.within, nonempty c.requires.2.part)

pub build_bottom-build_repeat-requires : goal.build_bottom-build_repeat-requires
build_bottom-build_repeat-requires t c =
    let r = c.requires.2 in
    let v = shaped _ _ r.within (sym c.from.ensures ∙ c.in-Repeated.is) r.part in
    (omega (arith, c.decreases, nonempty r.part), (omega (arith, c.requires.1), again r (omega arith) v.part r.low))

pub build_bottom-returns-in-Nothing : goal.build_bottom-returns-in-Nothing
build_bottom-returns-in-Nothing t c h =
    rw (shaped _ _ c.requires.2.within (sym c.from.ensures ∙ c.in-Nothing.is) h) (empty-built _ _ _ _ c.link.result c.link.ensures)

pub build_bottom-returns-in-Head : goal.build_bottom-returns-in-Head
build_bottom-returns-in-Head t c h =
    rw (shaped _ _ c.requires.2.within (sym c.from.ensures ∙ c.in-Head.is) h) (head-built _ _ _ _ c.link-in-Head.result c.link-in-Head.ensures)

pub build_bottom-returns-in-Tail : goal.build_bottom-returns-in-Tail
build_bottom-returns-in-Tail t c h =
    rw (shaped _ _ c.requires.2.within (sym c.from.ensures ∙ c.in-Tail.is) h) (tail-built _ _ _ _ c.link-in-Tail.result c.link-in-Tail.ensures)

pub build_bottom-returns-in-Repeated : goal.build_bottom-returns-in-Repeated
build_bottom-returns-in-Repeated t c h =
    let v = shaped _ _ c.requires.2.within (sym c.from.ensures ∙ c.in-Repeated.is) h in
    rw v.is (c.build_repeat.ensures v.part)

pub build_bottom-returns-in_default : goal.build_bottom-returns-in_default
build_bottom-returns-in_default t c h =
    let k = c.requires in
    let d = c.in_default in
    let v = leaf-shaped _ _ c.from.result k.2.within (sym c.from.ensures) d.not-Nothing d.not-Head d.not-Tail d.not-Repeated (rw c.from.ensures k.0) h in
    rw v.is (bytes-built _ _ _ _ c.link-in_default.result _ v.atom c.link-in_default.ensures)

-- build_copies
pub build_copies-returns-then-none : goal.build_copies-returns-then-none
build_copies-returns-then-none t c h =
    let k = c.args.copies in
    rw (no_copies k.plain k.extra c.args.back (frag h.tree) (c.none.ensures.0 c.if-none.true)) (empty-built _ _ _ _ c.link.result c.link.ensures)

pub build_copies-returns-in_err-end_node : goal.build_copies-returns-in_err-end_node
build_copies-returns-in_err-end_node t c h = rw c.from_residual.ensures (copying-over c.loop-end_node.invariant h (c.in_err-end_node.ensures h))

pub build_copies-returns-then-none-2 : goal.build_copies-returns-then-none-2
build_copies-returns-then-none-2 t c =
    copying-last c.loop-end_node.invariant c.rest-left.ensures c.in_ok-end_node.ensures (c.none-in-loop-end_node.ensures.0 c.if-none-2.true)

pub build_copies-link-requires-in-loop-end_node : goal.build_copies-link-requires-in-loop-end_node
build_copies-link-requires-in-loop-end_node t c = (c.in_ok-end_node.ensures c.requires.1.part).low

pub build_copies-returns-in_err-at : goal.build_copies-returns-in_err-at
build_copies-returns-in_err-at t c h =
    rw c.from_residual-in_err-at.ensures (copying-full c.loop-end_node.invariant c.rest-left.ensures h (c.in_ok-end_node.ensures h) (grind arith) c.in_err-at.ensures)

pub build_copies-loop-end_node-preserved : goal.build_copies-loop-end_node-preserved
build_copies-loop-end_node-preserved t c =
    copying-more c.loop-end_node.invariant c.rest-left.ensures c.in_ok-end_node.ensures (grind arith) c.in_ok-at.ensures

-- build_copy
pub build_copy-returns-then-copies-gt0 : goal.build_copy-returns-then-copies-gt0
build_copy-returns-then-copies-gt0 t c h = rw (plain_copy c.args.copies.plain c.args.back (frag h.tree) (omega arith)) (c.build_part.ensures h)

pub build_copy-returns-else-copies-gt0 : goal.build_copy-returns-else-copies-gt0
build_copy-returns-else-copies-gt0 t c h = rw (extra-copy c.args.copies.plain c.args.back (frag h.tree) (omega arith)) (c.build_around.ensures h)

-- build_part
pub build_part-returns-then-start-ge-NODES_MOST : goal.build_part-returns-then-start-ge-NODES_MOST
build_part-returns-then-start-ge-NODES_MOST t c h =
    let R = bottom _ _ _ _ c.requires.1 c.descend-bottom.ensures.way h in
    omega (arith, R.deep)

pub build_part-build_bottom-requires : goal.build_part-build_bottom-requires
build_part-build_bottom-requires t c =
    let k = c.requires.1 in
    let R = bottom _ _ _ _ k c.descend-bottom.ensures.way k.part in (
      omega (arith, c.decreases, R.room),
      (
        c.descend-bottom.ensures.whole,
        lent c.descend-bottom.result.passed _ c.descend-bottom.new.spine (omega (arith, R.room, c.descend-bottom.auto.spine)),
        again k (omega (arith, R.room)) R.part (omega (arith, c.if-start-ge-NODES_MOST.false)),
      ),
    )

pub build_part-returns-in_err-last : goal.build_part-returns-in_err-last
build_part-returns-in_err-last t c h =
    let R = bottom _ _ _ _ c.requires.1 c.descend-bottom.ensures.way h in
    rw c.from_residual.ensures (omega (arith, c.in_err-last.ensures R.part, R.deep))

pub build_part-loop-up-init : goal.build_part-loop-up-init
build_part-loop-up-init t c =
    let s = c.descend-bottom.new.spine in
    let R = bottom s _ _ _ c.requires.1 c.descend-bottom.ensures.way c.requires.1.part in
    stands-bottom s c.build_bottom.new.spine _ (omega (arith, R.room, c.descend-bottom.auto.spine)) c.descend-bottom.ensures.way c.in_ok-last.ensures

pub build_part-build_after-requires : goal.build_part-build_after-requires
build_part-build_after-requires t c =
    let T = turn c.requires.1 c.loop-up-test.true c.loop-up.invariant in (
      omega (arith, c.decreases, T.room),
      (
        lent (c.loop-up.up - 1) _ c.loop-up.spine (omega (arith, T.room, c.loop-up.auto.spine, c.requires.0)),
        again c.requires.1 (omega (arith, T.room)) T.right T.low,
      ),
    )

pub build_part-returns-in_err-y_end : goal.build_part-returns-in_err-y_end
build_part-returns-in_err-y_end t c h =
    let T = turn c.requires.1 c.loop-up-test.true c.loop-up.invariant in
    rw c.from_residual-in_err-y_end.ensures (turn-over T.within T.some c.loop-up.invariant c.in_err-y_end.ensures h)

pub build_part-bounds-program-i : goal.build_part-bounds-program-i
build_part-bounds-program-i t c =
    let T = turn c.requires.1 c.loop-up-test.true c.loop-up.invariant in
    omega (arith, T.room, T.within)

pub build_part-start_of-start-requires : goal.build_part-start_of-start-requires
build_part-start_of-start-requires t c = rw c.from-op.ensures (turn c.requires.1 c.loop-up-test.true c.loop-up.invariant).back

pub build_part-combine-requires : goal.build_part-combine-requires
build_part-combine-requires t c =
    let T = turn c.requires.1 c.loop-up-test.true c.loop-up.invariant in
    (omega (arith, c.start_of-start.ensures, T.order, T.low), T.low, (c.in_ok-y_end.ensures T.right).low)

pub build_part-returns-in_err-last-2 : goal.build_part-returns-in_err-last-2
build_part-returns-in_err-last-2 t c h =
    let T = turn c.requires.1 c.loop-up-test.true c.loop-up.invariant in
    let o = c.from-op.ensures in
    rw c.from_residual-in_err-last-2.ensures
    (turn-full T.within T.some c.loop-up.invariant _ _ _ (rw o at c.start_of-start.ensures) c.in_ok-y_end.ensures h (rw o at c.in_err-last-2.ensures))

pub build_part-loop-up-preserved : goal.build_part-loop-up-preserved
build_part-loop-up-preserved t c =
    let T = turn c.requires.1 c.loop-up-test.true c.loop-up.invariant in
    let o = c.from-op.ensures in
    turn_up T.within T.some c.loop-up.invariant _ _ _ (rw o at c.start_of-start.ensures) c.in_ok-y_end.ensures
    c.requires.1.part _ _ c.build_after.new.spine _ (omega (arith, T.room, c.loop-up.auto.spine, c.requires.0)) (rw o at c.in_ok-last-2.ensures)

pub build_part-returns : goal.build_part-returns
build_part-returns t c = stands-all (omega (arith, c.loop-up-test.false)) c.loop-up.invariant

-- build_repeat
pub build_repeat-returns-in-Star : goal.build_repeat-returns-in-Star
build_repeat-returns-in-Star t c h = rw c.in-Star.is (c.build_around.ensures h)

pub build_repeat-returns-in-Plus : goal.build_repeat-returns-in-Plus
build_repeat-returns-in-Plus t c h = rw c.in-Plus.is (c.build_around-in-Plus.ensures h)

pub build_repeat-returns-in-Maybe : goal.build_repeat-returns-in-Maybe
build_repeat-returns-in-Maybe t c h = rw c.in-Maybe.is (c.build_around-in-Maybe.ensures h)

pub build_repeat-returns-in-Times : goal.build_repeat-returns-in-Times
build_repeat-returns-in-Times t c h = rw c.in-Times.is (c.build_copies.ensures h)

pub build_repeat-returns-in-AtLeast : goal.build_repeat-returns-in-AtLeast
build_repeat-returns-in-AtLeast t c h = rw c.in-AtLeast.is (c.build_copies-in-AtLeast.ensures h)
