use mathlib.Core.Path.{◌≡◌, ap, sym, ◌∙◌}
use mathlib.Core.Bool.{true, false}
use native.Mathlib.Omega.{arith}
use lib.ListN.{length}
use Rattle.table.specs.Lent.{lent_table}
use Rattle.ahead.specs.Ahead.{starts_from}
use Rattle.ahead.proofs.PlaceLaws.{starts-all, starts_none}
use Rattle.starts.proofs.StartsLaws.{starts-back, starts-few}
use Rattle.starts.proofs.BackLaws.{come_down}
use Rattle.starts.proofs.back.count_starts.Goals as goal

pub loop-s-init : goal.loop-s-init
loop-s-init c = let S = c.args.search.now in
    record { pass = c.begin-back.ensures; counted = sym (ap length (starts_none (lent_table S.table) S.text.now)) }

pub look-requires : goal.look-requires
look-requires c = come_down c.loop-s.invariant.pass (omega arith)

pub overflow_add-count : goal.overflow_add-count
overflow_add-count c = let S = c.args.search.now in
    omega (arith, c.loop-s.invariant.counted, starts-few (lent_table S.table) S.text.now c.loop-s.s, S.passed.short)

pub loop-s-preserved-then-look : goal.loop-s-preserved-then-look
loop-s-preserved-then-look c =
    let S = c.args.search.now in
    let e = starts-back (lent_table S.table) S.text.now c.loop-s.s true (omega arith) (omega arith) (sym c.look.ensures.answer ∙ c.if-look.true) in
    record { pass = c.look.ensures.pass; counted = omega (arith, ap length e, c.loop-s.invariant.counted) }

pub loop-s-preserved : goal.loop-s-preserved
loop-s-preserved c =
    let S = c.args.search.now in
    let e = starts-back (lent_table S.table) S.text.now c.loop-s.s false (omega arith) (omega arith) (sym c.look.ensures.answer ∙ c.if-look.false) in
    record { pass = c.look.ensures.pass; counted = c.loop-s.invariant.counted ∙ sym (ap length e) }

pub returns : goal.returns
returns c =
    let S = c.args.search.now in
    let w = lent_table S.table in
    let z : c.loop-s.s ≡ 0 = omega arith in
    c.loop-s.invariant.counted ∙ ap length (ap (starts_from w S.text.now) z ∙ sym (starts-all w S.text.now))
