use mathlib.Core.Path.{◌≡◌, ap, sym, ◌∙◌}
use mathlib.Core.Bool.{true, false}
use mathlib.Core.List.{List, ◌∷◌, ◌++◌, reverse, reverse-cons}
use Prim.Native.Nat.{ℕ, ◌+◌, ◌-◌}
use native.Mathlib.Omega.{arith}
use lib.ListN.{length, set, drop, length-reverse}
use Rattle.table.specs.Lent.{lent_table}
use Rattle.ahead.specs.Ahead.{starts_from}
use Rattle.ahead.proofs.PlaceLaws.{starts-all, starts_none}
use Rattle.starts.proofs.StartsLaws.{starts-back, starts-few}
use Rattle.starts.proofs.BackLaws.{set_next, come_down}
use Rattle.starts.proofs.back.list_back.Goals as goal
use Rattle.starts.proofs.back.list_back.Goals.{Then-look, then-count-list, else-count-list}

pub loop-s-init : goal.loop-s-init
loop-s-init c = let S = c.args.search.now in
    let e = starts_none (lent_table S.table) S.text.now in
    record { pass = c.begin-back.ensures; counted = sym (ap length e); listed = λ h. sym (ap (λ (l : List ℕ). reverse l ++ c.args.list.now) e) }

pub look-requires : goal.look-requires
look-requires c = come_down c.loop-s.invariant.pass (omega arith)

-- the starts from s - 1 on, at a start
one : (c : Then-look) → let S = c.args.search.now in
    starts_from (lent_table S.table) S.text.now (c.loop-s.s - 1) ≡ (c.loop-s.s - 1) ∷ starts_from (lent_table S.table) S.text.now c.loop-s.s
one c =
    let S = c.args.search.now in
    starts-back (lent_table S.table) S.text.now c.loop-s.s true (omega arith) (omega arith) (sym c.look.ensures.answer ∙ c.if-look.true)

pub overflow_add-count : goal.overflow_add-count
overflow_add-count c = let S = c.args.search.now in
    omega (arith, c.loop-s.invariant.counted, starts-few (lent_table S.table) S.text.now c.loop-s.s, S.passed.short)

pub loop-s-preserved-then-look : goal.loop-s-preserved-then-look
loop-s-preserved-then-look c =
    let S = c.args.search.now in
    let old = c.args.list.now in
    let n = c.loop-s.count in
    let s = c.loop-s.s - 1 in
    let l = starts_from (lent_table S.table) S.text.now c.loop-s.s in
    let more = one (goal.at.loop-s-preserved-then-look c).Then-look in
    let I = c.loop-s.invariant in
    record {
      pass = c.look.ensures.pass;
      counted = omega (arith, ap length more, I.counted);
      listed = λ h. elim c.if-count-list.branch [
        | then-count-list w ↦
            w.list-is ∙ ap (λ (x : List ℕ). set x n s) (I.listed (omega arith))
            ∙ set_next (reverse l) old n s (length-reverse l ∙ sym I.counted) (omega arith)
            ∙ ap (λ (x : List ℕ). x ++ drop (n + 1) old) (sym (ap (λ (x : List ℕ). reverse x) more ∙ reverse-cons s l))
        | else-count-list w ↦ absurd (omega (arith, w.if-count-list.false))
      ];
    }

pub loop-s-preserved : goal.loop-s-preserved
loop-s-preserved c =
    let S = c.args.search.now in
    let e = starts-back (lent_table S.table) S.text.now c.loop-s.s false (omega arith) (omega arith) (sym c.look.ensures.answer ∙ c.if-look.false) in
    record {
      pass = c.look.ensures.pass;
      counted = c.loop-s.invariant.counted ∙ sym (ap length e);
      listed = λ h. c.loop-s.invariant.listed h ∙ ap (λ (x : List ℕ). reverse x ++ drop c.loop-s.count c.args.list.now) (sym e);
    }

pub returns : goal.returns
returns c =
    let S = c.args.search.now in
    let w = lent_table S.table in
    let z : c.loop-s.s ≡ 0 = omega arith in
    let e = ap (starts_from w S.text.now) z ∙ sym (starts-all w S.text.now) in
    record {
      value = c.loop-s.invariant.counted ∙ ap length e;
      list_after = λ h. c.loop-s.invariant.listed h ∙ ap (λ (l : List ℕ). reverse l ++ drop c.loop-s.count c.args.list.now) e;
    }
