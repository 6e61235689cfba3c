use mathlib.Core.Path.{◌≡◌, ap, sym, ◌∙◌}
use Prim.Native.Nat.{ℕ, ◌+◌}
use native.Mathlib.Omega.{arith}
use lib.ListN.{drop}
use Rattle.rules.specs.Table.{first}
use Rattle.rules.proofs.TableLaws.{read_none}
use Rattle.table.specs.Lent.{lent_table}
use Rattle.ahead.specs.Ahead.{ahead, is_start}
use Rattle.passing.specs.Run.{first_from}
use Rattle.ahead.proofs.AheadLaws.{flags-end}
use Rattle.table.proofs.CheckLaws.{well}
use Rattle.first.proofs.TriesLaws.{first-all, first-skip}
use Rattle.first.proofs.tries.try_each.Goals as goal
use Rattle.first.proofs.tries.try_each.Goals.{After-look-walk, Else-walk}

pub flags_at_end-flags-requires : goal.flags_at_end-flags-requires
flags_at_end-flags-requires c = well c.args.search.now.passed

-- whether the start has a match
answer : (c : After-look-walk) → let S = c.args.search.now in c.look-walk.result.found ≡ is_start (lent_table S.table) S.text.now c.loop-s.s
answer c = let S = c.args.search.now in
    c.look-walk.ensures.answer ∙ ap (λ (q : ℕ). ahead (lent_table S.table) q (drop c.loop-s.s S.text.now)) c.begin.ensures

-- where it has none, it is passed
passed : (c : Else-walk) → let S = c.args.search.now in first (lent_table S.table) S.text.now ≡ first_from (lent_table S.table) S.text.now (c.loop-s.s + 1)
passed c = let S = c.args.search.now in
    c.loop-s.invariant.past
    ∙ first-skip (lent_table S.table) S.text.now (omega arith)
    (sym (c.look-walk.ensures.answer ∙ ap (λ (q : ℕ). ahead (lent_table S.table) q (drop c.loop-s.s S.text.now)) c.begin.ensures) ∙ c.if-walk.false)

pub loop-s-init : goal.loop-s-init
loop-s-init c = record { cheap = omega arith; past = first-all _ _ }

pub look-walk-requires : goal.look-walk-requires
look-walk-requires c = let S = c.args.search.now in record {
  row = (read_none (well S.passed).formed S.text.now c.loop-s.s (omega arith) c.begin.ensures).row;
  forward = omega arith;
  inside = omega arith;
  flagged = flags-end S.text.now c.flags_at_end-flags.ensures;
}

pub returns-then-walk : goal.returns-then-walk
returns-then-walk c = (c.loop-s.invariant.past, (omega arith, sym (answer (goal.at.returns-then-walk c).After-look-walk) ∙ c.if-walk.true))

pub returns-then-n-spent : goal.returns-then-n-spent
returns-then-n-spent c = (passed (goal.at.returns-then-n-spent c).Else-walk, omega arith)

pub loop-s-preserved : goal.loop-s-preserved
loop-s-preserved c = record { cheap = c.if-n-spent.false; past = passed (goal.at.loop-s-preserved c).Else-walk }
