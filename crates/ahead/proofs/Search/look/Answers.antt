use mathlib.Core.Path.{sym, ◌∙◌}
use native.Mathlib.Omega.{arith}
use borrow.Author.Tests.{eqb-true}
use Rattle.table.proofs.CheckLaws.{well}
use Rattle.ahead.proofs.AheadLaws.{on-more, on-hit, on-dead, on-end}
use Rattle.ahead.proofs.Search.look.Goals as goal

pub overflow_cast-row : goal.overflow_cast-row
overflow_cast-row c = let g = well c.args.self.now.passed in
    omega arith

pub bounds-self-row : goal.bounds-self-row
bounds-self-row c = let g = well c.args.self.now.passed in
    omega arith

pub returns-then-ends_here : goal.returns-then-ends_here
returns-then-ends_here c =
    record { answer = on-hit c.loop-p.invariant c.requires.inside c.loop-p-test.true (sym c.ends_here.ensures ∙ c.if-ends_here.true); few = omega arith }

pub returns-then-eq : goal.returns-then-eq
returns-then-eq c = let S = c.args.self.now in record {
  answer = on-dead c.loop-p.invariant c.requires.inside S.stuck S.passed.bytes (eqb-true _ _ (sym c.if-eq.ensures));
  few = omega arith;
}

pub step-row-requires : goal.step-row-requires
step-row-requires c = let g = well c.args.self.now.passed in
    omega arith

pub loop-p-preserved : goal.loop-p-preserved
loop-p-preserved c = let S = c.args.self.now in
    on-more (well S.passed) c.loop-p.invariant c.loop-p-test.true c.requires.inside (S.passed.bytes _) (sym c.ends_here.ensures ∙ c.if-ends_here.false) c.step-row.ensures

pub overflow_cast-result : goal.overflow_cast-result
overflow_cast-result c = let g = well c.args.self.now.passed in
    omega arith

pub bounds-flags-row : goal.bounds-flags-row
bounds-flags-row c = let g = well c.args.self.now.passed in
    omega arith

pub returns : goal.returns
returns c = record { answer = on-end c.loop-p.invariant c.requires.inside c.args.flags.now c.requires.flagged c.loop-p-test.false; few = omega arith }
