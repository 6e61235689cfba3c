use mathlib.Core.Path.{ap, sym, ◌∙◌}
use mathlib.Core.Bool.{true, false}
use native.Mathlib.Omega.{arith}
use borrow.Author.Tests.{eqb-true}
use Rattle.passing.specs.Run.{found_of}
use Rattle.table.proofs.CheckLaws.{well}
use Rattle.first.proofs.TriesLaws.{ending-none, ending-more, ending-dead, ending-end}
use Rattle.first.proofs.tries.last_match.Goals as goal
use Rattle.first.proofs.tries.last_match.Goals.{then-ends_here, else-ends_here}

pub loop-p-init : goal.loop-p-init
loop-p-init c = ending-none (well c.args.search.now.passed) c.requires c.begin-row.ensures

pub returns-then-eq : goal.returns-then-eq
returns-then-eq c = let S = c.args.search.now in
    ending-dead (well S.passed) c.loop-p.invariant S.stuck S.passed.bytes (eqb-true _ _ (sym c.if-eq.ensures))

pub overflow_cast-row : goal.overflow_cast-row
overflow_cast-row c = let g = well c.args.search.now.passed in
    omega arith

pub bounds-search-row : goal.bounds-search-row
bounds-search-row c = let g = well c.args.search.now.passed in
    omega arith

pub step-row-requires : goal.step-row-requires
step-row-requires c = let g = well c.args.search.now.passed in
    omega arith

pub loop-p-preserved : goal.loop-p-preserved
loop-p-preserved c =
    let S = c.args.search.now in
    let more = ending-more (well S.passed) c.loop-p.invariant (omega arith) (S.passed.bytes c.loop-p.p) c.step-row.ensures in
    elim c.if-ends_here.branch [
      | then-ends_here w ↦ more true (sym c.ends_here.ensures ∙ w.if-ends_here.true) (ap found_of w.best-is)
      | else-ends_here w ↦ more false (sym c.ends_here.ensures ∙ w.if-ends_here.false) (ap found_of w.best-is)
    ]

pub overflow_cast-row-2 : goal.overflow_cast-row-2
overflow_cast-row-2 c = let g = well c.args.search.now.passed in
    omega arith

pub bounds-search-row-2 : goal.bounds-search-row-2
bounds-search-row-2 c = let g = well c.args.search.now.passed in
    omega arith

pub returns-then-ends_here-2 : goal.returns-then-ends_here-2
returns-then-ends_here-2 c = let S = c.args.search.now in
    ending-end c.loop-p.invariant c.loop-p-test.false true (sym c.ends_here-2.ensures ∙ c.if-ends_here-2.true)

pub returns : goal.returns
returns c = let S = c.args.search.now in
    ending-end c.loop-p.invariant c.loop-p-test.false false (sym c.ends_here-2.ensures ∙ c.if-ends_here-2.false)
