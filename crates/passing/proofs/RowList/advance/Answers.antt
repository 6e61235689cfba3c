use mathlib.Core.Path.{refl, ap, sym, ◌∙◌}
use Prim.Native.Nat.{◌<◌}
use native.Mathlib.Omega.{arith}
use Rattle.passing.specs.declared.Entry.{Entry}
use Rattle.passing.specs.Run.{entry_at}
use Rattle.table.proofs.CheckLaws.{well}
use Rattle.passing.proofs.KeptLaws.{kept_few}
use Rattle.passing.proofs.RunLaws.{running_none, running_more, running-hit, running-all}
use Rattle.passing.proofs.RowList.advance.Goals as goal
use Rattle.passing.proofs.RowList.advance.Goals.{In-loop-i}

-- the entry is within the list, and its row is a row
inside : (c : In-loop-i) → c.loop-i.i < 1024
inside c = omega (arith, kept_few c.requires.0, c.loop-i-test.true, (well c.args.search.now.passed).few-rows)

row : (c : In-loop-i) → (entry_at c.loop-i.self.entries c.loop-i.i).row.0 < c.args.search.now.table.rows
row c = omega (arith, ap (λ (e : Entry). e.row.0) (c.loop-i.invariant.rest c.loop-i.i (omega arith)), c.requires.0.below c.loop-i.i c.loop-i-test.true)

pub loop-i-init : goal.loop-i-init
loop-i-init c = running_none _ _ _ _ c.requires.0

pub offset_bounds-self-i : goal.offset_bounds-self-i
offset_bounds-self-i c = omega (arith, inside (goal.at.offset_bounds-self-i c).In-loop-i)

pub bounds-self-i : goal.bounds-self-i
bounds-self-i c = inside (goal.at.bounds-self-i c).In-loop-i

pub carry-kept-requires-clause-entry : goal.carry-kept-requires-clause-entry
carry-kept-requires-clause-entry c = (row (goal.at.carry-kept-requires-clause-entry c).In-loop-i, c.requires.1)

pub bounds-search-entry : goal.bounds-search-entry
bounds-search-entry c = omega (arith, row (goal.at.bounds-search-entry c).In-loop-i, (well c.args.search.now.passed).formed.marks-long)

pub loop-i-preserved : goal.loop-i-preserved
loop-i-preserved c = running_more _ _ _ _ c.loop-i.invariant c.loop-i-test.true c.requires.1 refl c.carry-kept.ensures (sym c.ends_here.ensures ∙ c.if-ends_here.false)

pub returns-then-ends_here : goal.returns-then-ends_here
returns-then-ends_here c = running-hit _ _ _ _ c.loop-i.invariant c.loop-i-test.true c.requires.1 refl c.carry-kept.ensures (sym c.ends_here.ensures ∙ c.if-ends_here.true)

pub returns : goal.returns
returns c = running-all _ _ _ _ c.loop-i.invariant c.loop-i-test.false
