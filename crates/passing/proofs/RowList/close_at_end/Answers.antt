use mathlib.Core.Path.{◌≡◌, ap, sym, ◌∙◌}
use Prim.Native.Nat.{◌<◌}
use native.Mathlib.Omega.{arith}
use lib.ListN.{take}
use lib.Seq.{length-take-le, get_or-take}
use Rattle.passing.specs.declared.Entry.{Entry}
use Rattle.passing.specs.Run.{entry_at}
use Rattle.table.proofs.CheckLaws.{well}
use Rattle.passing.proofs.KeptLaws.{kept_few}
use Rattle.passing.proofs.RunLaws.{closing_none, closing_more, closing-hit, closing-all}
use Rattle.passing.proofs.RowList.close_at_end.Goals as goal
use Rattle.passing.proofs.RowList.close_at_end.Goals.{In-loop-entry}

pub shared_ref_as_front-entry-items : goal.shared_ref_as_front-entry-items
shared_ref_as_front-entry-items c = omega (arith, kept_few c.requires, (well c.args.search.now.passed).few-rows)

pub loop-entry-init : goal.loop-entry-init
loop-entry-init c = closing_none _ _ _

within : (c : In-loop-entry) → c.loop-entry.entry-index < c.args.self.now.len
within c = let l = c.args.self.now in
    omega (arith, c.loop-entry-test.true, length-take-le l.len l.entries (omega (arith, kept_few c.requires, c.requires.entries_long)))

same : (c : In-loop-entry) → entry_at (take c.args.self.now.len c.args.self.now.entries) c.loop-entry.entry-index ≡ entry_at c.args.self.now.entries c.loop-entry.entry-index
same c = let h : c.loop-entry.entry-index < c.args.self.now.len = within c in rw get_or-take

pub bounds-search-entry : goal.bounds-search-entry
bounds-search-entry c =
    let I = (goal.at.bounds-search-entry c).In-loop-entry in
    let g = well c.args.search.now.passed in
    omega (arith, ap (λ (e : Entry). e.row.0) (same I), c.requires.below c.loop-entry.entry-index (within I))

pub returns-then-ends_here : goal.returns-then-ends_here
returns-then-ends_here c =
    let I = (goal.at.returns-then-ends_here c).In-loop-entry in
    closing-hit _ _ _ c.loop-entry.invariant (within I) (same I) (sym c.ends_here.ensures ∙ c.if-ends_here.true)

pub loop-entry-preserved : goal.loop-entry-preserved
loop-entry-preserved c =
    let I = (goal.at.loop-entry-preserved c).In-loop-entry in
    closing_more _ _ _ c.loop-entry.invariant (within I) (same I) (sym c.ends_here.ensures ∙ c.if-ends_here.false)

pub returns : goal.returns
returns c = let l = c.args.self.now in
    closing-all _ _ _ c.loop-entry.invariant (omega (arith, c.loop-entry-test.false, length-take-le l.len l.entries (omega (arith, kept_few c.requires, c.requires.entries_long))))
