use mathlib.Core.Path.{sym, ◌∙◌}
use mathlib.Core.Bool.{true, false}
use native.Mathlib.Omega.{arith}
use Rattle.rules.proofs.TableLaws.{read_none}
use Rattle.table.proofs.CheckLaws.{well}
use Rattle.ends.proofs.ReadingLaws.{longest-begun, ended}
use Rattle.ends.proofs.last_end.Goals as goal

pub find_most-most-requires : goal.find_most-most-requires
find_most-most-requires c =
    let C = c.args.checked.now in (
      (read_none (well C.passed).formed C.text.now c.args.start c.requires c.begin-begun.ensures.row).row,
      omega arith,
    )

pub bounds-checked-all : goal.bounds-checked-all
bounds-checked-all c = let g = well c.args.checked.now.passed in
    omega (arith, c.find_ends-all.ensures.0.row)

pub returns-then-ends_here : goal.returns-then-ends_here
returns-then-ends_here c =
    let B = c.begin-begun.ensures in
    let begun = longest-begun _ _ c.begin-begun.result c.requires B.row B.at B.found in
    sym (ended c.args.start begun c.find_most-most.ensures c.find_ends-all.ensures true (sym c.ends_here.ensures ∙ c.if-ends_here.true))

pub returns : goal.returns
returns c =
    let B = c.begin-begun.ensures in
    let begun = longest-begun _ _ c.begin-begun.result c.requires B.row B.at B.found in
    sym (ended c.args.start begun c.find_most-most.ensures c.find_ends-all.ensures false (sym c.ends_here.ensures ∙ c.if-ends_here.false))
