use borrow.Author.Rules.{rules}
use mathlib.Core.Path.{◌≡◌, sym, ◌∙◌}
use mathlib.Core.Bool.{true}
use native.Mathlib.Omega.{arith}
use Rattle.rules.specs.Table.{well_formed, WellFormed}
use Rattle.rules.proofs.TableLaws.{well-formed-test}
use Rattle.table.specs.Lent.{lent_table}
use Rattle.listing.proofs.LineLaws.{listing-most}
use Rattle.writing.proofs.Answered.{formed-shown, unformed-shown}
use Rattle.listing.proofs.write_table.Goals as goal
use Rattle.listing.proofs.write_table.Goals.{Else-not-is_well_formed}

formed : (c : Else-not-is_well_formed) → well_formed (lent_table c.args.table.now) ≡ true
formed c = sym c.is_well_formed.ensures ∙ c.if-not-is_well_formed.false

good : (c : Else-not-is_well_formed) → WellFormed (lent_table c.args.table.now)
good c = (well-formed-test _).0 (formed c)

pub returns-then-not-is_well_formed : goal.returns-then-not-is_well_formed
returns-then-not-is_well_formed c = unformed-shown (lent_table c.args.table.now) _ _ (sym c.is_well_formed.ensures ∙ c.if-not-is_well_formed.true)

pub put_table-requires : goal.put_table-requires
put_table-requires c = let f = (good (goal.at.put_table-requires c).Else-not-is_well_formed).formed in (f.marks-long, f.cells-long)

pub written-requires : goal.written-requires
written-requires c =
    let g = good (goal.at.written-requires c).Else-not-is_well_formed in
    let most = listing-most g in
    omega (arith, c.put_table.ensures.writes (omega arith))

pub returns : goal.returns
returns c =
    let f = (goal.at.returns c).Else-not-is_well_formed in
    let g = good f in
    let most = listing-most g in
    let shown_page = formed-shown c.written.result c.on-page.ensures.start (omega arith) c.put_table.ensures c.written.ensures _ (formed f) in
    search (rules, rw c.on-page.ensures.buffer at shown_page)
