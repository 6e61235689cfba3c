use borrow.Author.Rules.{rules}
use mathlib.Core.Path.{◌≡◌, sym, ◌∙◌}
use mathlib.Core.Bool.{true}
use native.Mathlib.Omega.{arith}
use Rattle.rules.specs.Table.{well_formed, WellFormed}
use Rattle.rules.proofs.TableLaws.{well-formed-test}
use Rattle.table.specs.Lent.{lent_table}
use Rattle.dot.proofs.Lengths.{dot-most}
use Rattle.writing.proofs.Answered.{formed-shown, unformed-shown}
use Rattle.dot.proofs.write_dot.Goals as goal
use Rattle.dot.proofs.write_dot.Goals.{Else-not-is_well_formed}

formed : (c : Else-not-is_well_formed) → well_formed (lent_table c.args.table.now) ≡ true
formed c = sym c.is_well_formed.ensures ∙ c.if-not-is_well_formed.false

good : (c : Else-not-is_well_formed) → WellFormed (lent_table c.args.table.now)
good c = (well-formed-test _).0 (formed c)

pub returns-then-not-is_well_formed : goal.returns-then-not-is_well_formed
returns-then-not-is_well_formed c = unformed-shown (lent_table c.args.table.now) _ _ (sym c.is_well_formed.ensures ∙ c.if-not-is_well_formed.true)

pub put_dot-requires : goal.put_dot-requires
put_dot-requires c = (good (goal.at.put_dot-requires c).Else-not-is_well_formed).formed

pub written-requires : goal.written-requires
written-requires c =
    let g = good (goal.at.written-requires c).Else-not-is_well_formed in
    let most = dot-most g in
    omega (arith, c.put_dot.ensures.writes (omega arith))

pub returns : goal.returns
returns c =
    let f = (goal.at.returns c).Else-not-is_well_formed in
    let g = good f in
    let most = dot-most g in
    let shown_page = formed-shown c.written.result c.on-page.ensures.start (omega arith) c.put_dot.ensures c.written.ensures _ (formed f) in
    search (rules, rw c.on-page.ensures.buffer at shown_page)
