use mathlib.Core.Path.{◌≡◌, ap, ap₂, sym, ◌∙◌}
use mathlib.Core.List.{List}
use Prim.Native.Nat.{ℕ, ◌+◌}
use native.Mathlib.Omega.{arith}
use lib.ListN.{length}
use Rattle.rules.specs.Table.{first}
use Rattle.table.specs.Lent.{lent_table}
use Rattle.table.specs.declared.Lent.{Lent}
use Rattle.passing.specs.Run.{first_from}
use Rattle.passing.proofs.FirstLaws.{first-none}
use Rattle.first.proofs.TriesLaws.{first-here}
use Rattle.first.proofs.find.Goals as goal
use Rattle.first.proofs.find.Goals.{After-of-search}

-- the search is of the table and the text
same : (c : After-of-search) → let S = c.of-search.result in let C = c.args.checked.now in first (lent_table S.table) S.text.now ≡ first (lent_table C.table) C.text.now
same c = ap₂ (λ (l : Lent) (t : List ℕ). first (lent_table l) t) c.of-search.ensures.0 c.of-search.ensures.1

pub returns-in-Start : goal.returns-in-Start
returns-in-Start c =
    let S = c.of-search.result in
    let E = c.in-Start.ensures in
    c.last_match.ensures ∙ sym (E.0 ∙ first-here (lent_table S.table) S.text.now E.1.0 E.1.1) ∙ same (goal.at.returns-in-Start c).After-of-search

pub returns-then-search-s : goal.returns-then-search-s
returns-then-search-s c =
    let S = c.of-search.result in
    let E = c.in-NoneBelow.ensures in
    let e : c.in-NoneBelow.s ≡ length S.text.now + 1 = omega (arith, E.1, c.if-search-s.true) in
    sym (E.0 ∙ ap (first_from (lent_table S.table) S.text.now) e ∙ first-none (lent_table S.table) S.text.now)
    ∙ same (goal.at.returns-then-search-s c).After-of-search

pub returns-else-search-s : goal.returns-else-search-s
returns-else-search-s c = c.read_on.ensures ∙ sym c.in-NoneBelow.ensures.0 ∙ same (goal.at.returns-else-search-s c).After-of-search
