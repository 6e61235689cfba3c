use mathlib.Core.Path.{ap, ap₂, ◌∙◌}
use mathlib.Core.Bool.{true, false}
use mathlib.Core.List.{List, ◌++◌}
use Prim.Native.Nat.{ℕ, ◌≤◌}
use native.Mathlib.Omega.{arith}
use lib.ListN.{length, drop}
use borrow.Author.Tests.{lt-ltb, le-ltb}
use Rattle.std.specs.Prelude.{Ok, Err}
use Rattle.rules.specs.Matchers.{listed_in}
use Rattle.rules.specs.Table.{starts}
use Rattle.table.specs.Lent.{lent_table}
use Rattle.kinds.specs.declared.Refusal.TheVariants.{FewPlaces}
use Rattle.answers.specs.Answers.{listed_of}
use Rattle.starts.proofs.StartsLaws.{starts-most, starts-answered}
use Rattle.starts.proofs.starts.Goals as goal
use Rattle.starts.proofs.starts.Goals.{Joined-list-text, then-list-text+else-list-count, else-list-text}

pub overflow_cast-result : goal.overflow_cast-result
overflow_cast-result c = let S = c.of-search.result in
    omega (arith, c.count_starts-count.ensures, starts-most (lent_table S.table) S.text.now, S.passed.short)

pub returns-then-list-count : goal.returns-then-list-count
unfolding listed_in
returns-then-list-count c =
    let S = c.of-search.result in
    let l = c.args.list.now in
    ap (λ (k : ℕ). listed_of (Err (FewPlaces k)) l) c.count_starts-count.ensures
    ∙ starts-answered S c.in_ok-of.field-0 c.of-search.ensures c.in_ok-of.ensures l true (lt-ltb _ _ (omega (arith, c.count_starts-count.ensures, c.if-list-count.true)))

room : (c : Joined-list-text) → let S = c.of-search.result in length (starts (lent_table S.table) S.text.now) ≤ length c.args.list.now
room c = let S = c.of-search.result in
    elim c.if-list-text.branch [
      | then-list-text+else-list-count w ↦ omega (arith, w.count_starts-count.ensures, w.if-list-count.false)
      | else-list-text w ↦ omega (arith, starts-most (lent_table S.table) S.text.now, w.if-list-text.false, ap length c.of-search.ensures.1, ap length c.in_ok-of.ensures.1)
    ]

pub list_starts-requires : goal.list_starts-requires
list_starts-requires c = room (goal.at.list_starts-requires c).Joined-list-text

pub returns : goal.returns
unfolding listed_in
returns c =
    let S = c.of-search.result in
    let l = c.args.list.now in
    let xs = starts (lent_table S.table) S.text.now in
    let E = c.list_starts.ensures in
    ap₂ (λ (n : ℕ) (x : List ℕ). listed_of (Ok n) x) E.value (E.list_after ∙ ap (λ (n : ℕ). xs ++ drop n l) E.value)
    ∙ starts-answered S c.in_ok-of.field-0 c.of-search.ensures c.in_ok-of.ensures l false (le-ltb _ _ (room (goal.at.returns c).Joined-list-text))
