use mathlib.Core.Path.{ap, ◌∙◌}
use mathlib.Core.Bool.{true, false}
use borrow.Author.Tests.{lt-ltb, le-ltb}
use Rattle.rules.specs.Answers.{given}
use Rattle.ends.proofs.ReadingLaws.{longest-given, longest-answered}
use Rattle.ends.proofs.longest.Goals as goal

pub returns-then-text-start : goal.returns-then-text-start
returns-then-text-start c = longest-answered c.in_ok-checked.checked c.in_ok-checked.ensures c.args.start true (lt-ltb _ _ c.if-text-start.true)

pub returns : goal.returns
returns c =
    longest-given c.last_end.result ∙ ap given c.last_end.ensures
    ∙ longest-answered c.in_ok-checked.checked c.in_ok-checked.ensures c.args.start false (le-ltb _ _ c.if-text-start.false)
