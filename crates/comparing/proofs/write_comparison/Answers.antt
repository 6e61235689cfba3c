use borrow.Author.Rules.{rules}
use mathlib.Core.Path.{ap, ◌∙◌}
use mathlib.Core.List.{List}
use Prim.Native.Nat.{ℕ}
use native.Mathlib.Omega.{arith}
use Rattle.rules.specs.Answers.{given}
use Rattle.writing.specs.Texts.{shown_in}
use Rattle.writing.proofs.Answered.{written-shown}
use Rattle.comparing.proofs.write_comparison.Goals as goal

-- the text of what is found, and the answer for its length
pub returns : goal.returns
returns c =
    let shown_page = rw c.on-page.ensures.buffer at (written-shown c.written.result c.on-page.ensures.start (omega arith) c.put_finding.ensures.puts c.written.ensures) in
    let said = shown_page ∙ ap (λ (text : List ℕ). shown_in c.args.out.now (given text)) c.compare.ensures in
    search (rules, said)
