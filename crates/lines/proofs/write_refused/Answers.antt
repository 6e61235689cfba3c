use borrow.Author.Rules.{rules}
use native.Mathlib.Omega.{arith}
use Rattle.writing.proofs.Answered.{written-shown}
use Rattle.lines.proofs.LineLaws.{refused-most}
use Rattle.lines.proofs.write_refused.Goals as goal

pub written-requires : goal.written-requires
written-requires c = let most = refused-most c.args.number c.args.place (search rules) (search rules) in omega (arith, c.put_refused.ensures.writes (omega arith))

pub returns : goal.returns
returns c =
    let most = refused-most c.args.number c.args.place (search rules) (search rules) in
    let shown_page = rw c.on-page.ensures.buffer at (written-shown c.written.result c.on-page.ensures.start (omega arith) c.put_refused.ensures c.written.ensures) in
    search (rules, shown_page)
