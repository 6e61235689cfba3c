use borrow.Author.Rules.{rules}
use Rattle.std.proofs.lemmas.List.{take_more}
use Rattle.writing.proofs.Writings.{join}
use Rattle.writing.proofs.Page.put_all.Goals as goal

pub loop-b-preserved : goal.loop-b-preserved
loop-b-preserved c = rw (take_more c.args.text.now c.loop-b.b-index 0 (search rules)) (join c.loop-b.invariant c.put.ensures)
