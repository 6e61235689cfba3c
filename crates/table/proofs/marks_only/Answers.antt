use borrow.Author.Rules.{rules}
use Rattle.rules.specs.Table.{is_mark}
use Rattle.rules.proofs.TableLaws.{all-on}
use Rattle.table.proofs.marks_only.Goals as goal

pub loop-mark-preserved : goal.loop-mark-preserved
loop-mark-preserved c = all-on is_mark c.args.marks.now 0 c.loop-mark.mark-index (search rules) c.loop-mark.invariant
