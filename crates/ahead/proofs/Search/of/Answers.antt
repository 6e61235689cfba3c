use Rattle.table.proofs.CheckLaws.{well}
use Rattle.ahead.proofs.Search.of.Goals as goal

pub dead_row-requires : goal.dead_row-requires
dead_row-requires c = well c.args.checked.now.passed
