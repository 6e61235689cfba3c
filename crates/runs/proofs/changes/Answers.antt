use Rattle.runs.proofs.Parting.{changes-are}
use Rattle.runs.proofs.changes.Goals as goal

pub returns : goal.returns
returns c = changes-are c.args.word c.args.below
