use Rattle.writing.proofs.Writings.{join}
use Rattle.listing.proofs.put_row.Goals as goal

pub returns : goal.returns
returns c = join (join (join (join c.put_number.ensures c.put.ensures) c.put_number-2.ensures) c.put_runs.ensures) c.put-2.ensures
