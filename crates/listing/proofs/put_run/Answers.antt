use Rattle.writing.proofs.Writings.{join}
use Rattle.listing.proofs.put_run.Goals as goal

pub returns : goal.returns
returns c = join (join (join (join (join c.put.ensures c.put_number.ensures) c.put-2.ensures) c.put_number-2.ensures) c.put-3.ensures) c.put_number-3.ensures
