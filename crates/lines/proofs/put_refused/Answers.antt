use Rattle.rules.specs.Listing.{listing}
use Rattle.writing.proofs.Writings.{join}
use Rattle.lines.proofs.put_refused.Goals as goal

-- the pieces of the line in order
pub returns : goal.returns
unfolding listing
returns c = join (join (join (join c.put_all.ensures c.put_number.ensures) c.put_all-2.ensures) c.put_number-2.ensures) c.put.ensures
