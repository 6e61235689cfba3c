use Rattle.writing.proofs.Writings.{join}
use Rattle.rules.specs.Listing.{listing}
use Rattle.listing.proofs.put_table.Goals as goal

pub returns : goal.returns
unfolding listing
returns c = join (join (join (join (join c.put_all.ensures c.put_number.ensures) c.put_all-2.ensures) c.put_number-2.ensures) c.put.ensures) c.put_rows.ensures
