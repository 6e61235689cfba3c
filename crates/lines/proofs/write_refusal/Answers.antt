use Rattle.rules.specs.Listing.{listing}
use Rattle.lines.proofs.write_refusal.Goals as goal

-- `write_refusal` meets its contract: the line of a refusal is that of its number and its place.
pub returns : goal.returns
unfolding listing
returns c = rw (c.number.ensures, c.place.ensures) at c.write_refused.ensures
