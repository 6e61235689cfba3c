use borrow.Author.Rules.{rules}
use Rattle.rules.specs.Listing.{listing}
use Rattle.writing.proofs.Writings.{join}
use Rattle.lines.proofs.LineLaws.{refused-most}
use Rattle.findings.proofs.texts.put_named.Goals as goal

pub returns-clause-puts : goal.returns-clause-puts
unfolding listing
returns-clause-puts c = join c.put_all.ensures (rw (c.number.ensures, c.place.ensures) at c.put_refused.ensures)

-- its numbers are of 32 bits
pub returns-clause-short : goal.returns-clause-short
unfolding listing
returns-clause-short c = rw (c.number.ensures, c.place.ensures) at (refused-most c.number.result c.place.result (search rules) (search rules))
