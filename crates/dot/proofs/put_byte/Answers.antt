use Rattle.writing.proofs.Writings.{join}
use Rattle.dot.proofs.DotLaws.{byte-digits, byte-behind, byte-itself}
use Rattle.dot.proofs.put_byte.Goals as goal

pub returns-then-b : goal.returns-then-b
returns-then-b c = rw (byte-digits c.args.b c.if-b.true) c.put_digits.ensures

pub returns-then-b-2 : goal.returns-then-b-2
returns-then-b-2 c = rw (byte-behind c.args.b c.if-b.false c.if-b-2.true) (join c.put.ensures c.put-then-b-2.ensures)

pub returns-else-b-2 : goal.returns-else-b-2
returns-else-b-2 c = rw (byte-itself c.args.b c.if-b.false c.if-b-2.false) c.put-else-b-2.ensures
