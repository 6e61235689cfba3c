use Rattle.writing.proofs.Writings.{join}
use Rattle.dot.proofs.DotLaws.{bytes_one, bytes-more}
use Rattle.dot.proofs.put_bytes.Goals as goal

pub returns-then-run : goal.returns-then-run
returns-then-run c = rw (bytes-more c.args.run.lo c.args.run.hi c.if-run.true) (join (join c.put_byte.ensures c.put.ensures) c.put_byte-then-run.ensures)

pub returns-else-run : goal.returns-else-run
returns-else-run c = rw (bytes_one c.args.run.lo c.args.run.hi c.if-run.false) c.put_byte.ensures
