use Rattle.writing.proofs.Writings.{join}
use Rattle.dot.proofs.put_arrow.Goals as goal

pub returns : goal.returns
returns c = join (join (join (join (join c.put_number.ensures c.put_all.ensures) c.put_number-2.ensures) c.put_all-2.ensures) c.put_bytes.ensures) c.put_all-3.ensures
