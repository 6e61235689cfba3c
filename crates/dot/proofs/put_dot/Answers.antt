use Rattle.writing.proofs.Writings.{join}
use Rattle.dot.specs.Dot.{dot}
use Rattle.dot.proofs.put_dot.Goals as goal

pub returns : goal.returns
unfolding dot
returns c = join (join (join (join c.put_all.ensures c.put_number.ensures) c.put_all-2.ensures) c.put_rows.ensures) c.put_all-3.ensures
