use Rattle.columns.proofs.ColumnLaws.{columns_of}
use Rattle.columns.proofs.list.Goals as goal

pub returns : goal.returns
returns c = (c.gather.ensures.0, columns_of c.note_rows.ensures c.gather.ensures.1)
