use Rattle.parting.proofs.PartLaws.{named_rows}
use Rattle.parting.proofs.name.Goals as goal

pub name_within-requires-clause-named : goal.name_within-requires-clause-named
name_within-requires-clause-named c = named_rows c.requires.grid c.requires.room c.list-many.ensures.1

pub name_within-requires-else-marks-le-FEW-clause-named : goal.name_within-requires-else-marks-le-FEW-clause-named
name_within-requires-else-marks-le-FEW-clause-named c = named_rows c.requires.grid c.requires.room c.list-many.ensures.1
