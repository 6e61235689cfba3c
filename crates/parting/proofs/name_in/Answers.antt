use mathlib.Core.Path.{◌∙◌}
use Rattle.parting.proofs.PartLaws.{settled-names}
use Rattle.parting.proofs.name_in.Goals as goal

pub returns-clause-names : goal.returns-clause-names
returns-clause-names c = settled-names c.part.ensures.settled (c.name.auto.class ∙ c.requires.named.1) c.name.ensures
