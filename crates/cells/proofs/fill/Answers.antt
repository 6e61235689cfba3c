use Rattle.rules.specs.Sizes.{words_a_row}
use lib.ListN.{length}
use Rattle.cells.proofs.Filling.{zeros-front}
use Rattle.cells.proofs.fill.Goals as goal

pub fill_runs-requires-clause-within : goal.fill_runs-requires-clause-within
fill_runs-requires-clause-within c = (
  record { low = c.used_end-to.ensures.0; high = c.used_end-to.ensures.1.0; before = c.first_used-from.ensures.1; after = c.used_end-to.ensures.1.1 },
  zeros-front (length c.args.set.now) words_a_row c.requires.1.0,
)
