use Rattle.known.proofs.Buckets.{store-row}
use Rattle.known.proofs.store.Goals as goal

pub returns : goal.returns
returns c =
    store-row c.args.r c.requires.1 c.requires.0 c.copy.ensures
