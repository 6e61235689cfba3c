use mathlib.Core.Path.{◌∙◌, ap}
use lib.ListN.{length}
use Rattle.sets.proofs.SetLaws.{put-long}
use Rattle.nodesets.specs.NodeSets.{mask_of}
use Rattle.nodesets.proofs.NodeSetLaws.{mask-put}
use Rattle.nodesets.proofs.put_in.Goals as goal

pub returns : goal.returns
returns c = (ap length c.put.ensures ∙ put-long c.args.set.now c.args.v.0, ap mask_of c.put.ensures ∙ mask-put c.args.set.now c.args.v.0 c.requires)
