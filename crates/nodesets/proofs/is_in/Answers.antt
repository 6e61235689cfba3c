use mathlib.Core.Path.{◌∙◌, sym}
use Rattle.nodesets.proofs.NodeSetLaws.{mask-has}
use Rattle.nodesets.proofs.is_in.Goals as goal

pub returns : goal.returns
returns c = c.test.ensures ∙ sym (mask-has c.args.set.now c.args.v.0)
