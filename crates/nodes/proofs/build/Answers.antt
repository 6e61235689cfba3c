use native.Mathlib.Omega.{arith}
use Rattle.rules.specs.Nodes.{node_count}
use Rattle.nodes.proofs.TreeLaws.{tree-built}
use Rattle.nodes.proofs.build.Goals as goal

-- `build`: the fragment from node 0 on, and an end node without edges.
pub returns-in_err-last : goal.returns-in_err-last
unfolding node_count
returns-in_err-last c h = rw c.from_residual.ensures (omega (arith, c.in_err-last.ensures h))

pub put-requires : goal.put-requires
put-requires c = (c.in_ok-last.ensures c.requires.1.part).low

pub returns : goal.returns
unfolding node_count
returns c h = tree-built _ h.tree _ _ _ _ (c.in_ok-last.ensures h) c.put.ensures
