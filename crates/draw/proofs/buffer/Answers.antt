use mathlib.Core.Path.{sym}
use Prim.Native.Nat.{ℕ}
use lib.ListN.{length-replicate}
use Rattle.draw.specs.Graphs.{graph_most}
use Rattle.draw.proofs.buffer.Goals as goal

pub returns : goal.returns
returns c = sym (length-replicate {0} {A = ℕ} graph_most 0)
