use Rattle.bytesets.specs.ByteSets.{bytes_of}
use Rattle.runs.proofs.Masks.{Putting}
use Rattle.runs.proofs.put_node.Given as goal

abbrev pub invariant-loop-k : goal.invariant-loop-k
invariant-loop-k l = Putting l.initial.masks l.masks (bytes_of l.set) l.u.0 l.starts l.k
