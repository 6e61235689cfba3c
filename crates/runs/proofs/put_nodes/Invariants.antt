use mathlib.Core.Path.{◌≡◌}
use lib.ListN.{length}
use Rattle.entries.specs.Entries.{kinds_of, atoms_of}
use Rattle.runs.specs.Runs.{MaskedTo}
use Rattle.runs.proofs.put_nodes.Given as goal

abbrev pub invariant-loop-u : goal.invariant-loop-u
invariant-loop-u l = record {
  long : length l.masks ≡ length l.initial.masks;
  masked : MaskedTo l.u l.program (kinds_of l.nodes) (atoms_of l.nodes) l.starts l.masks l.runs;
}
