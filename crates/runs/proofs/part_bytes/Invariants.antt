use mathlib.Core.Path.{◌≡◌}
use lib.ListN.{length}
use Rattle.entries.specs.Entries.{kinds_of, atoms_of}
use Rattle.runs.specs.Runs.{PartedTo}
use Rattle.runs.proofs.part_bytes.Given as goal

abbrev pub invariant-loop-entry : goal.invariant-loop-entry
invariant-loop-entry l = record {
  long : length l.parted ≡ 4;
  parted : PartedTo l.entry-index l.program (kinds_of l.nodes) (atoms_of l.nodes) l.parted;
}
