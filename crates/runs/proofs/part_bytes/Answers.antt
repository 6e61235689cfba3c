use mathlib.Core.Path.{sym, ◌∙◌}
use native.Mathlib.Omega.{arith}
use Rattle.entries.specs.Entries.{kinds_of, atoms_of}
use Rattle.entries.proofs.EntryLaws.{length-kinds, get-kind, get-atom}
use Rattle.runs.proofs.KindLaws.{is-bytes, not-bytes}
use Rattle.runs.proofs.Parting.{parted-in, parted-out}
use Rattle.runs.proofs.part_bytes.Goals as goal
use Rattle.runs.proofs.part_bytes.Goals.{then-eq, else-eq}

pub atom_set-requires : goal.atom_set-requires
atom_set-requires c =
    let l = c.args.nodes.now in
    let u = c.loop-entry.entry-index in
    rw (get-atom l u) at (c.requires.1.are u (omega (arith, length-kinds l)) (get-kind l u ∙ is-bytes _ c.if-eq.ensures))

pub loop-entry-preserved : goal.loop-entry-preserved
loop-entry-preserved c =
    let l = c.args.nodes.now in
    let u = c.loop-entry.entry-index in
    let I = c.loop-entry.invariant in
    elim c.if-eq.branch [
      | then-eq w ↦ rw w.parted-is (record {
        long = w.part_by.ensures.long ∙ I.long;
        parted = parted-in c.args.program.now (kinds_of l) (atoms_of l) c.loop-entry.parted I.parted (rw (get-atom l u) w.atom_set.ensures) w.part_by.ensures;
      })
      | else-eq w ↦ rw w.parted-is (record {
        long = I.long;
        parted = parted-out c.args.program.now (kinds_of l) (atoms_of l) c.loop-entry.parted I.parted (λ e. not-bytes _ w.if-eq.ensures (sym (get-kind l u) ∙ e));
      })
    ]
