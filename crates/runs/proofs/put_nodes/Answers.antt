use mathlib.Core.Path.{◌≡◌, refl, sym, ◌∙◌}
use Prim.Native.Nat.{◌<◌}
use native.Mathlib.Omega.{arith}
use lib.ListN.{length}
use Rattle.entries.specs.Entries.{kinds_of, atoms_of}
use Rattle.entries.proofs.EntryLaws.{length-kinds, get-kind, get-atom}
use Rattle.runs.proofs.KindLaws.{is-bytes, not-bytes}
use Rattle.runs.proofs.Masks.{masked-none, masked-in, masked-out, runs-are}
use Rattle.runs.proofs.put_nodes.Goals as goal
use Rattle.runs.proofs.put_nodes.Goals.{then-eq, else-eq}

pub loop-u-init : goal.loop-u-init
loop-u-init c =
    let A = c.args in
    record { long = refl; masked = masked-none A.program.now (kinds_of A.nodes.now) (atoms_of A.nodes.now) A.starts.now A.runs (length A.masks.now) c.requires.0 }

pub atom_set-set-requires : goal.atom_set-set-requires
atom_set-set-requires c =
    let l = c.args.nodes.now in
    let u = c.loop-u.u in
    rw (get-atom l u) at (c.requires.1.1.0.are u (omega (arith, length-kinds l)) (get-kind l u ∙ is-bytes _ c.if-eq.ensures))

pub overflow_cast-u : goal.overflow_cast-u
overflow_cast-u c =
    omega (arith, length-kinds c.args.nodes.now, c.requires.1.1.0.few)

pub put_node-requires : goal.put_node-requires
put_node-requires c =
    (omega (arith, c.requires.1.0, c.loop-u.invariant.long), (omega (arith, length-kinds c.args.nodes.now, c.requires.1.1.0.few), c.requires.1.1.1.are))

pub loop-u-preserved : goal.loop-u-preserved
loop-u-preserved c =
    let l = c.args.nodes.now in
    let u = c.loop-u.u in
    let I = c.loop-u.invariant in
    let low : u < length (kinds_of l) = omega (arith, length-kinds l) in
    let A = c.args in
    elim c.if-eq.branch [
      | then-eq w ↦ rw w.masks-is (record {
        long = w.put_node.ensures.long ∙ I.long;
        masked = masked-in A.program.now (kinds_of l) (atoms_of l) A.starts.now A.runs c.loop-u.masks u I.masked low (get-kind l u ∙ is-bytes _ w.if-eq.ensures)
            (rw (get-atom l u) w.atom_set-set.ensures) w.put_node.ensures;
      })
      | else-eq w ↦ rw w.masks-is (record {
        long = I.long;
        masked = masked-out A.program.now (kinds_of l) (atoms_of l) A.starts.now A.runs c.loop-u.masks u I.masked (λ e. not-bytes _ w.if-eq.ensures (sym (get-kind l u) ∙ e));
      })
    ]

pub returns : goal.returns
returns c =
    let I = c.loop-u.invariant in
    let e : c.loop-u.u ≡ length (kinds_of c.args.nodes.now) = omega (arith, length-kinds c.args.nodes.now) in
    runs-are c.requires.1.1.1 (omega (arith, c.requires.1.0, I.long)) (λ k v l. rw e at (I.masked k v l))
