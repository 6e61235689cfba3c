use mathlib.Core.Path.{◌≡◌, refl, subst}
use Prim.Native.Nat.{suc, ◌-◌}
use native.Mathlib.Omega.{arith}
use Rattle.spine.specs.Parts.{Part}
use Rattle.spine.proofs.PartLaws.{nonempty}
use Rattle.spine.proofs.SpineLaws.{reached, parted, down-more}
use Rattle.spine.proofs.descend.Goals as goal

pub loop-left_end-init : goal.loop-left_end-init
loop-left_end-init c = ((refl, refl), nonempty c.requires.0, omega arith, omega arith)

pub left_of-requires : goal.left_of-requires
left_of-requires c =
    let w = c.loop-left_end.invariant in
    let H = reached _ _ _ _ _ _ _ c.requires.1 w.0 c.requires.0 in
    let q : c.loop-left_end.at ≡ suc (c.loop-left_end.at - 1) = omega (arith, w.1) in
    (rw c.from.ensures (λ e. (parted (omega (arith, w, c.requires)) e (subst (Part c.args.program.now) q H.part)).fits), omega (arith, w, c.requires))

pub loop-left_end-preserved : goal.loop-left_end-preserved
loop-left_end-preserved c =
    let w = c.loop-left_end.invariant in
    let D = down-more _ _ _ _ _ _ (omega (arith, w, c.requires, c.loop-left_end.auto.spine)) w.1 w.0 (rw (c.in-Some.is, c.from.ensures) at c.left_of.ensures) in
    let R = reached _ _ _ _ _ _ _ c.requires.1 D c.requires.0 in
    (D, nonempty R.part, R.room, R.near)
