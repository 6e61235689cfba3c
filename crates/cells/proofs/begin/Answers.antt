use mathlib.Core.Path.{◌≡◌, ap, ◌∙◌}
use native.Mathlib.Omega.{arith}
use Prim.Native.Nat.{ℕ}
use lib.ListN.{length, replicate}
use Rattle.rules.specs.Tools.{with}
use Rattle.nodesets.specs.NodeSets.{mask_of}
use Rattle.nodesets.proofs.NodeSetLaws.{mask-none}
use Rattle.cells.specs.Cells.{taken_at}
use Rattle.cells.proofs.RowLaws.{seeds-first, begin-later}
use Rattle.cells.proofs.begin.Goals as goal

pub returns-then-q-lt2 : goal.returns-then-q-lt2
returns-then-q-lt2 c =
    let w = length c.args.set.now in
    let none : c.fill.new.self ≡ replicate w 0 = c.fill.ensures.after (λ y h. h) in
    (c.put_in.ensures.0 ∙ c.fill.ensures.len, c.put_in.ensures.1 ∙ ap (λ (m : ℕ). with m 0) (ap mask_of none ∙ mask-none w) ∙ seeds-first (taken_at w c.args.sets.now) c.args.q c.if-q-lt2.true)

pub returns : goal.returns
returns c =
    let fits = c.requires.1.1.0 c.if-q-lt2.false in
    begin-later c.args.sets.now (length c.args.set.now) c.args.q c.if-q-lt2.false (omega (arith, fits, c.requires.1.0)) (c.requires.1.1.1 c.if-q-lt2.false) c.nodes_after.ensures
