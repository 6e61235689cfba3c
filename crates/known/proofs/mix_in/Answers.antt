use mathlib.Core.Path.{◌∙◌, ap}
use Prim.Native.Nat.{ℕ, ◌+◌, ◌*◌}
use Rattle.known.proofs.Mixed.{mixed-past, mixed-word}
use Rattle.known.proofs.mix_in.Goals as goal

pub returns-then-word-eq0 : goal.returns-then-word-eq0
returns-then-word-eq0 c =
    mixed-past c.args.h c.args.i c.args.word c.if-word-eq0.true

pub returns : goal.returns
returns c =
    ap (λ (z : ℕ). z + c.args.i * 2246822519) c.mix.ensures.0 ∙ mixed-word c.args.h c.args.i c.args.word c.if-word-eq0.false
