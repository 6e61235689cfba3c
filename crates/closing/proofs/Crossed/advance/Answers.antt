use mathlib.Core.Path.{refl, ◌∙◌}
use Rattle.closing.proofs.Sweeps.{advanced-past, advanced-on, taken-lt}
use Rattle.closing.proofs.Crossed.advance.Goals as goal

pub returns-then-pending-i-eq0 : goal.returns-then-pending-i-eq0
returns-then-pending-i-eq0 c =
    let S = c.requires.0 in
    (refl, (S.long, advanced-past c.args.pending.now _ _ c.args.i c.requires.1.0 S.small c.requires.1.1 c.if-pending-i-eq0.true))

pub follow-requires : goal.follow-requires
follow-requires c =
    let S = c.requires.0 in
    let u = c.take_out-u.ensures in
    (record { nodes = S.nodes; wide = S.wide; long = u.long ∙ S.long; small = S.small }, taken-lt c.requires.1.1 u)

pub returns : goal.returns
returns c =
    (c.follow.ensures.0, (c.follow.ensures.1.0, advanced-on c.take_out-u.ensures c.requires.1.0 c.requires.0.small c.requires.1.1 c.follow.ensures.1.1))
