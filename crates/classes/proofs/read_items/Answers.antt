use native.Mathlib.Omega.{arith}
use mathlib.Core.Path.{sym}
use Rattle.signs.proofs.Places.{stands, not_there}
use Rattle.classes.proofs.ClassLaws.{items-bad, items-end, items_more, items-whole}
use Rattle.classes.proofs.read_items.Goals as goal

pub items-init : goal.items-init
items-init c = (omega arith, omega arith, λ r k. sym (items-whole _ _ (rw c.none-set.ensures at k)))

pub items-preserved : goal.items-preserved
items-preserved c = let m = c.in_ok-set.ensures in
    (omega (arith, m.moves), m.moves.1, λ r k. c.items.invariant.2 r (items_more _ _ _ _ _ (sym m.is) m.moves.0 m.moves.1 (not_there c.stands_at.ensures c.if-stands_at.false) k))

pub returns-in_err-set : goal.returns-in_err-set
returns-in_err-set c = rw c.from_residual.ensures record { is = c.items.invariant.2 _ (items-bad _ _ _ (sym c.in_err-set.ensures.is)); moves = tt }

pub returns : goal.returns
returns c = let m = c.in_ok-set.ensures in
    let h = c.stands_at.ensures.within c.if-stands_at.true in
    record { is = c.items.invariant.2 _ (items-end _ _ _ _ _ (sym m.is) m.moves.0 m.moves.1 (stands c.stands_at.ensures c.if-stands_at.true)); moves = omega (arith, m.moves) }
