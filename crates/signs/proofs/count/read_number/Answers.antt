use mathlib.Core.Path.{sym}
use native.Mathlib.Omega.{arith}
use Rattle.signs.proofs.CountLaws.{digit-within, one-digit, two_digits, three-digits, limited-reads}
use Rattle.signs.proofs.count.read_number.Goals as goal

-- `read_number`: one to three digits.
pub returns-in_default : goal.returns-in_default
returns-in_default c = let p = c.args.p.now in let i = c.args.at in
    let first = sym c.in_ok-x.ensures in
    let h = digit-within p i first in
    limited-reads p i _ _ c.at_most.ensures (one-digit p i first (sym c.in_default.ensures)) (omega arith) (omega arith)

pub returns-in_default-digit_at : goal.returns-in_default-digit_at
returns-in_default-digit_at c = let p = c.args.p.now in let i = c.args.at in
    let second = sym c.in-Some.ensures in
    let h = digit-within p _ second in
    limited-reads p i _ _ c.at_most-in_default-digit_at.ensures (two_digits p i (sym c.in_ok-x.ensures) second (sym c.in_default-digit_at.ensures)) (omega arith) (omega arith)

pub returns : goal.returns
returns c = let p = c.args.p.now in let i = c.args.at in
    let third = sym c.in-Some-digit_at.ensures in
    let h = digit-within p _ third in
    limited-reads p i _ _ c.at_most-2.ensures (three-digits p i (sym c.in_ok-x.ensures) (sym c.in-Some.ensures) third) (omega arith) (omega arith)
