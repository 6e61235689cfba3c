use mathlib.Core.Path.{refl, sym, ◌∙◌}
use native.Mathlib.Omega.{arith}
use Rattle.bytesets.specs.ByteSets.{bytes_of}
use Rattle.classes.proofs.ClassLaws.{added_twice, name-this, name-later, no_name, name-read}
use Rattle.classes.proofs.read_name.Goals as goal

-- `read_name`: the names are tried in their order.
pub returns-then-spells : goal.returns-then-spells
returns-then-spells c = let p = c.args.p.now in let at = c.args.at in
    name-read p at (bytes_of c.args.set) 9
    (name-this p at _ _ c.if-spells.ensures.value)
    c.with_range.ensures (omega arith) (c.if-spells.ensures.bound refl) (omega arith)

pub returns-then-spells-2 : goal.returns-then-spells-2
returns-then-spells-2 c = let p = c.args.p.now in let at = c.args.at in
    name-read p at (bytes_of c.args.set) 9
    (name-later p at _ _ c.if-spells.ensures.value
    ∙ name-this p at _ _ c.if-spells-2.ensures.value)
    c.with_range-then-spells-2.ensures (omega arith) (c.if-spells-2.ensures.bound refl) (omega arith)

pub returns-then-spells-3 : goal.returns-then-spells-3
returns-then-spells-3 c = let p = c.args.p.now in let at = c.args.at in
    name-read p at (bytes_of c.args.set) 9
    (name-later p at _ _ c.if-spells.ensures.value
    ∙ name-later p at _ _ c.if-spells-2.ensures.value
    ∙ name-this p at _ _ c.if-spells-3.ensures.value)
    c.with_range-then-spells-3.ensures (omega arith) (c.if-spells-3.ensures.bound refl) (omega arith)

pub returns-then-spells-4 : goal.returns-then-spells-4
returns-then-spells-4 c = let p = c.args.p.now in let at = c.args.at in
    name-read p at (bytes_of c.args.set) 9
    (name-later p at _ _ c.if-spells.ensures.value
    ∙ name-later p at _ _ c.if-spells-2.ensures.value
    ∙ name-later p at _ _ c.if-spells-3.ensures.value
    ∙ name-this p at _ _ c.if-spells-4.ensures.value)
    (rw (c.with_range-then-spells-4-2.ensures, c.with_range-then-spells-4.ensures) (sym (simp added_twice)))
    (omega arith) (c.if-spells-4.ensures.bound refl) (omega arith)

pub returns-then-spells-5 : goal.returns-then-spells-5
returns-then-spells-5 c = let p = c.args.p.now in let at = c.args.at in
    name-read p at (bytes_of c.args.set) 9
    (name-later p at _ _ c.if-spells.ensures.value
    ∙ name-later p at _ _ c.if-spells-2.ensures.value
    ∙ name-later p at _ _ c.if-spells-3.ensures.value
    ∙ name-later p at _ _ c.if-spells-4.ensures.value
    ∙ name-this p at _ _ c.if-spells-5.ensures.value)
    (rw (c.with_range-then-spells-5-2.ensures, c.with_range-letters.ensures, c.with_range-then-spells-5.ensures) (sym (simp added_twice)))
    (omega arith) (c.if-spells-5.ensures.bound refl) (omega arith)

pub returns-then-spells-6 : goal.returns-then-spells-6
returns-then-spells-6 c = let p = c.args.p.now in let at = c.args.at in
    name-read p at (bytes_of c.args.set) 10
    (name-later p at _ _ c.if-spells.ensures.value
    ∙ name-later p at _ _ c.if-spells-2.ensures.value
    ∙ name-later p at _ _ c.if-spells-3.ensures.value
    ∙ name-later p at _ _ c.if-spells-4.ensures.value
    ∙ name-later p at _ _ c.if-spells-5.ensures.value
    ∙ name-this p at _ _ c.if-spells-6.ensures.value)
    (rw (c.with_range-then-spells-6-2.ensures, c.with_range-then-spells-6.ensures, c.with_range-digits.ensures) (sym (simp added_twice)))
    (omega arith) (c.if-spells-6.ensures.bound refl) (omega arith)

pub returns-then-spells-7 : goal.returns-then-spells-7
returns-then-spells-7 c = let p = c.args.p.now in let at = c.args.at in
    name-read p at (bytes_of c.args.set) 9
    (name-later p at _ _ c.if-spells.ensures.value
    ∙ name-later p at _ _ c.if-spells-2.ensures.value
    ∙ name-later p at _ _ c.if-spells-3.ensures.value
    ∙ name-later p at _ _ c.if-spells-4.ensures.value
    ∙ name-later p at _ _ c.if-spells-5.ensures.value
    ∙ name-later p at _ _ c.if-spells-6.ensures.value
    ∙ name-this p at _ _ c.if-spells-7.ensures.value)
    (rw (c.with_range-then-spells-7-2.ensures, c.with_range-then-spells-7.ensures) (sym (simp added_twice)))
    (omega arith) (c.if-spells-7.ensures.bound refl) (omega arith)

pub returns : goal.returns
returns c = let p = c.args.p.now in let at = c.args.at in
    no_name p at (bytes_of c.args.set)
    (name-later p at _ _ c.if-spells.ensures.value
    ∙ name-later p at _ _ c.if-spells-2.ensures.value
    ∙ name-later p at _ _ c.if-spells-3.ensures.value
    ∙ name-later p at _ _ c.if-spells-4.ensures.value
    ∙ name-later p at _ _ c.if-spells-5.ensures.value
    ∙ name-later p at _ _ c.if-spells-6.ensures.value
    ∙ name-later p at _ _ c.if-spells-7.ensures.value)
