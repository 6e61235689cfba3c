use mathlib.Core.Path.{◌≡◌, sym, ap, ◌∙◌}
use mathlib.Core.Bool.{false}
use lib.ListN.{drop}
use native.Mathlib.Omega.{arith}
use Rattle.rules.specs.Reader.{token}
use Rattle.reader.specs.Says.{stops, is_repeat}
use Rattle.signs.specs.declared.sign.Sign.TheVariants.{Dot, Hat, Dollar, OpensClass, Backslash}
use Rattle.program.proofs.ProgramKeeps.{wrote_one, wrote-byte, wrote-dot, wrote-class}
use Rattle.reader.proofs.TokenLaws.{token_at, repeats, strays, plain_byte}
use Rattle.reader.proofs.DoneLaws.{atom_done}
use Rattle.reader.proofs.SaysLaws.{atom-single, atom-repeat, atom-class, atom-escape, atom-stray}
use Rattle.reader.proofs.tree.read_single.Goals as goal

-- `read_single`
pub returns-in-Dot : goal.returns-in-Dot
returns-in-Dot c = λ d. rw c.one.ensures.is
    (atom_done (atom-single (λ n. token_at _ _ Dot c.requires.within (rw c.in-Dot.is at c.requires.is)))
    (wrote-dot c.one.ensures.puts) c.one.ensures.puts.kept (omega arith) (omega arith) (omega arith))

pub returns-in-Hat : goal.returns-in-Hat
returns-in-Hat c = λ d. rw c.one-in-Hat.ensures.is
    (atom_done (atom-single (λ n. token_at _ _ Hat c.requires.within (rw c.in-Hat.is at c.requires.is)))
    (wrote_one c.one-in-Hat.ensures.puts) c.one-in-Hat.ensures.puts.kept (omega arith) (omega arith) (omega arith))

pub returns-in-Dollar : goal.returns-in-Dollar
returns-in-Dollar c = λ d. rw c.one-in-Dollar.ensures.is
    (atom_done (atom-single (λ n. token_at _ _ Dollar c.requires.within (rw c.in-Dollar.is at c.requires.is)))
    (wrote_one c.one-in-Dollar.ensures.puts) c.one-in-Dollar.ensures.puts.kept (omega arith) (omega arith) (omega arith))

pub returns-in-Star : goal.returns-in-Star
returns-in-Star c = λ d. atom-repeat (ap is_repeat (token_at _ _ _ c.requires.within c.requires.is) ∙ repeats _ _ c.args.first c.in-Star.is) (omega arith)

pub returns-in-ClosesClass : goal.returns-in-ClosesClass
returns-in-ClosesClass c = λ d. atom-stray (token_at _ _ _ c.requires.within c.requires.is ∙ strays _ _ c.args.first c.in-ClosesClass.is) (omega arith)

pub returns-in_default-read_class : goal.returns-in_default-read_class
returns-in_default-read_class c = λ d.
    let o = token_at _ _ OpensClass c.requires.within (rw c.in-OpensClass.is at c.requires.is) in
    atom-class (rw (sym c.in_default-read_class.ensures.is) at o) (omega arith)

pub returns-in-Some : goal.returns-in-Some
returns-in-Some c = λ d.
    let o = token_at _ _ OpensClass c.requires.within (rw c.in-OpensClass.is at c.requires.is) in
    let m = c.in-Some.ensures in
    atom_done (atom-single (λ n. rw (sym m.is) at o)) (wrote-class c.put_class.ensures) c.put_class.ensures.kept (omega arith) (omega (arith, m.moves)) m.moves.1

pub returns-in_default-read_escape : goal.returns-in_default-read_escape
returns-in_default-read_escape c = λ d.
    let o = token_at _ _ Backslash c.requires.within (rw c.in-Backslash.is at c.requires.is) in
    atom-escape (rw (sym c.in_default-read_escape.ensures.is) at o) (omega arith)

pub returns-in-Some-read_escape : goal.returns-in-Some-read_escape
returns-in-Some-read_escape c = λ d.
    let o = token_at _ _ Backslash c.requires.within (rw c.in-Backslash.is at c.requires.is) in
    let m = c.in-Some-read_escape.ensures in
    rw c.one-in-Backslash.ensures.is
    (atom_done (atom-single (λ n. rw (sym m.is) at o)) (wrote-byte c.one-in-Backslash.ensures.puts) c.one-in-Backslash.ensures.puts.kept (omega arith) (omega (arith, m.moves)) m.moves.1)

pub returns-in_default : goal.returns-in_default
returns-in_default c = λ d.
    let o = token_at _ _ _ c.requires.within c.requires.is in
    let x = c.in_default in
    let plain = λ (n : stops (token (drop c.args.at c.args.p.now)) ≡ false). plain_byte _ _ c.args.first c.requires.no-group
    (sym (ap stops o) ∙ n) x.not-Dot x.not-Hat x.not-Dollar x.not-OpensClass x.not-Backslash
    x.not-Star x.not-Plus x.not-Query x.not-OpensCount x.not-ClosesClass x.not-ClosesCount in
    rw c.one-in_default.ensures.is
    (atom_done (atom-single (λ n. o ∙ plain n)) (wrote-byte c.one-in_default.ensures.puts) c.one-in_default.ensures.puts.kept (omega arith) (omega arith) (omega arith))
