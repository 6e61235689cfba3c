-- Patterns, and what the rules say of them by hand: legal, or refused with a number at a place. The reader says the same.
use mathlib.Core.Path.{◌≡◌, refl}
use mathlib.Core.Option.{Option, none, some}
use mathlib.Core.List.{List, [], ◌∷◌, map}
use Prim.Native.Nat.{ℕ, ◌-◌}
use Prim.Native.String.{String}
use lib.ListN.{length}
use Rattle.rules.specs.Tools.{bytes_of}
use Rattle.rules.specs.Reader.{escape, number, count, named_class, member, item, items, class, token, got, bad, run, read}

abbrev legal : Option (ℕ × ℕ)
legal = none

abbrev refused : ℕ → ℕ → Option (ℕ × ℕ)
refused n i = some (n, i)

abbrev answered : List ℕ → Option (ℕ × ℕ)
answered p = elim (read p) [ got X ↦ legal | bad n s ↦ refused n (length p - length s) ]

abbrev examples : List (String × Option (ℕ × ℕ))
examples =
    ("", legal) ∷ ("()", legal) ∷ ("(|a)", legal) ∷ ("^a|b$", legal) ∷ ("^*", legal) ∷ ("(a*)*", legal) ∷ ("a-b,c:", legal)
    ∷ ("a{0}", legal) ∷ ("a{007,255}", legal) ∷ ("a{255,}", legal) ∷ ("\\x4A\\x4a\\n\\.\\-", legal)
    ∷ ("[^^]", legal) ∷ ("[a^.*]", legal) ∷ ("[\\]\\--a]", legal) ∷ ("[[:digit:]a-f]{2,}", legal) ∷ ("[[:space:][:xdigit:]]", legal)
    -- 2: no atom before the sign
    ∷ ("*", refused 2 0) ∷ ("|?", refused 2 1) ∷ ("(+a)", refused 2 1) ∷ ("{3}", refused 2 0)
    -- 2: after a repeat sign
    ∷ ("a**", refused 2 2) ∷ ("a{2}{3}", refused 2 4) ∷ ("(a?)+?", refused 2 5)
    -- 2 before 3 at one `{`
    ∷ ("{", refused 2 0) ∷ ("({,", refused 2 1) ∷ ("a*{x", refused 2 2) ∷ ("a{2}{", refused 2 4)
    -- 3 to 8
    ∷ ("a{", refused 3 1) ∷ ("a{}", refused 3 1) ∷ ("a{2", refused 3 1) ∷ ("a{,3}", refused 3 1) ∷ ("a{3,2}", refused 3 1)
    ∷ ("a{256}", refused 3 1) ∷ ("a{1,256}", refused 3 1) ∷ ("a{0255,}", refused 3 1)
    ∷ ("[]", refused 4 0) ∷ ("[a", refused 4 0) ∷ ("[^]", refused 4 0) ∷ ("b[-a]", refused 4 1) ∷ ("[a-]", refused 4 0)
    ∷ ("[z-a]", refused 4 0) ∷ ("[a\\q]", refused 4 0) ∷ ("[^\\x00-\\xff]", refused 4 0)
    ∷ ("[[:Digit:]]", refused 4 0) ∷ ("[a-[:digit:]]", refused 4 0) ∷ ("[[:digit:]-z]", refused 4 0)
    ∷ ("\\q", refused 5 0) ∷ ("a\\", refused 5 1) ∷ ("\\x4g", refused 5 0)
    ∷ ("a]", refused 6 1) ∷ ("a}", refused 6 1)
    ∷ (")", refused 7 0) ∷ ("(a))", refused 7 3)
    ∷ ("(", refused 8 1) ∷ ("(a", refused 8 2) ∷ ("(()", refused 8 3)
    -- 9: the 33rd open group
    ∷ ("(((((((((((((((((((((((((((((((((a)))))))))))))))))))))))))))))))))", refused 9 32)
    ∷ ("((((((((((((((((((((((((((((((((a))))))))))))))))))))))))))))))))", legal)
    ∷ ("((((((((((((((((((((((((((((((((a", refused 8 33)
    -- the least place: a later fault does not count
    ∷ ("(*", refused 2 1) ∷ ("(a{)", refused 3 2) ∷ ("([)", refused 4 1) ∷ ("\\q)", refused 5 0) ∷ ("(]*", refused 6 1) ∷ (")*", refused 7 0)
    ∷ ("(((((((((((((((((((((((((((((((((*", refused 9 32)
    ∷ []

pub examples-read : map (λ x. answered (bytes_of x.0)) examples ≡ map (λ x. x.1) examples
unfolding escape number count named_class member item items class token run read
examples-read = refl
