-- What stands at a place, by the sign of the byte there.
use mathlib.Core.Path.{◌≡◌, refl, sym, ap, ◌∙◌}
use mathlib.Core.Logic.{◌⊎◌, inl, inr}
use mathlib.Core.Bool.{true, false}
use mathlib.Core.List.{List}
use mathlib.Core.Option.{Option, none, some}
use Prim.Native.Nat.{ℕ, ◌+◌, ◌^◌, ◌≤◌, ◌<◌}
use native.Mathlib.Decide.{dec_lt}
use native.Mathlib.Omega.{arith}
use lib.ListN.{length, get_or, drop}
use Rattle.rules.specs.Signs as rules
use Rattle.rules.specs.Signs.{plain, dot, opens_class, closes_class, opens_group, closes_group, bar, star_sign, plus_sign, query_sign, opens_count, closes_count, hat, dollar, backslash, sign}
use Rattle.rules.specs.Tree.{Repeat, bytes}
use Rattle.rules.specs.Grammar.{single, closes, ends, no_count, no_class, no_escape, stray}
use Rattle.rules.specs.Reader.{class, escape, count, set_or, byte_or, repeats_or, token_of, token}
use Rattle.signs.specs.Signs.{sign_of}
use Rattle.reader.specs.Says.{stops, is_repeat}
use Rattle.signs.specs.declared.sign.Sign.{Sign}
use Rattle.signs.specs.declared.sign.Sign.TheVariants.{Plain, Dot, OpensClass, ClosesClass, OpensGroup, ClosesGroup, Bar, Star, Plus, Query, OpensCount, ClosesCount, Hat, Dollar, Backslash}
use Rattle.signs.proofs.Places.{here, at-end}

-- ---- the token at a place

pub token-here : (p : List ℕ) (i : ℕ) → i < length p → token (drop i p) ≡ token_of (sign (get_or p i 0)) (get_or p i 0) (drop (i + 1) p)
unfolding token
token-here p i h = rw (here p i h)

pub token_end : (p : List ℕ) (i : ℕ) → length p ≤ i → token (drop i p) ≡ ends
unfolding token
token_end p i h = rw (at-end p i h)

pub token_at : (p : List ℕ) (i : ℕ) (r : Sign) → i < length p → sign_of r ≡ sign (get_or p i 0) → token (drop i p) ≡ token_of (sign_of r) (get_or p i 0) (drop (i + 1) p)
token_at p i r h e = token-here p i h ∙ ap (λ (x : rules.Sign). token_of x (get_or p i 0) (drop (i + 1) p)) (sym e)

-- ---- where a branch stops, and what is a repeat sign, is told by the sign

set-stops : (o : Option (ℕ × List ℕ)) → stops (set_or no_class o) ≡ false
set-stops none = refl
set-stops (some x) = refl

byte-stops : (o : Option (ℕ × List ℕ)) → stops (byte_or no_escape o) ≡ false
byte-stops none = refl
byte-stops (some x) = refl

repeat-stops : (o : Option (Repeat × List ℕ)) → stops (repeats_or no_count o) ≡ false
repeat-stops none = refl
repeat-stops (some x) = refl

set-repeat : (o : Option (ℕ × List ℕ)) → is_repeat (set_or no_class o) ≡ false
set-repeat none = refl
set-repeat (some x) = refl

byte-repeat : (o : Option (ℕ × List ℕ)) → is_repeat (byte_or no_escape o) ≡ false
byte-repeat none = refl
byte-repeat (some x) = refl

repeat-repeat : (o : Option (Repeat × List ℕ)) → is_repeat (repeats_or no_count o) ≡ true
repeat-repeat none = refl
repeat-repeat (some x) = refl

module _ (c : ℕ) (s : List ℕ) where
  pub goes_on : (r : Sign) → (r ≡ ClosesGroup → ⊥) → (r ≡ Bar → ⊥) → stops (token_of (sign_of r) c s) ≡ false
  goes_on ClosesGroup a b = absurd (a refl)
  goes_on Bar a b = absurd (b refl)
  goes_on OpensClass a b = set-stops (class s)
  goes_on OpensCount a b = repeat-stops (count s)
  goes_on Backslash a b = byte-stops (escape s)
  goes_on _ a b = refl

  pub no_repeat : (r : Sign) → (r ≡ Star → ⊥) → (r ≡ Plus → ⊥) → (r ≡ Query → ⊥) → (r ≡ OpensCount → ⊥) → is_repeat (token_of (sign_of r) c s) ≡ false
  no_repeat Star a b d e = absurd (a refl)
  no_repeat Plus a b d e = absurd (b refl)
  no_repeat Query a b d e = absurd (d refl)
  no_repeat OpensCount a b d e = absurd (e refl)
  no_repeat OpensClass a b d e = set-repeat (class s)
  no_repeat Backslash a b d e = byte-repeat (escape s)
  no_repeat _ a b d e = refl

  closing : (r : Sign) → (r ≡ Bar → ⊥) → stops (token_of (sign_of r) c s) ≡ true → token_of (sign_of r) c s ≡ closes s
  closing ClosesGroup a q = refl
  closing Bar a q = absurd (a refl)
  closing OpensClass a q = let e = set-stops (class s) in cc
  closing OpensCount a q = let e = repeat-stops (count s) in cc
  closing Backslash a q = let e = byte-stops (escape s) in cc
  closing _ a q = cc

  pub repeats : (r : Sign) → (r ≡ Star) ⊎ ((r ≡ Plus) ⊎ ((r ≡ Query) ⊎ (r ≡ OpensCount))) → is_repeat (token_of (sign_of r) c s) ≡ true
  repeats r (inl e) = rw e
  repeats r (inr (inl e)) = rw e
  repeats r (inr (inr (inl e))) = rw e
  repeats r (inr (inr (inr e))) = rw e (repeat-repeat (count s))

  pub strays : (r : Sign) → (r ≡ ClosesClass) ⊎ (r ≡ ClosesCount) → token_of (sign_of r) c s ≡ stray
  strays r (inl e) = rw e
  strays r (inr e) = rw e

  -- what has no other sign and does not stop a branch is plain
  pub plain_byte : (r : Sign) → (sign_of r ≡ opens_group → ⊥) → stops (token_of (sign_of r) c s) ≡ false
      → (r ≡ Dot → ⊥) → (r ≡ Hat → ⊥) → (r ≡ Dollar → ⊥) → (r ≡ OpensClass → ⊥) → (r ≡ Backslash → ⊥)
      → (r ≡ Star → ⊥) → (r ≡ Plus → ⊥) → (r ≡ Query → ⊥) → (r ≡ OpensCount → ⊥) → (r ≡ ClosesClass → ⊥) → (r ≡ ClosesCount → ⊥)
      → token_of (sign_of r) c s ≡ single (bytes (2 ^ c)) s
  plain_byte Plain g q n1 n2 n3 n4 n5 n6 n7 n8 n9 n10 n11 = refl
  plain_byte OpensGroup g q n1 n2 n3 n4 n5 n6 n7 n8 n9 n10 n11 = absurd (g refl)
  plain_byte ClosesGroup g q n1 n2 n3 n4 n5 n6 n7 n8 n9 n10 n11 = cc
  plain_byte Bar g q n1 n2 n3 n4 n5 n6 n7 n8 n9 n10 n11 = cc
  plain_byte Dot g q n1 n2 n3 n4 n5 n6 n7 n8 n9 n10 n11 = absurd (n1 refl)
  plain_byte Hat g q n1 n2 n3 n4 n5 n6 n7 n8 n9 n10 n11 = absurd (n2 refl)
  plain_byte Dollar g q n1 n2 n3 n4 n5 n6 n7 n8 n9 n10 n11 = absurd (n3 refl)
  plain_byte OpensClass g q n1 n2 n3 n4 n5 n6 n7 n8 n9 n10 n11 = absurd (n4 refl)
  plain_byte Backslash g q n1 n2 n3 n4 n5 n6 n7 n8 n9 n10 n11 = absurd (n5 refl)
  plain_byte Star g q n1 n2 n3 n4 n5 n6 n7 n8 n9 n10 n11 = absurd (n6 refl)
  plain_byte Plus g q n1 n2 n3 n4 n5 n6 n7 n8 n9 n10 n11 = absurd (n7 refl)
  plain_byte Query g q n1 n2 n3 n4 n5 n6 n7 n8 n9 n10 n11 = absurd (n8 refl)
  plain_byte OpensCount g q n1 n2 n3 n4 n5 n6 n7 n8 n9 n10 n11 = absurd (n9 refl)
  plain_byte ClosesClass g q n1 n2 n3 n4 n5 n6 n7 n8 n9 n10 n11 = absurd (n10 refl)
  plain_byte ClosesCount g q n1 n2 n3 n4 n5 n6 n7 n8 n9 n10 n11 = absurd (n11 refl)

-- where a branch stops at a byte that is no `|`, it is a `)`
pub close_here : (p : List ℕ) (i : ℕ) (r : Sign) → i < length p → sign_of r ≡ sign (get_or p i 0) → (r ≡ Bar → ⊥) → stops (token (drop i p)) ≡ true → token (drop i p) ≡ closes (drop (i + 1) p)
close_here p i r h e n q = let o = token_at p i r h e in o ∙ closing _ _ r n (sym (ap stops o) ∙ q)

-- where a branch goes on there is a byte
pub on_within : (p : List ℕ) (i : ℕ) → stops (token (drop i p)) ≡ false → i < length p
on_within p i e = go (dec_lt i (length p))
  where
    go : Dec (i < length p) → i < length p
    go (yes h) = h
    go (no h) = let n : length p ≤ i = omega arith in let q = sym (ap stops (token_end p i n)) ∙ e in cc
