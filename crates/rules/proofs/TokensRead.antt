-- What stands at a place: the function `token` finds it, so there is one token at a place; and a token is at least one byte long.
use mathlib.Core.Path.{◌≡◌, refl, sym, ◌∙◌}
use mathlib.Core.Logic.{◌↔◌}
use mathlib.Core.List.{List, [], ◌∷◌}
use mathlib.Core.Option.{Option, none, some}
use Prim.Native.Nat.{ℕ, ◌<◌}
use native.Mathlib.Omega.{arith}
use lib.ListN.{length}
use Rattle.rules.specs.Signs.{Sign, plain, dot, opens_class, closes_class, opens_group, closes_group, bar, star_sign, plus_sign, query_sign, opens_count, closes_count, hat, dollar, backslash, sign}
use Rattle.rules.specs.Tree.{Repeat}
use Rattle.rules.specs.Grammar.{Token, single, repeats, opens, closes, parts, ends, no_count, no_class, no_escape, stray, Stands, the_end, a_plain, a_dot, a_hat, a_dollar, a_class, bad_class, an_escape, bad_escape, a_star, a_plus, a_query, a_count, bad_count, an_open, a_close, a_bar, bare_bracket, bare_brace}
use Rattle.rules.specs.Reader.{escape, count, class, set_or, byte_or, repeats_or, token_of, token}
use Rattle.rules.proofs.LeavesRead.{none-some, Finds, escape-finds, escape-shorter, count-finds, count-shorter, class-finds, class-shorter}

-- ---- what is not found is not there

module _ {A : Type 0} {f : List ℕ → Option (A × List ℕ)} {R : List ℕ → A → List ℕ → Type 0} (finds : Finds f R) {s : List ℕ} where
  missing : f s ≡ none → (a : A) (u : List ℕ) → R s a u → ⊥
  missing e a u r = none-some (sym e ∙ finds.complete r)

  not_found : ((a : A) (u : List ℕ) → R s a u → ⊥) → f s ≡ none
  not_found bad = go (f s) refl
    where
      go : (o : Option (A × List ℕ)) → f s ≡ o → o ≡ none
      go none e = refl
      go (some x) e = absurd (bad x.0 x.1 (finds.sound s e))

-- ---- the token at a place

pub token-is : {s : List ℕ} {t : Token} → Stands s t → token s ≡ t
unfolding token
token-is the_end = refl
token-is (a_plain e) = simp e
token-is (a_dot e) = simp e
token-is (a_hat e) = simp e
token-is (a_dollar e) = simp e
token-is (a_class e h) = simp (e, class-finds.complete h)
token-is (bad_class e h) = simp (e, not_found class-finds h)
token-is (an_escape e h) = simp (e, escape-finds.complete h)
token-is (bad_escape e h) = simp (e, not_found escape-finds h)
token-is (a_star e) = simp e
token-is (a_plus e) = simp e
token-is (a_query e) = simp e
token-is (a_count e h) = simp (e, count-finds.complete h)
token-is (bad_count e h) = simp (e, not_found count-finds h)
token-is (an_open e) = simp e
token-is (a_close e) = simp e
token-is (a_bar e) = simp e
token-is (bare_bracket e) = simp e
token-is (bare_brace e) = simp e

module _ {c : ℕ} (s : List ℕ) where
  of-class : sign c ≡ opens_class → (o : Option (ℕ × List ℕ)) → class s ≡ o → Stands (c ∷ s) (set_or no_class o)
  of-class e none q = bad_class e (missing class-finds q)
  of-class e (some x) q = a_class e (class-finds.sound s q)

  of-escape : sign c ≡ backslash → (o : Option (ℕ × List ℕ)) → escape s ≡ o → Stands (c ∷ s) (byte_or no_escape o)
  of-escape e none q = bad_escape e (missing escape-finds q)
  of-escape e (some x) q = an_escape e (escape-finds.sound s q)

  of-count : sign c ≡ opens_count → (o : Option (Repeat × List ℕ)) → count s ≡ o → Stands (c ∷ s) (repeats_or no_count o)
  of-count e none q = bad_count e (missing count-finds q)
  of-count e (some x) q = a_count e (count-finds.sound s q)

  of-sign : (g : Sign) → sign c ≡ g → Stands (c ∷ s) (token_of g c s)
  of-sign plain e = a_plain e
  of-sign dot e = a_dot e
  of-sign opens_class e = of-class e (class s) refl
  of-sign closes_class e = bare_bracket e
  of-sign opens_group e = an_open e
  of-sign closes_group e = a_close e
  of-sign bar e = a_bar e
  of-sign star_sign e = a_star e
  of-sign plus_sign e = a_plus e
  of-sign query_sign e = a_query e
  of-sign opens_count e = of-count e (count s) refl
  of-sign closes_count e = bare_brace e
  of-sign hat e = a_hat e
  of-sign dollar e = a_dollar e
  of-sign backslash e = of-escape e (escape s) refl

pub token-stands : (s : List ℕ) → Stands s (token s)
unfolding token
token-stands [] = the_end
token-stands (c ∷ s) = of-sign s (sign c) refl

pub stands-iff : (s : List ℕ) (t : Token) → Stands s t ↔ (token s ≡ t)
stands-iff s t = (token-is, λ e. rw e at (token-stands s))

pub one_token : {s : List ℕ} {t v : Token} → Stands s t → Stands s v → t ≡ v
one_token a b = sym (token-is a) ∙ token-is b

-- ---- a token is at least one byte long

abbrev pub Shorter : Token → List ℕ → Type 0
Shorter (single X u) s = length u < length s
Shorter (repeats k u) s = length u < length s
Shorter (opens u) s = length u < length s
Shorter (closes u) s = length u < length s
Shorter (parts u) s = length u < length s
Shorter ends s = s ≡ []
Shorter no_count s = Unit {0}
Shorter no_class s = Unit {0}
Shorter no_escape s = Unit {0}
Shorter stray s = Unit {0}

pub stands-shorter : {s : List ℕ} {t : Token} → Stands s t → Shorter t s
stands-shorter the_end = refl
stands-shorter (a_plain e) = omega arith
stands-shorter (a_dot e) = omega arith
stands-shorter (a_hat e) = omega arith
stands-shorter (a_dollar e) = omega arith
stands-shorter (a_class e h) = omega (arith, class-shorter h)
stands-shorter (bad_class e h) = tt
stands-shorter (an_escape e h) = omega (arith, escape-shorter h)
stands-shorter (bad_escape e h) = tt
stands-shorter (a_star e) = omega arith
stands-shorter (a_plus e) = omega arith
stands-shorter (a_query e) = omega arith
stands-shorter (a_count e h) = omega (arith, count-shorter h)
stands-shorter (bad_count e h) = tt
stands-shorter (an_open e) = omega arith
stands-shorter (a_close e) = omega arith
stands-shorter (a_bar e) = omega arith
stands-shorter (bare_bracket e) = tt
stands-shorter (bare_brace e) = tt
