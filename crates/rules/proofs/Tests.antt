-- Laws of tests: a Bool as a statement.
use mathlib.Core.Path.{◌≡◌, refl, sym, subst}
use mathlib.Core.Logic.{◌↔◌}
use mathlib.Core.Bool.{Bool, true, false, ◌&&◌}
use Prim.Native.Nat.{ℕ, ◌≤◌, ◌<◌}
use borrow.Author.Tests.{eq-eqb}
use lib.Dec.{T, eqb, leb, ltb, leb→le, ltb→lt, lt→ltb}
use Rattle.rules.specs.Signs.{within}

pub is_true : (b : Bool) → b ≡ true → T b
is_true b e = subst (λ (x : Bool). T x) (sym e) tt

pub is_false : (b : Bool) → b ≡ false → T b → ⊥
is_false b e h = subst (λ (x : Bool). T x) e h

pub both_left : (a b : Bool) → T (a && b) → T a
both_left true b h = tt
both_left false b h = absurd h

pub both_right : (a b : Bool) → T (a && b) → T b
both_right true b h = h
both_right false b h = absurd h

pub both : (a b : Bool) → T a → T b → T (a && b)
both true b x y = y
both false b x y = absurd x

pub eq_test : (m n : ℕ) → m ≡ n → T (eqb m n)
eq_test m n e = is_true (eqb m n) (eq-eqb m n e)

pub lt_test : (m n : ℕ) → T (ltb m n) ↔ (m < n)
lt_test m n = (ltb→lt m n, lt→ltb m n)

-- tests that hold alike are one
pub both_ways : (a b : Bool) → T a ↔ T b → a ≡ b
both_ways true true h = refl
both_ways true false h = absurd (h.0 tt)
both_ways false true h = absurd (h.1 tt)
both_ways false false h = refl

-- by the two cases of a test
pub by-test : (b : Bool) (C : Bool → Type 0) → (T b → C true) → ((T b → ⊥) → C false) → C b
by-test true C f g = f tt
by-test false C f g = g (λ h. h)

-- a number within bounds
pub within_both : (lo hi c : ℕ) → within lo hi c ≡ true → (lo ≤ c) × (c ≤ hi)
within_both lo hi c e = let h = is_true (within lo hi c) e in (leb→le lo c (both_left (leb lo c) (leb c hi) h), leb→le c hi (both_right (leb lo c) (leb c hi) h))
