-- How long the line of a refusal gets.
use mathlib.Core.Path.{◌≡◌, refl}
use mathlib.Core.Logic.{inl, inr}
use mathlib.Core.List.{List}
use Prim.Native.Nat.{ℕ, ◌^◌, ◌≤◌, ◌<◌}
use native.Mathlib.Decide.{dec_lt}
use native.Mathlib.Omega.{arith}
use lib.ListN.{length, length-append}
use Rattle.rules.specs.Sizes.{pattern_most}
use Rattle.rules.specs.Turned.{Turned, Fault, two, two_brace, three, four, five, six, seven, eight, nine}
use Rattle.rules.specs.Answers.{Refusal, refusal, refused, FirstDue}
use Rattle.rules.specs.Compile.{Room, drawn, CompileRefusals}
use Rattle.rules.specs.Listing.{listing}
use Rattle.rules.proofs.CompileOnce.{drawn-refuses}
use Rattle.writing.proofs.Numbers.{decimal-short}

-- each number of at most ten digits
pub refused-most : (number place : ℕ) → number < 2 ^ 32 → place < 2 ^ 32 → length (listing (refused (refusal number place))) ≤ 33
unfolding listing
refused-most number place a b = simp length-append (omega (arith, decimal-short 9 number (omega arith), decimal-short 9 place (omega arith)))

-- ---- the refusals of compiling

record Small (r : Refusal) : Type 0 where
  number : r.number < 100
  place : r.place < 10000

fault-number : {p s : List ℕ} {n : ℕ} → Fault p n s → n < 100
fault-number (two a b c) = omega arith
fault-number (two_brace a b c) = omega arith
fault-number (three a b) = omega arith
fault-number (four a b) = omega arith
fault-number (five a b) = omega arith
fault-number (six a b) = omega arith
fault-number (seven a b) = omega arith
fault-number (eight a b) = omega arith
fault-number (nine a b) = omega arith

small : (p : List ℕ) (l : Room) (r : Refusal) → drawn p l ≡ refused r → Small r
small p l r e = go ((drawn-refuses p l r).0 e)
  where
    of : {n i : ℕ} → n < 100 → i < 10000 → r ≡ refusal n i → Small r
    of {n} {i} a b q = record { number = rw q a; place = rw q b }

    go : FirstDue (CompileRefusals p l) r → Small r
    go (inl x) = of (omega arith) (omega arith) x.1
    go (inr (short, inl x)) = of (fault-number x.2.fault) (place-small (dec_lt pattern_most (length p)) x.2) x.3
      where
        place-small : {n i : ℕ} → Dec (pattern_most < length p) → Turned p n i → i < 10000
        place-small (yes long) t = absurd (short (refusal 1 pattern_most) (long, refl))
        place-small (no n) t = omega (arith, t.place)
    go (inr (a, inr (b, inl x))) = of (omega arith) (omega arith) x.3
    go (inr (a, inr (b, inr (c, inl x)))) = of (omega arith) (omega arith) x.3
    go (inr (a, inr (b, inr (c, inr (d, x))))) = absurd x

pub refusal-line-most : (p : List ℕ) (l : Room) (r : Refusal) → drawn p l ≡ refused r → length (listing (refused r)) ≤ 19
unfolding listing
refusal-line-most p l r e =
    let h : Small r = small p l r e in
    simp length-append (omega (arith, decimal-short 1 r.number h.number, decimal-short 3 r.place h.place))
