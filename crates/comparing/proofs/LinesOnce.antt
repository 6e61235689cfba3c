-- An input's lines: what is computed is what is asked, and nothing else is.
use mathlib.Core.Path.{◌≡◌, refl, sym, ap, ap₂, subst, ◌∙◌}
use mathlib.Core.Logic.{◌⊎◌, inl, inr}
use mathlib.Core.Bool.{Bool, true, false}
use mathlib.Core.List.{List, [], ◌∷◌, ◌++◌}
use Prim.Native.Nat.{ℕ, suc, ◌+◌, ◌≤◌, ◌<◌}
use native.Mathlib.Numerals.{add-one}
use native.Mathlib.Decide.{dec_lt}
use native.Mathlib.Omega.{arith}
use borrow.Author.Tests.{eqb-true, eqb-false, ne_eqb}
use lib.Dec.{eqb}
use lib.ListN.{length, take, drop, length-append, length-drop, take-append-drop}
use lib.Seq.{drop-cons, drop-drop, length-take-le, take-append_seam, drop-append_seam}
use Rattle.rules.specs.Sizes.{pattern_most}
use Rattle.rules.specs.Listing.{line_end}
use Rattle.writing.proofs.Cases.{if-false}
use Rattle.comparing.specs.Lines.{Unbroken, Ended, Line, LongLine, TwoLines, line_end_in, line_of, Lines, long, two, other, second_of, lines_of}
use Rattle.comparing.proofs.LineLaws.{end-within, second-long, second-over, second_more, lines_long, lines_more, lines-one}

-- ---- the first line of a text

first-unbroken : (s : List ℕ) → Unbroken (line_of s)
first-unbroken [] = tt
first-unbroken (b ∷ s) = go (eqb b 10) refl (first-unbroken s)
  where
    go : (t : Bool) → eqb b 10 ≡ t → Unbroken (line_of s) → Unbroken (take (elim t [ true ↦ 0 | false ↦ suc (line_end_in s) ]) (b ∷ s))
    go true e h = tt
    go false e h = (eqb-false b 10 e, h)

first_ended : (s : List ℕ) → Ended (drop (line_end_in s) s)
first_ended [] = tt
first_ended (b ∷ s) = go (eqb b 10) refl (first_ended s)
  where
    go : (t : Bool) → eqb b 10 ≡ t → Ended (drop (line_end_in s) s) → Ended (drop (elim t [ true ↦ 0 | false ↦ suc (line_end_in s) ]) (b ∷ s))
    go true e h = eqb-true b 10 e
    go false e h = h

first_found : (s : List ℕ) → Line s (line_of s) (drop (line_end_in s) s)
first_found s = record { is = sym (take-append-drop (line_end_in s) s); unbroken = first-unbroken s; ended = first_ended s }

first-length : (s : List ℕ) → length (line_of s) ≡ line_end_in s
first-length s = length-take-le (line_end_in s) s (end-within s)

ends_there : (p rest : List ℕ) → Unbroken p → Ended rest → line_end_in (p ++ rest) ≡ length p
ends_there [] [] u e = refl
ends_there [] (b ∷ more) u e = rw e refl
ends_there (b ∷ p) rest u e = if-false _ _ (ne_eqb b 10 u.0) ∙ ap suc (ends_there p rest u.1 e)

module _ {s p rest : List ℕ} (l : Line s p rest) where
  line-ends : line_end_in s ≡ length p
  line-ends = ap line_end_in l.is ∙ ends_there p rest l.unbroken l.ended

  line-is : line_of s ≡ p
  line-is = ap₂ {C = List ℕ} take line-ends l.is ∙ take-append_seam p rest

  rest-is : drop (line_end_in s) s ≡ rest
  rest-is = ap₂ {C = List ℕ} drop line-ends l.is ∙ drop-append_seam p rest

rest-length : {s p rest : List ℕ} → Line s p rest → length s ≡ length p + length rest
rest-length {s} {p} {rest} l = ap length l.is ∙ length-append p rest

next-is : (s : List ℕ) (n b : ℕ) {more : List ℕ} → drop n s ≡ b ∷ more → drop (suc n) s ≡ more
next-is s n b e = ap (λ (k : ℕ). drop k s) (sym (add-one n)) ∙ sym (drop-drop 1 n s) ∙ ap (drop 1) e

-- ---- nothing else is an input's lines

pub long-only : {input : List ℕ} → LongLine input → lines_of input ≡ long
long-only {input} h = lines_long input (omega (arith, line-ends h.first, h.long))

pub two-only : {input p q : List ℕ} → TwoLines input p q → lines_of input ≡ two p q
two-only {input} {p} {q} h =
    lines_more input (omega (arith, line-ends h.first, h.short)) (omega (arith, line-ends h.first, rest-length h.first))
    ∙ ap₂ {C = Lines} second_of (line-is h.first) (next-is input (line_end_in input) 10 (rest-is h.first))
    ∙ go (dec_lt pattern_most (length q))
    ∙ ap (two p) (line-is h.second)
  where
    few : (rest : List ℕ) → (rest ≡ []) ⊎ (rest ≡ line_end) → length rest ≤ 1
    few rest (inl e) = omega (arith, ap length e)
    few rest (inr e) = omega (arith, ap length e)

    go : Dec (pattern_most < length q) → second_of p h.after ≡ two p (line_of h.after)
    go (yes l) = second-long p h.after (omega (arith, line-ends h.second))
    go (no l) = second-over p h.after (omega (arith, line-ends h.second)) (omega (arith, line-ends h.second, rest-length h.second, few h.rest (h.over (omega arith))))

-- ---- what is computed

abbrev Found : List ℕ → Lines → Type 0
Found input long = LongLine input
Found input (two p q) = TwoLines input p q
Found input other = Unit {0}

last-end : (rest : List ℕ) → Ended rest → length rest ≤ 1 → (rest ≡ []) ⊎ (rest ≡ line_end)
last-end [] e h = inl refl
last-end (b ∷ []) e h = inr (ap (λ (x : ℕ). x ∷ []) e)
last-end (b ∷ d ∷ more) e h = absurd (omega arith)

module _ (input : List ℕ) (short : line_end_in input ≤ pattern_most) (more : line_end_in input < length input) where
  abbrev after : List ℕ
  after = drop (suc (line_end_in input)) input

  after-end : drop (line_end_in input) input ≡ 10 ∷ after
  after-end = let d = drop-cons input (line_end_in input) 0 more in d ∙ ap (λ (b : ℕ). b ∷ after) (subst Ended d (first_ended input))

  two-found : (length (line_of after) ≤ pattern_most → (drop (line_end_in after) after ≡ []) ⊎ (drop (line_end_in after) after ≡ line_end)) → TwoLines input (line_of input) (line_of after)
  two-found over = record {
    after = after;
    rest = drop (line_end_in after) after;
    first = subst (Line input (line_of input)) after-end (first_found input);
    short = omega (arith, first-length input);
    second = first_found after;
    over = over;
  }

  second-found : Found input (second_of (line_of input) after)
  second-found = go (dec_lt pattern_most (line_end_in after)) (dec_lt (suc (line_end_in after)) (length after))
    where
      go : Dec (pattern_most < line_end_in after) → Dec (suc (line_end_in after) < length after) → Found input (second_of (line_of input) after)
      go (yes l) m = subst (Found input) (sym (second-long (line_of input) after l)) (two-found (λ h. absurd (omega (arith, first-length after))))
      go (no l) (yes m) = subst (Found input) (sym (second_more (line_of input) after (omega arith) m)) tt
      go (no l) (no m) =
          subst (Found input) (sym (second-over (line_of input) after (omega arith) (omega arith)))
          (two-found (λ h. last-end (drop (line_end_in after) after) (first_ended after) (omega (arith, length-drop (line_end_in after) after))))

lines-found : (input : List ℕ) → Found input (lines_of input)
lines-found input = go (dec_lt pattern_most (line_end_in input)) (dec_lt (line_end_in input) (length input))
  where
    go : Dec (pattern_most < line_end_in input) → Dec (line_end_in input < length input) → Found input (lines_of input)
    go (yes l) m = subst (Found input) (sym (lines_long input l))
        (record { line = line_of input; rest = drop (line_end_in input) input; first = first_found input; long = omega (arith, first-length input) })
    go (no l) (yes m) = subst (Found input) (sym (lines_more input (omega arith) m)) (second-found input (omega arith) m)
    go (no l) (no m) = subst (Found input) (sym (lines-one input (omega arith) (omega arith))) tt

-- what the lines of an input are, one of three
pub data Case (input : List ℕ) : Type 0 where
  is-long : LongLine input → lines_of input ≡ long → Case input
  is-two : {p q : List ℕ} → TwoLines input p q → lines_of input ≡ two p q → Case input
  is-other : (LongLine input → ⊥) → ((p q : List ℕ) → TwoLines input p q → ⊥) → lines_of input ≡ other → Case input

pub case : (input : List ℕ) → Case input
case input = go (lines_of input) refl (lines-found input)
  where
    go : (x : Lines) → lines_of input ≡ x → Found input x → Case input
    go long e f = is-long f e
    go (two p q) e f = is-two f e
    go other e f = is-other
        (λ h. let l = long-only h in let z : ◌≡◌ {A = ℕ} 0 1 = cc in omega arith)
        (λ p q h. let l = two-only h in let z : ◌≡◌ {A = ℕ} 0 1 = cc in omega arith)
        e
