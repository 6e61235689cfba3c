-- An input's lines, case by case.
use mathlib.Core.Path.{◌≡◌, refl, ap, ◌∙◌}
use mathlib.Core.Bool.{Bool, true, false}
use mathlib.Core.List.{List, [], ◌∷◌}
use Prim.Native.Nat.{ℕ, suc, ◌+◌, ◌-◌, ◌≤◌, ◌<◌}
use native.Mathlib.Numerals.{add-one}
use native.Mathlib.Omega.{arith}
use borrow.Author.Tests.{ltb-false, lt-ltb, le-ltb, le-leb, lt-leb}
use lib.Dec.{ltb, eqb}
use lib.ListN.{length, take, drop, length-drop}
use lib.Seq.{take_all}
use Rattle.std.specs.Prelude.{Option, Some, None, cond, not, unwrap_or}
use Rattle.std.specs.List.{position_or_len}
use Rattle.rules.specs.Sizes.{pattern_most}
use Rattle.writing.proofs.Cases.{if-true, if-false}
use Rattle.comparing.specs.Lines.{line_end_in, line_of, long, two, other, second_of, lines_of}

pub end-within : (s : List ℕ) → line_end_in s ≤ length s
end-within [] = omega arith
end-within (b ∷ s) = go (eqb b 10) (end-within s)
  where
    go : (t : Bool) → line_end_in s ≤ length s → elim t [ true ↦ 0 | false ↦ suc (line_end_in s) ] ≤ suc (length s)
    go true h = omega arith
    go false h = omega arith

-- as the library's search for it finds it
end-found : (s : List ℕ) → position_or_len (λ b. eqb b 10) s ≡ line_end_in s
end-found [] = refl
end-found (b ∷ s) = go (eqb b 10) (end-found s)
  where
    go : (t : Bool) → position_or_len (λ b. eqb b 10) s ≡ line_end_in s
        → ◌≡◌ {A = ℕ} (cond (not t) (1 + position_or_len (λ b. eqb b 10) s) 0) (elim t [ true ↦ 0 | false ↦ suc (line_end_in s) ])
    go true h = refl
    go false h = omega (arith, h)

pub end-or-length : (s : List ℕ) (r : Option ℕ) → (let n = position_or_len (λ b. eqb b 10) s in r ≡ cond (ltb n (length s)) (Some n) None) → unwrap_or r (length s) ≡ line_end_in s
end-or-length s r e = ap (λ (o : Option ℕ). unwrap_or o (length s)) e ∙ go (position_or_len (λ b. eqb b 10) s) (omega (arith, end-found s, end-within s)) ∙ end-found s
  where
    go : (n : ℕ) → n ≤ length s → unwrap_or (cond (ltb n (length s)) (Some n) None) (length s) ≡ n
    go n h = at (ltb n (length s)) refl
      where
        at : (t : Bool) → ltb n (length s) ≡ t → unwrap_or (cond t (Some n) None) (length s) ≡ n
        at true e = refl
        at false e = omega (arith, ltb-false n (length s) e)

-- what is lent on after the line end at the place n
pub after-end : (s : List ℕ) (n : ℕ) → take (length s - (n + 1)) (drop (n + 1) s) ≡ drop (suc n) s
after-end s n = take_all (length s - (n + 1)) (drop (n + 1) s) (omega (arith, length-drop (n + 1) s)) ∙ ap (λ (i : ℕ). drop i s) (add-one n)

module _ (p s : List ℕ) where
  pub second-long : pattern_most < line_end_in s → second_of p s ≡ two p (line_of s)
  unfolding second_of
  second-long h = if-true _ _ (lt-ltb pattern_most (line_end_in s) h)

  module _ (short : line_end_in s ≤ pattern_most) where
    pub second-over : length s ≤ suc (line_end_in s) → second_of p s ≡ two p (line_of s)
    unfolding second_of
    second-over h = if-false _ _ (le-ltb pattern_most (line_end_in s) short) ∙ if-true _ _ (le-leb (length s) (suc (line_end_in s)) h)

    pub second_more : suc (line_end_in s) < length s → second_of p s ≡ other
    unfolding second_of
    second_more h = if-false _ _ (le-ltb pattern_most (line_end_in s) short) ∙ if-false _ _ (lt-leb (length s) (suc (line_end_in s)) h)

module _ (s : List ℕ) where
  pub lines_long : pattern_most < line_end_in s → lines_of s ≡ long
  unfolding lines_of
  lines_long h = if-true _ _ (lt-ltb pattern_most (line_end_in s) h)

  module _ (short : line_end_in s ≤ pattern_most) where
    pub lines_more : line_end_in s < length s → lines_of s ≡ second_of (line_of s) (drop (suc (line_end_in s)) s)
    unfolding lines_of
    lines_more h = if-false _ _ (le-ltb pattern_most (line_end_in s) short) ∙ if-true _ _ (lt-ltb (line_end_in s) (length s) h)

    pub lines-one : length s ≤ line_end_in s → lines_of s ≡ other
    unfolding lines_of
    lines-one h = if-false _ _ (le-ltb pattern_most (line_end_in s) short) ∙ if-false _ _ (le-ltb (line_end_in s) (length s) h)
