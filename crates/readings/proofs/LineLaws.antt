-- The pattern of a line, byte by byte.
use mathlib.Core.Path.{◌≡◌, refl, sym, ap, ◌∙◌}
use mathlib.Core.Bool.{Bool, true, false}
use mathlib.Core.List.{List, [], ◌∷◌, ◌++◌, append_assoc, append-nil}
use Prim.Native.Nat.{ℕ, ◌+◌, ◌*◌, ◌≤◌, ◌<◌}
use native.Mathlib.Numerals.{add-one}
use native.Mathlib.Omega.{arith}
use borrow.Author.Tests.{ne_eqb}
use lib.ListN.{length, get_or, take, drop, set, length-drop, drop_of_length-le}
use lib.Seq.{take-suc-set}
use Rattle.signs.proofs.Places.{here, two_here}
use Rattle.readings.specs.Lines.{hex_value, pattern_of, Written, Unwritten}

-- ---- the byte at a place

three-here : (p : List ℕ) (i : ℕ) → i + 2 < length p → drop i p ≡ get_or p i 0 ∷ get_or p (i + 1) 0 ∷ get_or p (i + 2) 0 ∷ drop (i + 3) p
three-here p i h = two_here p i (omega arith) ∙ ap (λ (s : List ℕ). get_or p i 0 ∷ get_or p (i + 1) 0 ∷ s) (here p (i + 2) h ∙ ap (λ (n : ℕ). get_or p (i + 2) 0 ∷ drop n p) (three i))
  where
    three : (n : ℕ) → n + 2 + 1 ≡ n + 3
    three n = omega arith

pub escaped : (line : List ℕ) (at : ℕ) → at + 2 < length line → get_or line at 0 ≡ 37 → Written line at (16 * hex_value (get_or line (at + 1) 0) + hex_value (get_or line (at + 2) 0)) (at + 3)
unfolding pattern_of
escaped line at h e = record {
  is = ap pattern_of (three-here line at h) ∙ rw e;
  forward = omega arith;
  within = omega arith;
}

plain_byte : (a : ℕ) (s : List ℕ) → (2 ≤ length s → a ≡ 37 → ⊥) → pattern_of (a ∷ s) ≡ a ∷ pattern_of s
unfolding pattern_of
plain_byte a [] apart = refl
plain_byte a (b ∷ []) apart = refl
plain_byte a (b ∷ c ∷ s) apart = ap (λ (t : Bool). elim t [ true ↦ (16 * hex_value b + hex_value c) ∷ pattern_of s | false ↦ a ∷ pattern_of (b ∷ c ∷ s) ]) (ne_eqb a 37 (apart (omega arith)))

pub plain : (line : List ℕ) (at : ℕ) → at < length line → (at + 2 < length line → get_or line at 0 ≡ 37 → ⊥) → Written line at (get_or line at 0) (at + 1)
plain line at h apart = record {
  is = ap pattern_of (here line at h) ∙ plain_byte (get_or line at 0) (drop (at + 1) line) (λ two e. apart (omega (arith, length-drop (at + 1) line)) e);
  forward = omega arith;
  within = omega arith;
}

-- ---- a line as far as `at`

-- n bytes of the pattern are those of the line before `at`
pub record Copied (line pattern : List ℕ) (at n : ℕ) : Type 0 where
  pub is : take n pattern ++ pattern_of (drop at line) ≡ pattern_of line
  pub behind : n ≤ at
  pub within : at ≤ length line

pub all_copied : {line pattern : List ℕ} {at n : ℕ} → Copied line pattern at n → length line ≤ at → n ≤ length pattern → Unwritten line pattern n
unfolding pattern_of
all_copied {line} {pattern} {at} {n} c h fits = record {
  is = sym (append-nil (take n pattern)) ∙ ap (λ (l : List ℕ). take n pattern ++ pattern_of l) (sym (drop_of_length-le line h)) ∙ c.is;
  fits = fits;
}
