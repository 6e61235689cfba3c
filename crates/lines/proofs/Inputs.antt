-- An input's final byte 10, and how much of an input decides what is printed.
use mathlib.Core.Path.{◌≡◌, refl, sym, ap, ◌∙◌}
use mathlib.Core.Bool.{true, false}
use mathlib.Core.List.{List, [], ◌∷◌}
use Prim.Native.Nat.{ℕ, zero, suc, ◌+◌, ◌-◌, ◌≤◌, ◌<◌}
use native.Mathlib.Decide.{dec_lt}
use native.Mathlib.Omega.{arith}
use borrow.Author.Tests.{eq-eqb, ne_eqb, lt-ltb}
use lib.ListN.{length, get_or, take, drop}
use lib.Seq.{take_all, length-take-le}
use denote.Ref.{Bor}
use Rattle.std.specs.Prelude.{nat_eq}
use Rattle.std.specs.List.{ends_with}
use Rattle.std.specs.Cmp.Lexicographic.{same_text, other_text}
use lib.Pointwise.{pointwise}
use Rattle.rules.specs.Sizes.{pattern_most, listing_rows}
use Rattle.rules.specs.Answers.{refused, refusal}
use Rattle.rules.specs.Compile.{Room, drawn}
use Rattle.rules.specs.Listing.{without_line_end, room_for, listing, printed}
use Rattle.writing.proofs.Cases.{if-true, if-false}
use Rattle.lines.specs.Inputs.{PatternPart}

-- n is the last place
dropped : (input : List ℕ) (n : ℕ) → length input ≡ suc n → pointwise nat_eq (10 ∷ []) (drop n input) ≡ true → take n input ≡ without_line_end input
dropped [] n l e = absurd (omega arith)
dropped (b ∷ []) zero l e = sym (if-true _ _ (eq-eqb b 10 (sym (ap (λ (s : List ℕ). get_or s 0 0) (same_text (10 ∷ []) (b ∷ []) (sym e))))))
dropped (b ∷ []) (suc n) l e = absurd (omega arith)
dropped (b ∷ c ∷ s) zero l e = absurd (omega arith)
dropped (b ∷ c ∷ s) (suc n) l e = ap (λ (r : List ℕ). b ∷ r) (dropped (c ∷ s) n (omega arith) e)

kept : (input : List ℕ) (n : ℕ) → length input ≡ suc n → pointwise nat_eq (10 ∷ []) (drop n input) ≡ false → input ≡ without_line_end input
kept [] n l e = refl
kept (b ∷ []) zero l e = sym (if-false _ _ (ne_eqb b 10 (λ q. other_text (10 ∷ []) (b ∷ []) (sym e) (ap (λ (x : ℕ). x ∷ []) (sym q)))))
kept (b ∷ []) (suc n) l e = absurd (omega arith)
kept (b ∷ c ∷ s) zero l e = absurd (omega arith)
kept (b ∷ c ∷ s) (suc n) l e = ap (λ (r : List ℕ). b ∷ r) (kept (c ∷ s) n (omega arith) e)

pub line-end-dropped : (input : List ℕ) → 1 ≤ length input → ends_with nat_eq input (10 ∷ []) ≡ true → take (length input - 1) input ≡ without_line_end input
line-end-dropped input h e = dropped input (length input - 1) (omega arith) e

pub no-line-end : (input : List ℕ) → ends_with nat_eq input (10 ∷ []) ≡ false → input ≡ without_line_end input
no-line-end [] e = refl
no-line-end (b ∷ s) e = kept (b ∷ s) (length (b ∷ s) - 1) (omega arith) e

-- no second part of the input fits what `pattern_of` promises
pub pattern-once : (t r q : Bor (List ℕ)) → PatternPart t r → PatternPart t q → (r.ref_ptr.0 ≡ q.ref_ptr.0) × (r.ref_ptr.1 ≡ q.ref_ptr.1) × (r.now ≡ q.now)
pattern-once t r q a b = (a.block ∙ sym b.block, a.place ∙ sym b.place, a.bytes ∙ sym b.bytes)

-- ---- how much decides

at_most_one : (s : List ℕ) → length s ≤ suc (length (without_line_end s))
at_most_one [] = omega arith
at_most_one (b ∷ []) = omega arith
at_most_one (b ∷ c ∷ s) = let rest : length (c ∷ s) ≤ suc (length (without_line_end (c ∷ s))) = at_most_one (c ∷ s) in omega arith

pub too_long : (p : List ℕ) (l : Room) → pattern_most < length p → drawn p l ≡ refused (refusal 1 pattern_most)
unfolding drawn
too_long p l h = if-true _ _ (lt-ltb pattern_most (length p) h)

-- what is past a pattern's bytes, a line end and one byte more plays no part
pub beginning-decides : (n : ℕ) → pattern_most + 2 ≤ n → (input : List ℕ) → printed (take n input) ≡ printed input
unfolding printed
beginning-decides n h input = go (dec_lt n (length input))
  where
    go : Dec (n < length input) → printed (take n input) ≡ printed input
    go (no short) = ap printed (take_all n input (omega arith))
    go (yes long) =
        ap listing
        (too_long (without_line_end (take n input)) (room_for listing_rows) (omega (arith, at_most_one (take n input), length-take-le n input (omega arith)))
        ∙ sym (too_long (without_line_end input) (room_for listing_rows) (omega (arith, at_most_one input))))
