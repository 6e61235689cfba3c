-- No second answer fits what whole and longest promise.
use mathlib.Core.Path.{◌≡◌, refl, sym, ap, ◌∙◌}
use mathlib.Core.Bool.{Bool}
use mathlib.Core.List.{List}
use mathlib.Core.Option.{Option, none, some}
use Prim.Native.Nat.{ℕ}
use Rattle.rules.specs.Table.{Table}
use Rattle.rules.specs.Answers.{Answer, refused, given}
use Rattle.rules.specs.Matchers.{whole_answer, longest_answer}
use Rattle.kinds.proofs.RefusalsApart.{back, back-of}
use Rattle.answers.specs.Answers.{whole_of, longest_of}
use Rattle.std.specs.Prelude.{Result, Ok, Err}
use Rattle.std.specs.Prelude as std
use Rattle.kinds.specs.declared.Refusal.{Refusal}

-- the answer that says it
abbrev whole_back : Answer Bool → Result Bool Refusal
whole_back (refused r) = Err (back r)
whole_back (given b) = Ok b

abbrev longest-back : Answer (Option ℕ) → Result (std.Option ℕ) Refusal
longest-back (refused r) = Err (back r)
longest-back (given none) = Ok std.None
longest-back (given (some e)) = Ok (std.Some e)

whole-back-of : (a : Result Bool Refusal) → whole_back (whole_of a) ≡ a
whole-back-of (Err r) = ap Err (back-of r)
whole-back-of (Ok b) = refl

longest-back-of : (a : Result (std.Option ℕ) Refusal) → longest-back (longest_of a) ≡ a
longest-back-of (Err r) = ap Err (back-of r)
longest-back-of (Ok (std.Some e)) = refl
longest-back-of (Ok std.None) = refl

module _ (w : Table) (t : List ℕ) where
  pub whole-once : (a b : Result Bool Refusal) → whole_of a ≡ whole_answer w t → whole_of b ≡ whole_answer w t → a ≡ b
  whole-once a b p q = sym (whole-back-of a) ∙ ap whole_back (p ∙ sym q) ∙ whole-back-of b

  pub longest-once : (s : ℕ) (a b : Result (std.Option ℕ) Refusal) → longest_of a ≡ longest_answer w t s → longest_of b ≡ longest_answer w t s → a ≡ b
  longest-once s a b p q = sym (longest-back-of a) ∙ ap longest-back (p ∙ sym q) ∙ longest-back-of b
