-- No second answer fits what first and its part form promise.
use mathlib.Core.Path.{◌≡◌, refl, sym, ap, ◌∙◌}
use mathlib.Core.List.{List}
use mathlib.Core.Option.{Option, none, some}
use Prim.Native.Nat.{ℕ}
use denote.Ref.{Bor}
use Rattle.rules.specs.Table.{Table}
use Rattle.rules.specs.Answers.{Answer, refused, given}
use Rattle.rules.specs.Matchers.{Part, first_answer}
use Rattle.kinds.proofs.RefusalsApart.{back, back-of}
use Rattle.answers.specs.Answers.{first_of}
use Rattle.first.specs.Parts.{HandsBack}
use Rattle.std.specs.Prelude.{Result, Ok, Err}
use Rattle.std.specs.Prelude as std
use Rattle.kinds.specs.declared.Refusal.{Refusal}

-- the answer that says it
abbrev first_back : Answer (Option (ℕ × ℕ)) → Result (std.Option (ℕ × ℕ)) Refusal
first_back (refused r) = Err (back r)
first_back (given none) = Ok std.None
first_back (given (some x)) = Ok (std.Some x)

first-back-of : (a : Result (std.Option (ℕ × ℕ)) Refusal) → first_back (first_of a) ≡ a
first-back-of (Err r) = ap Err (back-of r)
first-back-of (Ok (std.Some x)) = refl
first-back-of (Ok std.None) = refl

pub first-once : (w : Table) (t : List ℕ) (a b : Result (std.Option (ℕ × ℕ)) Refusal) → first_of a ≡ first_answer w t → first_of b ≡ first_answer w t → a ≡ b
first-once w t a b p q = sym (first-back-of a) ∙ ap first_back (p ∙ sym q) ∙ first-back-of b

-- one number, one place in the text and one run of bytes
pub part-once : (text r q : Bor (List ℕ)) (m n : ℕ) (o : Part) → HandsBack text r m o → HandsBack text q n o → (m ≡ n) × (r.ref_ptr.0 ≡ q.ref_ptr.0) × (r.ref_ptr.1 ≡ q.ref_ptr.1) × (r.now ≡ q.now)
part-once text r q m n o a b = (a.outcome ∙ sym b.outcome, a.block ∙ sym b.block, a.place ∙ sym b.place, a.bytes ∙ sym b.bytes)
