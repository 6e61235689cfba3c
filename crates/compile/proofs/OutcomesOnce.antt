-- What is handed back and left is the outcome of the rules, so no second answer fits, and no second content of the room.
use mathlib.Core.Path.{◌≡◌, refl, sym, ap, ◌∙◌}
use mathlib.Core.List.{List}
use Prim.Native.Nat.{ℕ}
use Rattle.rules.specs.Answers.{Answer, refused, given}
use Rattle.rules.specs.Compile.{Room, compile}
use Rattle.std.specs.Prelude.{Result, Ok, Err}
use Rattle.kinds.specs.declared.Refusal.{Refusal}
use Rattle.kinds.proofs.RefusalsApart.{back, back-of}
use Rattle.answers.specs.Answers.{compiled_of}
use Rattle.compile.specs.Outcomes.{outcome_of, Compiles}
use Rattle.answers.specs.declared.Drawn.{Drawn}

pub outcome-is : {p : List ℕ} {old new : Room} {r : Result Drawn Refusal} → Compiles p old new r → outcome_of r new ≡ compile p old
outcome-is c = λ i. record { answer = c.answer i; room = c.room i }

-- the answer that says it
abbrev compiled-back : Answer (ℕ × ℕ) → Result Drawn Refusal
compiled-back (refused r) = Err (back r)
compiled-back (given x) = Ok (record { rows = x.0; head = record { 0 = x.1 } })

compiled-back-of : (a : Result Drawn Refusal) → compiled-back (compiled_of a) ≡ a
compiled-back-of (Ok d) = refl
compiled-back-of (Err r) = ap Err (back-of r)

pub compile-once : {p : List ℕ} {old x y : Room} {a b : Result Drawn Refusal} → Compiles p old x a → Compiles p old y b → (a ≡ b) × (x ≡ y)
compile-once {a = a} {b = b} h k = (sym (compiled-back-of a) ∙ ap compiled-back (h.answer ∙ sym k.answer) ∙ compiled-back-of b, h.room ∙ sym k.room)
