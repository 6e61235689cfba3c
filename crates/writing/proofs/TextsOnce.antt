-- No second answer fits what a writer promises, and 13 is given exactly when it is due.
use mathlib.Core.Path.{◌≡◌, refl, sym, ap, ◌∙◌}
use mathlib.Core.Logic.{◌↔◌}
use mathlib.Core.Bool.{Bool, true, false}
use mathlib.Core.List.{List}
use Prim.Native.Nat.{ℕ}
use native.Mathlib.Omega.{arith}
use Rattle.rules.specs.Table.{Table, well_formed}
use Rattle.rules.specs.Answers.{Refusal, refusal, Answer, refused, given}
use Rattle.rules.specs.Matchers.{NotFormed}
use Rattle.rules.proofs.TableLaws.{well-formed-test}
use Rattle.kinds.proofs.RefusalsApart.{back, back-of}
use Rattle.std.specs.Prelude.{Result, Ok, Err}
use Rattle.kinds.specs.declared.Refusal as kinds
use Rattle.answers.specs.declared.Written.{Written}
use Rattle.answers.specs.declared.Written.TheVariants.{Whole, Beginning}
use Rattle.answers.specs.Answers.{text_of}
use Rattle.writing.specs.Texts.{Shown, shown, if_formed}

-- the answer that says it
abbrev text-back : Answer (Bool × ℕ) → Result Written kinds.Refusal
text-back (refused r) = Err (back r)
text-back (given (true, n)) = Ok (Whole n)
text-back (given (false, n)) = Ok (Beginning n)

text-back-of : (a : Result Written kinds.Refusal) → text-back (text_of a) ≡ a
text-back-of (Err r) = ap Err (back-of r)
text-back-of (Ok (Whole n)) = refl
text-back-of (Ok (Beginning n)) = refl

pub text-once : {x : Shown} (a b : Result Written kinds.Refusal) (new late : List ℕ) → shown a new ≡ x → shown b late ≡ x → (a ≡ b) × (new ≡ late)
text-once a b new late p q = (
  sym (text-back-of a) ∙ ap (λ (o : Shown). text-back o.answer) (p ∙ sym q) ∙ text-back-of b,
  ap (λ (o : Shown). o.buffer) (p ∙ sym q),
)

pub text-refuses : (w : Table) (text : List ℕ) (r : Refusal) → (if_formed w text ≡ refused r) ↔ NotFormed w r
unfolding if_formed
text-refuses w text r = go (well_formed w) refl
  where
    go : (b : Bool) → well_formed w ≡ b → (◌≡◌ {A = Answer (List ℕ)} (elim b [ true ↦ given text | false ↦ refused (refusal 13 0) ]) (refused r)) ↔ NotFormed w r
    go true e = (λ h. absurd (let z : ◌≡◌ {A = ℕ} 0 1 = cc in omega arith), λ h. absurd (h.0 ((well-formed-test w).0 e)))
    go false e = (λ h. (λ f. absurd (let g : well_formed w ≡ true = (well-formed-test w).1 f in let z : ◌≡◌ {A = ℕ} 0 1 = cc in omega arith), cc), λ h. ap refused (sym h.1))
