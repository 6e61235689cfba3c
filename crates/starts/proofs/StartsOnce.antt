-- No second answer and no second list fits what all starts promises.
use mathlib.Core.Path.{◌≡◌, refl, sym, ap, ◌∙◌}
use mathlib.Core.List.{List}
use Prim.Native.Nat.{ℕ}
use Rattle.rules.specs.Table.{Table}
use Rattle.rules.specs.Answers.{Answer, refused, given}
use Rattle.rules.specs.Matchers.{Listed, starts_answer}
use Rattle.kinds.proofs.RefusalsApart.{back, back-of}
use Rattle.answers.specs.Answers.{starts_of, listed_of}
use Rattle.std.specs.Prelude.{Result, Ok, Err}
use Rattle.kinds.specs.declared.Refusal.{Refusal}

-- the answer that says it
abbrev starts_back : Answer ℕ → Result ℕ Refusal
starts_back (refused r) = Err (back r)
starts_back (given n) = Ok n

starts_back-of : (a : Result ℕ Refusal) → starts_back (starts_of a) ≡ a
starts_back-of (Err r) = ap Err (back-of r)
starts_back-of (Ok n) = refl

pub starts-once : (w : Table) (t list : List ℕ) (a b : Result ℕ Refusal) (x y : List ℕ) → listed_of a x ≡ starts_answer w t list → listed_of b y ≡ starts_answer w t list → (a ≡ b) × (x ≡ y)
starts-once w t list a b x y p q =
    let same : listed_of a x ≡ listed_of b y = p ∙ sym q in
    (sym (starts_back-of a) ∙ ap (λ (o : Listed). starts_back o.answer) same ∙ starts_back-of b, ap (λ (o : Listed). o.list) same)
