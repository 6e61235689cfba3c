-- An answer that is due is the only one, and its refusals are given exactly when they are due.
use mathlib.Core.Path.{◌≡◌, refl, sym, ap, subst, ◌∙◌}
use mathlib.Core.Logic.{◌⊎◌, inl, inr, ◌↔◌}
use mathlib.Core.Bool.{Bool, true, false}
use mathlib.Core.List.{List, [], ◌∷◌}
use Prim.Native.Nat.{ℕ, ◌<◌}
use native.Mathlib.Decide.{dec_lt}
use lib.Dec.{T}
use Rattle.rules.specs.Answers.{Refusal, Answer, refused, given, Due, FirstDue}

-- a condition holds of some refusal, or of none
abbrev pub Decided : (Refusal → Type 0) → Type 0
Decided C = ((r : Refusal) × C r) ⊎ ((r : Refusal) → C r → ⊥)

abbrev pub AllDecided : List (Refusal → Type 0) → Type 0
AllDecided [] = Unit {0}
AllDecided (C ∷ Cs) = Decided C × AllDecided Cs

-- one that asks whether a number is below another
pub below-decided : (m n : ℕ) (r : Refusal) → Decided (λ q. (m < n) × (q ≡ r))
below-decided m n r = go (dec_lt m n)
  where
    go : Dec (m < n) → Decided (λ q. (m < n) × (q ≡ r))
    go (yes l) = inl (r, (l, refl))
    go (no l) = inr (λ q c. l c.0)

refused-only : {A : Type 0} {r q : Refusal} → ◌≡◌ {A = Answer A} (refused r) (refused q) → r ≡ q
refused-only e = cc

module _ {A : Type 0} (P : A → Type 0) where
  pub due-once : (Cs : List (Refusal → Type 0)) → AllDecided Cs → ((a b : A) → P a → P b → a ≡ b) → (x y : Answer A) → Due Cs P x → Due Cs P y → x ≡ y
  due-once [] d one (refused r) y h g = absurd h
  due-once [] d one (given a) (refused r) h g = absurd g
  due-once [] d one (given a) (given b) h g = ap {B = Answer A} given (one a b h g)
  due-once (C ∷ Cs) d one x y h g = pick d.0 (λ n. due-once Cs d.1 one x y (h.1 n) (g.1 n))
    where
      pick : Decided C → (((r : Refusal) → C r → ⊥) → x ≡ y) → x ≡ y
      pick (inl c) rec = h.0 c.0 c.1 ∙ sym (g.0 c.0 c.1)
      pick (inr n) rec = rec n

  pub due-exactly : (Cs : List (Refusal → Type 0)) → AllDecided Cs → (x : Answer A) → Due Cs P x → (r : Refusal) → (x ≡ refused r) ↔ FirstDue Cs r
  due-exactly [] d x h r = (λ e. subst (λ (y : Answer A). Due [] P y) e h, λ f. absurd f)
  due-exactly (C ∷ Cs) d x h r = (to d.0 (λ n. due-exactly Cs d.1 x (h.1 n) r), fro (λ n. due-exactly Cs d.1 x (h.1 n) r))
    where
      to : Decided C → (((q : Refusal) → C q → ⊥) → (x ≡ refused r) ↔ FirstDue Cs r) → x ≡ refused r → FirstDue (C ∷ Cs) r
      to (inl c) rec e = inl (subst C (refused-only (sym (h.0 c.0 c.1) ∙ e)) c.1)
      to (inr n) rec e = inr (n, (rec n).0 e)

      fro : (((q : Refusal) → C q → ⊥) → (x ≡ refused r) ↔ FirstDue Cs r) → FirstDue (C ∷ Cs) r → x ≡ refused r
      fro rec (inl c) = h.0 r c
      fro rec (inr f) = (rec f.0).1 f.1

  -- a test of a condition that allows one refusal only, and what is due where it fails
  pub tested : (C : Refusal → Type 0) (Cs : List (Refusal → Type 0)) (r : Refusal) (b : Bool) → ((q : Refusal) → C q → T b × (q ≡ r)) → (T b → C r) → (x : Answer A) → ((T b → ⊥) → Due Cs P x)
      → Due (C ∷ Cs) P (elim b [ true ↦ refused r | false ↦ x ])
  tested C Cs r true only holds x rest = (λ q c. ap {B = Answer A} refused (sym (only q c).1), λ n. absurd (n r (holds tt)))
  tested C Cs r false only holds x rest = (λ q c. absurd (only q c).0, λ n. rest (λ f. f))
