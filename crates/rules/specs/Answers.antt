-- "Numbers for what is turned away": a refusal, and when it is due.
use Rattle.std.specs.Prelude.{◌≡◌, ◌⊎◌, List, [], ◌∷◌, ℕ}

-- the number of the rules, its place, and the values that come with it
pub record Refusal : Type 0 where
  pub number : ℕ
  pub place : ℕ
  pub values : List ℕ

abbrev pub refusal : ℕ → ℕ → Refusal
refusal n i = record { number = n; place = i; values = [] }

-- what an entry point hands back
pub data Answer (A : Type 0) : Type 0 where
  refused : Refusal → Answer A
  given : A → Answer A

-- The conditions of an entry point's refusals, in order. A refusal is given when its condition holds and none ahead of it does,
-- and at no other time: where none holds, what is given has P.
abbrev pub Due : {A : Type 0} → List (Refusal → Type 0) → (A → Type 0) → Answer A → Type 0
Due [] P (refused r) = ⊥
Due [] P (given a) = P a
Due (C ∷ Cs) P x = ((r : Refusal) → C r → x ≡ refused r) × (((r : Refusal) → C r → ⊥) → Due Cs P x)

-- r's condition holds, and none ahead of it does
abbrev pub FirstDue : List (Refusal → Type 0) → Refusal → Type 0
FirstDue [] r = ⊥
FirstDue (C ∷ Cs) r = C r ⊎ (((q : Refusal) → C q → ⊥) × FirstDue Cs r)
