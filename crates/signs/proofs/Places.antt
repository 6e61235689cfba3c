-- The bytes from a place on.
use mathlib.Core.Path.{◌≡◌, sym, ap, ◌∙◌}
use mathlib.Core.Bool.{Bool, true, false}
use mathlib.Core.List.{List, [], ◌∷◌}
use mathlib.Core.Option.{Option, none, some}
use Prim.Native.Nat.{ℕ, ◌+◌, ◌≤◌, ◌<◌}
use native.Mathlib.Numerals.{add-one}
use native.Mathlib.Omega.{arith}
use lib.ListN.{length, get_or, drop, drop_of_length-le}
use lib.Seq.{drop-cons}
use Rattle.rules.specs.Tools.{guard}
use Rattle.rules.specs.Reader.{past}
use Rattle.signs.specs.Answers.{Moves, Reads, Found}

-- the byte at a place, and those after it
pub here : (p : List ℕ) (i : ℕ) → i < length p → drop i p ≡ get_or p i 0 ∷ drop (i + 1) p
here p i h = rw (add-one, drop-cons p i 0)

pub at-end : (p : List ℕ) (i : ℕ) → length p ≤ i → drop i p ≡ []
at-end p i h = drop_of_length-le p h

pub two_here : (p : List ℕ) (i : ℕ) → i + 1 < length p → drop i p ≡ get_or p i 0 ∷ get_or p (i + 1) 0 ∷ drop (i + 2) p
two_here p i h = here p i (omega arith) ∙ ap (λ (s : List ℕ). get_or p i 0 ∷ s) (here p (i + 1) h ∙ ap (λ (n : ℕ). get_or p (i + 1) 0 ∷ drop n p) (two i))
  where
    two : (n : ℕ) → n + 1 + 1 ≡ n + 2
    two n = omega arith

-- ---- what is read from a place on is what is read from a place before it

module _ {A : Type 0} where
  farther : (k m : ℕ) (p : List ℕ) (i j : ℕ) (r : Option (A × ℕ)) → Moves k p i r → j + m ≤ i + k → Moves m p j r
  farther k m p i j none h l = tt
  farther k m p i j (some x) h l = (omega arith, h.1)

  pub onward : {k m : ℕ} {f g : List ℕ → Option (A × List ℕ)} {p : List ℕ} {i j : ℕ} {r : Option (A × ℕ)} → Reads k f p i r → f (drop i p) ≡ g (drop j p) → j + m ≤ i + k → Reads m g p j r
  onward {k} {m} {p = p} {i} {j} {r} h e l = record { is = h.is ∙ e; moves = farther k m p i j r h.moves l }

-- ---- whether a byte stands at a place

pub stands : {c : ℕ} {p : List ℕ} {i : ℕ} {r : Bool} → Found c p i r → r ≡ true → past c (drop i p) ≡ some (drop (i + 1) p)
stands {p = p} {i} f e = sym f.is ∙ ap (λ (b : Bool). guard b (drop (i + 1) p)) e

pub not_there : {c : ℕ} {p : List ℕ} {i : ℕ} {r : Bool} → Found c p i r → r ≡ false → past c (drop i p) ≡ none
not_there {p = p} {i} f e = sym f.is ∙ ap (λ (b : Bool). guard b (drop (i + 1) p)) e
