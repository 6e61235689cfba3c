-- Which side a test takes.
use mathlib.Core.Path.{◌≡◌, ap}
use mathlib.Core.Bool.{Bool, true, false}

module _ {A : Type 0} {b : Bool} (x y : A) where
  pub if-true : b ≡ true → elim b [ true ↦ x | false ↦ y ] ≡ x
  if-true e = ap (λ (t : Bool). elim t [ true ↦ x | false ↦ y ]) e

  pub if-false : b ≡ false → elim b [ true ↦ x | false ↦ y ] ≡ y
  if-false e = ap (λ (t : Bool). elim t [ true ↦ x | false ↦ y ]) e
