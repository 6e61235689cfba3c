-- Two lists compared number by number.
use mathlib.Core.Path.{◌≡◌, refl}
use mathlib.Core.Bool.{Bool, true, false, ◌&&◌}
use mathlib.Core.List.{List, [], ◌∷◌}
use Prim.Native.Nat.{ℕ}
use lib.Dec.{eqb}
use lib.Pointwise.{pointwise}
use Rattle.std.specs.Prelude.{nat_eq}
use Rattle.rules.specs.Tools.{same}

pub same-pointwise : (xs ys : List ℕ) → same xs ys ≡ pointwise nat_eq xs ys
same-pointwise [] [] = refl
same-pointwise [] (y ∷ ys) = refl
same-pointwise (x ∷ xs) [] = refl
same-pointwise (x ∷ xs) (y ∷ ys) = go (eqb x y) (same-pointwise xs ys)
  where
    go : (b : Bool) → same xs ys ≡ pointwise nat_eq xs ys → elim b [ true ↦ same xs ys | false ↦ false ] ≡ b && pointwise nat_eq xs ys
    go true e = e
    go false e = refl
