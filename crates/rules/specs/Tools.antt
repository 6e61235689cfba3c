-- Small tools that the definitions share: what may be missing, lists by place, sets of numbers.
use Rattle.std.specs.Prelude.{Bool, true, false, List, [], ◌∷◌, ◌++◌, ℕ, zero, suc, ◌+◌, ◌-◌, ◌/◌, ◌%◌, ◌^◌, eqb}
use Rattle.std.proofs.Math.Option.{Option, none, some}
use Prim.Native.Char.{code}
use Prim.Native.String.{String}

infixl 10 ◌>>=◌
-- ---- what may be missing

abbrev pub ◌>>=◌ : {A B : Type 0} → Option A → (A → Option B) → Option B
none >>= k = none
some a >>= k = k a

abbrev pub guard : {A : Type 0} → Bool → A → Option A
guard true a = some a
guard false a = none

abbrev pub or_else : {A : Type 0} → Option A → Option A → Option A
or_else none y = y
or_else (some a) y = some a

abbrev pub if_some : {A B : Type 0} → Option A → (A → B) → B → B
if_some none f b = b
if_some (some a) f b = f a

-- ---- lists

-- the bytes of a quoted text
abbrev pub bytes_of : String → List ℕ
bytes_of String.[] = []
bytes_of (String.◌∷◌ c s) = code c ∷ bytes_of s

-- n, n + 1, .., n + c - 1
abbrev pub up_from : ℕ → ℕ → List ℕ
up_from n zero = []
up_from n (suc c) = n ∷ up_from (suc n) c

-- lo, lo + 1, .., hi
abbrev pub range : ℕ → ℕ → List ℕ
range lo hi = up_from lo (1 + hi - lo)

abbrev pub all_bytes : List ℕ
all_bytes = up_from 0 256

abbrev pub copies {ℓ} : {A : Type ℓ} → ℕ → A → List A
copies zero x = []
copies (suc n) x = x ∷ copies n x

abbrev pub flat {ℓ} : {A : Type ℓ} → List (List A) → List A
flat [] = []
flat (x ∷ xs) = x ++ flat xs

abbrev pub all {ℓ} : {A : Type ℓ} → (A → Bool) → List A → Bool
all f [] = true
all f (x ∷ xs) = elim (f x) [ true ↦ all f xs | false ↦ false ]

abbrev pub any {ℓ} : {A : Type ℓ} → (A → Bool) → List A → Bool
any f [] = false
any f (x ∷ xs) = elim (f x) [ true ↦ true | false ↦ any f xs ]

abbrev pub kept {ℓ} : {A : Type ℓ} → (A → Bool) → List A → List A
kept f [] = []
kept f (x ∷ xs) = elim (f x) [ true ↦ x ∷ kept f xs | false ↦ kept f xs ]

-- the place of the first element that passes; the length where none does
abbrev pub place {ℓ} : {A : Type ℓ} → (A → Bool) → List A → ℕ
place f [] = 0
place f (x ∷ xs) = elim (f x) [ true ↦ 0 | false ↦ suc (place f xs) ]

-- what a list of pairs says of c; d where it says nothing
abbrev pub find {ℓ} : {A : Type ℓ} → A → ℕ → List (ℕ × A) → A
find d c [] = d
find d c (x ∷ xs) = elim (eqb c x.0) [ true ↦ x.1 | false ↦ find d c xs ]

abbrev pub last : List ℕ → Option ℕ
last [] = none
last (x ∷ []) = some x
last (x ∷ y ∷ xs) = last (y ∷ xs)

-- two lists of numbers are the same
abbrev pub same : List ℕ → List ℕ → Bool
same [] [] = true
same [] (y ∷ ys) = false
same (x ∷ xs) [] = false
same (x ∷ xs) (y ∷ ys) = elim (eqb x y) [ true ↦ same xs ys | false ↦ false ]

-- ---- a set of numbers is one number: k is in m if bit k of m is 1

abbrev pub has : ℕ → ℕ → Bool
has m k = eqb (m / 2 ^ k % 2) 1

abbrev pub with : ℕ → ℕ → ℕ
with m k = elim (has m k) [ true ↦ m | false ↦ m + 2 ^ k ]

abbrev pub with_all : ℕ → List ℕ → ℕ
with_all m [] = m
with_all m (k ∷ ks) = with_all (with m k) ks
