-- Laws of rows: a row's cells as the part that is lent on, and a text for each row, one after the other.
use mathlib.Core.Path.{◌≡◌, sym, ap, ◌∙◌}
use mathlib.Core.List.{List, [], ◌∷◌, ◌++◌, map, append-nil, append_assoc}
use Prim.Native.Nat.{ℕ, zero, suc, ◌+◌, ◌-◌, ◌*◌, ◌≤◌, ◌<◌}
use native.Mathlib.Nat.{add-zero, zero-add, sub-zero, suc-sub-suc}
use native.Mathlib.Numerals.{add-one}
use native.Mathlib.Omega.{arith}
use lib.ListN.{length, get_or, take, drop, length-take, length-drop}
use lib.Seq.{slice, take-nil, get_or-take, get_or-drop}
use Rattle.rules.specs.Tools.{up_from, flat}

pub part_slice : (a e : ℕ) (l : List ℕ) → take (e - a) (drop a l) ≡ slice a e l
part_slice zero e l = ap (λ (n : ℕ). take n l) (sub-zero e)
part_slice (suc a) zero l = ap (λ (n : ℕ). take n (drop (suc a) l)) none
  where
    none : 0 - suc a ≡ 0
    none = omega arith
part_slice (suc a) (suc e) [] = take-nil (suc e - suc a)
part_slice (suc a) (suc e) (x ∷ xs) = ap (λ (n : ℕ). take n (drop a xs)) (suc-sub-suc e a) ∙ part_slice a e xs

-- the 256 cells of a row
abbrev pub part : ℕ → List ℕ → List ℕ
part q cells = take (256 * q + 256 - 256 * q) (drop (256 * q) cells)

pub part_length : (q : ℕ) (cells : List ℕ) → 256 * q + 256 ≤ length cells → length (part q cells) ≡ 256
part_length q cells h = simp (length-take, length-drop) (omega arith)

pub part_at : (q : ℕ) (cells : List ℕ) (i : ℕ) → i < 256 → get_or (part q cells) i 0 ≡ get_or cells (256 * q + i) 0
part_at q cells i h = get_or-take (256 * q + 256 - 256 * q) (drop (256 * q) cells) i 0 (omega arith) ∙ get_or-drop (256 * q) cells i 0

-- ---- a text for each row

pub rows_more : (f : ℕ → List ℕ) (count : ℕ) → flat (map f (up_from 0 (count + 1))) ≡ flat (map f (up_from 0 count)) ++ f count
rows_more f count = rw (add-one count) (go 0 count) ∙ ap (λ (n : ℕ). flat (map f (up_from 0 count)) ++ f n) (zero-add count)
  where
    go : (from count : ℕ) → flat (map f (up_from from (suc count))) ≡ flat (map f (up_from from count)) ++ f (from + count)
    go from zero = append-nil (f from) ∙ ap f (sym (add-zero from))
    go from (suc count) =
        ap (λ (l : List ℕ). f from ++ l) (go (suc from) count ∙ ap (λ (n : ℕ). flat (map f (up_from (suc from) count)) ++ f n) shift)
        ∙ sym (append_assoc (f from) (flat (map f (up_from (suc from) count))) (f (from + suc count)))
      where
        shift : suc from + count ≡ from + suc count
        shift = omega arith
