-- A part of a list replaced: `put_mid` is what the list is after the part was lent.
use mathlib.Core.Path.{◌≡◌, sym, ap, ◌∙◌}
use mathlib.Core.List.{List}
use Prim.Native.Nat.{ℕ, ◌+◌, ◌-◌, ◌≤◌, ◌<◌}
use native.Mathlib.Omega.{arith}
use borrow.Rule.Slice.PartMut.{put_mid}
use borrow.Author.Rules.{rules}
use Rattle.std.proofs.lemmas.Slice.{overwrites, take-put_mid_below, between-put_mid}
use Rattle.std.proofs.lemmas.List.{drop-take, places}
use lib.ListN.{length, get_or, take, drop}

-- the k elements from a on became ys
module _ (xs ys : List ℕ) (a k : ℕ) (long : length ys ≡ k) (fits : a + k ≤ length xs) where
  pub put-length : length (put_mid a k xs ys) ≡ length xs
  put-length = search (rules, overwrites)

  pub put-part : take k (drop a (put_mid a k xs ys)) ≡ ys
  put-part = let e : a + k - a ≡ k = omega arith in ap (λ (n : ℕ). take n (drop a (put_mid a k xs ys))) (sym e) ∙ between-put_mid a k xs ys (a + k) (omega arith) (omega arith)

  pub put-ahead : (b n : ℕ) → b + n ≤ a → take n (drop b (put_mid a k xs ys)) ≡ take n (drop b xs)
  put-ahead b n l = sym (drop-take b n (put_mid a k xs ys)) ∙ ap (drop b) (take-put_mid_below a k xs ys (b + n) l (omega arith)) ∙ drop-take b n xs

  pub put-after : (b n : ℕ) → a + k ≤ b → take n (drop b (put_mid a k xs ys)) ≡ take n (drop b xs)
  put-after b n l = ap (take n) (search (rules, overwrites))

  pub put-below : (j : ℕ) → j < a → get_or (put_mid a k xs ys) j 0 ≡ get_or xs j 0
  put-below j l = search (rules, places)

  pub put-at : (j : ℕ) → j < k → get_or (put_mid a k xs ys) (a + j) 0 ≡ get_or ys j 0
  put-at j l = search (rules, places)
