-- "The pattern language": escapes, counts and classes.
-- `R s a u` says: the bytes s begin with an R that stands for a, and u are the bytes after it.
use Rattle.std.specs.Prelude.{◌≡◌, true, ◌≢◌, List, [], ◌∷◌, ◌++◌, ℕ, ◌+◌, ◌*◌, ◌-◌, ◌≤◌, ◌<◌}
use Rattle.std.proofs.Math.Option.{some}
use Rattle.rules.specs.Tools.{range, with_all}
use Rattle.rules.specs.Sizes.{count_most}
use Rattle.rules.specs.Signs.{every_byte, digit, hex_digit, after_backslash, bare, named}
use Rattle.rules.specs.Tree.{Repeat, times, at_least}

-- after a `\`: a byte of the two-byte escapes; or `x` and two hexadecimal digits
pub data Escape : List ℕ → ℕ → List ℕ → Type 0 where
  two : {c b : ℕ} {s : List ℕ} → after_backslash c ≡ some b → Escape (c ∷ s) b s
  hex : {a b x y : ℕ} {s : List ℕ} → hex_digit a ≡ some x → hex_digit b ≡ some y → Escape (120 ∷ a ∷ b ∷ s) (16 * x + y) s

-- one to three decimal digits
pub data Digits : List ℕ → ℕ → List ℕ → Type 0 where
  one : {a x : ℕ} {s : List ℕ} → digit a ≡ some x → Digits (a ∷ s) x s
  two : {a b x y : ℕ} {s : List ℕ} → digit a ≡ some x → digit b ≡ some y → Digits (a ∷ b ∷ s) (10 * x + y) s
  three : {a b c x y z : ℕ} {s : List ℕ} → digit a ≡ some x → digit b ≡ some y → digit c ≡ some z → Digits (a ∷ b ∷ c ∷ s) (10 * (10 * x + y) + z) s

-- after a `{`: m `}`; m `,` `}`; m `,` n `}` with m at most n; each number at most 255
pub data Count : List ℕ → Repeat → List ℕ → Type 0 where
  exactly : {s u : List ℕ} {m : ℕ} → Digits s m (125 ∷ u) → m ≤ count_most → Count s (times m 0) u
  or_more : {s u : List ℕ} {m : ℕ} → Digits s m (44 ∷ 125 ∷ u) → m ≤ count_most → Count s (at_least m) u
  up_to : {s t u : List ℕ} {m n : ℕ} → Digits s m (44 ∷ t) → Digits t n (125 ∷ u) → m ≤ n → n ≤ count_most → Count s (times m (n - m)) u

-- a member of a class: an escape, or a bare byte
pub data Member : List ℕ → ℕ → List ℕ → Type 0 where
  byte : {c : ℕ} {s : List ℕ} → bare c ≡ true → Member (c ∷ s) c s
  escaped : {b : ℕ} {s u : List ℕ} → Escape s b u → Member (92 ∷ s) b u

-- one of the named classes
pub data Name : List (List ℕ × List ℕ) → List ℕ → List ℕ → List ℕ → Type 0 where
  this : {x : List ℕ × List ℕ} {xs : List (List ℕ × List ℕ)} {u : List ℕ} → Name (x ∷ xs) (x.0 ++ u) x.1 u
  later : {x : List ℕ × List ℕ} {xs : List (List ℕ × List ℕ)} {s bs u : List ℕ} → Name xs s bs u → Name (x ∷ xs) s bs u

-- an item of a class and its bytes: a member; a range, its low end at most the high one; a named class
pub data Item : List ℕ → List ℕ → List ℕ → Type 0 where
  single : {b : ℕ} {s u : List ℕ} → Member s b u → Item s (b ∷ []) u
  from_to : {lo hi : ℕ} {s t u : List ℕ} → Member s lo (45 ∷ t) → Member t hi u → lo ≤ hi → Item s (range lo hi) u
  a_name : {s bs u : List ℕ} → Name named s bs u → Item s bs u

-- one or more items and a `]`, whose bytes added to the set B make the set C
pub data Items : ℕ → List ℕ → ℕ → List ℕ → Type 0 where
  last : {B : ℕ} {s bs u : List ℕ} → Item s bs (93 ∷ u) → Items B s (with_all B bs) u
  next : {B C : ℕ} {s bs t u : List ℕ} → Item s bs t → Items (with_all B bs) t C u → Items B s C u

-- after a `[`: items; or `^` and items, for the bytes that they leave, at least one
pub data Class : List ℕ → ℕ → List ℕ → Type 0 where
  these : {B c : ℕ} {s u : List ℕ} → c ≢ 94 → Items 0 (c ∷ s) B u → Class (c ∷ s) B u
  but_these : {B : ℕ} {s u : List ℕ} → Items 0 s B u → 0 < every_byte - B → Class (94 ∷ s) (every_byte - B) u
