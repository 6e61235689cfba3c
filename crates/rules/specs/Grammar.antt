-- "The pattern language": what stands at a place, and what a pattern spells.
use Rattle.std.specs.Prelude.{◌≡◌, List, [], ◌∷◌, ℕ, suc, ◌^◌, ◌<◌}
use Rattle.rules.specs.Sizes.{groups_most}
use Rattle.rules.specs.Signs.{sign, plain, dot, opens_class, closes_class, opens_group, closes_group, bar, star_sign, plus_sign, query_sign, opens_count, closes_count, hat, dollar, backslash, dot_bytes}
use Rattle.rules.specs.Tree.{Repeat, star, plus, maybe, Tree, nothing, bytes, head, tail, in_row, either, repeated}
use Rattle.rules.specs.Leaves.{Escape, Count, Class}

-- What stands at a place. The list that a token holds is the bytes after it.
pub data Token : Type 0 where
  single : Tree → List ℕ → Token  -- an atom that is no group: a plain byte, `.`, a class, an escape, `^`, `$`
  repeats : Repeat → List ℕ → Token  -- a repeat sign
  opens closes parts : List ℕ → Token  -- `(`, `)`, `|`
  ends : Token  -- the end of the pattern
  no_count no_class no_escape stray : Token  -- `{`, `[`, `\` with no legal form after it; `]` or `}`

-- `Stands s t`: t stands where the bytes s are left
pub data Stands : List ℕ → Token → Type 0 where
  the_end : Stands [] ends
  a_plain : {c : ℕ} {s : List ℕ} → sign c ≡ plain → Stands (c ∷ s) (single (bytes (2 ^ c)) s)
  a_dot : {c : ℕ} {s : List ℕ} → sign c ≡ dot → Stands (c ∷ s) (single (bytes dot_bytes) s)
  a_hat : {c : ℕ} {s : List ℕ} → sign c ≡ hat → Stands (c ∷ s) (single head s)
  a_dollar : {c : ℕ} {s : List ℕ} → sign c ≡ dollar → Stands (c ∷ s) (single tail s)
  a_class : {c B : ℕ} {s u : List ℕ} → sign c ≡ opens_class → Class s B u → Stands (c ∷ s) (single (bytes B) u)
  bad_class : {c : ℕ} {s : List ℕ} → sign c ≡ opens_class → ((B : ℕ) (u : List ℕ) → Class s B u → ⊥) → Stands (c ∷ s) no_class
  an_escape : {c b : ℕ} {s u : List ℕ} → sign c ≡ backslash → Escape s b u → Stands (c ∷ s) (single (bytes (2 ^ b)) u)
  bad_escape : {c : ℕ} {s : List ℕ} → sign c ≡ backslash → ((b : ℕ) (u : List ℕ) → Escape s b u → ⊥) → Stands (c ∷ s) no_escape
  a_star : {c : ℕ} {s : List ℕ} → sign c ≡ star_sign → Stands (c ∷ s) (repeats star s)
  a_plus : {c : ℕ} {s : List ℕ} → sign c ≡ plus_sign → Stands (c ∷ s) (repeats plus s)
  a_query : {c : ℕ} {s : List ℕ} → sign c ≡ query_sign → Stands (c ∷ s) (repeats maybe s)
  a_count : {c : ℕ} {k : Repeat} {s u : List ℕ} → sign c ≡ opens_count → Count s k u → Stands (c ∷ s) (repeats k u)
  bad_count : {c : ℕ} {s : List ℕ} → sign c ≡ opens_count → ((k : Repeat) (u : List ℕ) → Count s k u → ⊥) → Stands (c ∷ s) no_count
  an_open : {c : ℕ} {s : List ℕ} → sign c ≡ opens_group → Stands (c ∷ s) (opens s)
  a_close : {c : ℕ} {s : List ℕ} → sign c ≡ closes_group → Stands (c ∷ s) (closes s)
  a_bar : {c : ℕ} {s : List ℕ} → sign c ≡ bar → Stands (c ∷ s) (parts s)
  bare_bracket : {c : ℕ} {s : List ℕ} → sign c ≡ closes_class → Stands (c ∷ s) stray
  bare_brace : {c : ℕ} {s : List ℕ} → sign c ≡ closes_count → Stands (c ∷ s) stray

-- The grammar. `Spells P d s X u`: with d groups open, the bytes s begin with a P that stands for X, and u are the bytes after it.
pub data Part : Type 0 where
  atom piece pieces branch pattern : Part

pub data Spells : Part → ℕ → List ℕ → Tree → List ℕ → Type 0 where
  -- an atom is a single, or a pattern in `(` `)`
  alone : {d : ℕ} {s u : List ℕ} {X : Tree} → Stands s (single X u) → Spells atom d s X u
  group : {d : ℕ} {s u v w : List ℕ} {X : Tree} → Stands s (opens u) → d < groups_most → Spells pattern (suc d) u X v → Stands v (closes w) → Spells atom d s X w
  -- a piece is an atom with at most one repeat sign after it
  once : {d : ℕ} {s u : List ℕ} {X : Tree} → Spells atom d s X u → Spells piece d s X u
  with_sign : {d : ℕ} {s u v : List ℕ} {X : Tree} {k : Repeat} → Spells atom d s X u → Stands u (repeats k v) → Spells piece d s (repeated k X) v
  -- a branch is zero or more pieces in a row
  first_piece : {d : ℕ} {s u : List ℕ} {X : Tree} → Spells piece d s X u → Spells pieces d s X u
  next_piece : {d : ℕ} {s u v : List ℕ} {X Y : Tree} → Spells pieces d s X u → Spells piece d u Y v → Spells pieces d s (in_row X Y) v
  empty_branch : {d : ℕ} {s : List ℕ} → Spells branch d s nothing s
  some_branch : {d : ℕ} {s u : List ℕ} {X : Tree} → Spells pieces d s X u → Spells branch d s X u
  -- a pattern is one or more branches parted by `|`, folded from the left
  first_branch : {d : ℕ} {s u : List ℕ} {X : Tree} → Spells branch d s X u → Spells pattern d s X u
  next_branch : {d : ℕ} {s u v w : List ℕ} {X Y : Tree} → Spells pattern d s X u → Stands u (parts v) → Spells branch d v Y w → Spells pattern d s (either X Y) w

-- the whole of p is a pattern that spells X
pub record Legal (p : List ℕ) (X : Tree) : Type 0 where
  pub spells : Spells pattern 0 p X []
