-- Reading, computed: what stands at a place, and then from the left, token by token, with the open groups on a stack.
use Rattle.std.specs.Prelude.{Bool, true, false, List, [], ◌∷◌, ℕ, zero, suc, ◌+◌, ◌-◌, ◌*◌, ◌^◌, leb, ltb, eqb, length}
use Rattle.std.proofs.Math.Option.{Option, none, some}
use Rattle.rules.specs.Tools.{◌>>=◌, guard, or_else, if_some, range, with_all}
use Rattle.rules.specs.Sizes.{groups_most, count_most}
use Rattle.rules.specs.Signs.{Sign, plain, dot, opens_class, closes_class, opens_group, closes_group, bar, star_sign, plus_sign, query_sign, opens_count, closes_count, hat, dollar, backslash, sign, every_byte, dot_bytes, digit, hex_digit, after_backslash, bare, named}
use Rattle.rules.specs.Tree.{Repeat, star, plus, maybe, times, at_least, Tree, nothing, bytes, head, tail, in_row, either, repeated}
use Rattle.rules.specs.Grammar.{Token, single, repeats, opens, closes, parts, ends, no_count, no_class, no_escape, stray}

-- ---- escapes, counts and classes

-- the bytes after the byte c; after the bytes cs
abbrev pub past : ℕ → List ℕ → Option (List ℕ)
past c [] = none
past c (x ∷ xs) = guard (eqb x c) xs

abbrev pub past_all : List ℕ → List ℕ → Option (List ℕ)
past_all [] xs = some xs
past_all (c ∷ cs) xs = past c xs >>= past_all cs

abbrev pub hex_byte : List ℕ → Option (ℕ × List ℕ)
hex_byte [] = none
hex_byte (a ∷ []) = none
hex_byte (a ∷ b ∷ s) = hex_digit a >>= λ x. hex_digit b >>= λ y. some (16 * x + y, s)

-- after a `\`
unfoldable pub escape : List ℕ → Option (ℕ × List ℕ)
escape [] = none
escape (c ∷ s) = or_else (after_backslash c >>= λ b. some (b, s)) (past 120 (c ∷ s) >>= hex_byte)

-- at most k more digits after the number n
abbrev pub digits : ℕ → ℕ → List ℕ → ℕ × List ℕ
digits zero n s = (n, s)
digits (suc k) n [] = (n, [])
digits (suc k) n (c ∷ s) = if_some (digit c) (λ x. digits k (10 * n + x) s) (n, c ∷ s)

unfoldable pub number : List ℕ → Option (ℕ × List ℕ)
number [] = none
number (c ∷ s) = digit c >>= λ x. guard (leb (digits 2 x s).0 count_most) (digits 2 x s)

-- after a `{`
unfoldable pub count : List ℕ → Option (Repeat × List ℕ)
count s = number s >>= λ (m, u).
    or_else (past 125 u >>= λ v. some (times m 0, v)) (past 44 u >>= λ v.
    or_else (past 125 v >>= λ x. some (at_least m, x)) (number v >>= λ (n, x). past 125 x >>= λ y. guard (leb m n) (times m (n - m), y)))

unfoldable pub named_class : List (List ℕ × List ℕ) → List ℕ → Option (List ℕ × List ℕ)
named_class [] s = none
named_class (x ∷ xs) s = or_else (past_all x.0 s >>= λ u. some (x.1, u)) (named_class xs s)

unfoldable pub member : List ℕ → Option (ℕ × List ℕ)
member [] = none
member (c ∷ s) = or_else (guard (bare c) (c, s)) (past 92 (c ∷ s) >>= escape)

unfoldable pub item : List ℕ → Option (List ℕ × List ℕ)
item s = or_else (member s >>= λ (lo, u).
    if_some (past 45 u) (λ v. member v >>= λ (hi, x). guard (leb lo hi) (range lo hi, x)) (some (lo ∷ [], u))) (named_class named s)

-- one or more items and a `]`, at most f items, added to the set B
unfoldable pub items : ℕ → ℕ → List ℕ → Option (ℕ × List ℕ)
items zero B s = none
items (suc f) B s = item s >>= λ (bs, u).
    if_some (past 93 u) (λ v. some (with_all B bs, v)) (items f (with_all B bs) u)

-- after a `[`
unfoldable pub class : List ℕ → Option (ℕ × List ℕ)
class s =
    if_some (past 94 s) (λ u. items (length u) 0 u >>= λ (B, v). guard (ltb 0 (every_byte - B)) (every_byte - B, v)) (items (length s) 0 s)

-- ---- the token at a place

abbrev pub set_or : Token → Option (ℕ × List ℕ) → Token
set_or t none = t
set_or t (some x) = single (bytes x.0) x.1

abbrev pub byte_or : Token → Option (ℕ × List ℕ) → Token
byte_or t none = t
byte_or t (some x) = single (bytes (2 ^ x.0)) x.1

abbrev pub repeats_or : Token → Option (Repeat × List ℕ) → Token
repeats_or t none = t
repeats_or t (some x) = repeats x.0 x.1

-- the token that begins with the byte c of this sign
abbrev pub token_of : Sign → ℕ → List ℕ → Token
token_of plain c s = single (bytes (2 ^ c)) s
token_of dot c s = single (bytes dot_bytes) s
token_of hat c s = single head s
token_of dollar c s = single tail s
token_of opens_class c s = set_or no_class (class s)
token_of backslash c s = byte_or no_escape (escape s)
token_of star_sign c s = repeats star s
token_of plus_sign c s = repeats plus s
token_of query_sign c s = repeats maybe s
token_of opens_count c s = repeats_or no_count (count s)
token_of opens_group c s = opens s
token_of closes_group c s = closes s
token_of bar c s = parts s
token_of closes_class c s = stray
token_of closes_count c s = stray

unfoldable pub token : List ℕ → Token
token [] = ends
token (c ∷ s) = token_of (sign c) c s

-- ---- from the left

-- a tree; or a number, with the bytes from its place on
pub data Reading : Type 0 where
  got : Tree → Reading
  bad : ℕ → List ℕ → Reading

-- the branch so far: empty; pieces and an atom; pieces, the last with its repeat sign
pub data Branch : Type 0 where
  empty : Branch
  after : Option Tree → Tree → Branch
  full : Tree → Branch

-- the group so far: its branches before this one, and this one
pub data Group : Type 0 where
  group : Option Tree → Branch → Group

abbrev pub add : Option Tree → Tree → Tree
add none X = X
add (some R) X = in_row R X

abbrev pub so_far : Branch → Option Tree
so_far empty = none
so_far (after R X) = some (add R X)
so_far (full R) = some R

abbrev pub ended : Branch → Tree
ended B = if_some (so_far B) (λ X. X) nothing

abbrev pub tree_of : Group → Tree
tree_of (group none B) = ended B
tree_of (group (some A) B) = either A (ended B)

abbrev pub more : Group → Tree → Group
more (group A B) X = group A (after (so_far B) X)

-- the next place with its groups, or the answer
pub data Move : Type 0 where
  on : List ℕ → Group → List Group → Move
  stop : Reading → Move

abbrev pub move_open : Bool → List ℕ → List ℕ → Group → List Group → Move
move_open true s u G K = on u (group none empty) (G ∷ K)
move_open false s u G K = stop (bad 9 s)

abbrev pub move_close : List ℕ → List ℕ → Group → List Group → Move
move_close s u G [] = stop (bad 7 s)
move_close s u G (H ∷ K) = on u (more H (tree_of G)) K

abbrev pub move_end : List ℕ → Group → List Group → Move
move_end s G [] = stop (got (tree_of G))
move_end s G (H ∷ K) = stop (bad 8 s)

-- a repeat sign, legal or not, is 2 where no atom stands right before it
abbrev pub after_atom : (Option Tree → Option Tree → Tree → Move) → List ℕ → Group → Move
after_atom f s (group A empty) = stop (bad 2 s)
after_atom f s (group A (after R X)) = f A R X
after_atom f s (group A (full R)) = stop (bad 2 s)

abbrev pub move : Token → List ℕ → Group → List Group → Move
move (single X u) s G K = on u (more G X) K
move (repeats k u) s G K = after_atom (λ A R X. on u (group A (full (add R (repeated k X)))) K) s G
move (opens u) s G K = move_open (ltb (length K) groups_most) s u G K
move (closes u) s G K = move_close s u G K
move (parts u) s G K = on u (group (some (tree_of G)) empty) K
move ends s G K = move_end s G K
move no_count s G K = after_atom (λ A R X. stop (bad 3 s)) s G
move no_class s G K = stop (bad 4 s)
move no_escape s G K = stop (bad 5 s)
move stray s G K = stop (bad 6 s)

abbrev pub go_on : Move → (List ℕ → Group → List Group → Reading) → Reading
go_on (on u G K) k = k u G K
go_on (stop a) k = a

-- at most f tokens
unfoldable pub run : ℕ → List ℕ → Group → List Group → Reading
run zero s G K = bad 0 s
run (suc f) s G K = go_on (move (token s) s G K) (λ u H L. run f u H L)

unfoldable pub read : List ℕ → Reading
read p = run (suc (length p)) p (group none empty) []
