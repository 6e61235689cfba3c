-- What the scan answers is so: the tree that it gets is spelled, and the number that it gives is at fault there.
use mathlib.Core.Path.{◌≡◌, refl}
use mathlib.Core.Logic.{◌↔◌}
use mathlib.Core.List.{List, [], ◌∷◌}
use mathlib.Core.Bool.{Bool, true, false}
use mathlib.Core.Option.{Option, none, some}
use Prim.Native.Nat.{ℕ, zero, suc, ◌<◌, ◌≤◌}
use native.Mathlib.Omega.{arith}
use lib.Dec.{ltb}
use lib.ListN.{length}
use borrow.Author.Tests.{ltb-true, ltb-false}
use Rattle.rules.specs.Sizes.{groups_most}
use Rattle.rules.specs.Tree.{Repeat, Tree, repeated}
use Rattle.rules.specs.Grammar.{Token, single, repeats, opens, closes, parts, ends, no_count, no_class, no_escape, stray, Stands, atom, pieces, branch, pattern, Spells, alone, group as in_group, once, with_sign, first_piece, next_piece, empty_branch, some_branch, first_branch, next_branch, Legal}
use Rattle.rules.specs.Turned.{Reach, start, past_single, past_repeat, past_open, past_close, past_bar, Fault, two, two_brace, three, four, five, six, seven, eight, nine}
use Rattle.rules.specs.Reader.{token, Reading, got, bad, Branch, empty, after, full, Group, group, add, so_far, ended, tree_of, more, move_open, move_close, move_end, move, go_on, run, read}
use Rattle.rules.proofs.TokensRead.{token-stands, Shorter, stands-shorter}
use Rattle.rules.proofs.ScanOnce.{before, before_more, Answers, answers-once, legal-answers, fault-answers}

-- ---- what the scan holds is spelled

-- the branch B was read from s to u, with d groups open
data BranchRead (d : ℕ) (s : List ℕ) : Branch → List ℕ → Type 0 where
  fresh : BranchRead d s empty s
  first : {u : List ℕ} {X : Tree} → Spells atom d s X u → BranchRead d s (after none X) u
  next : {v u : List ℕ} {R X : Tree} → Spells pieces d s R v → Spells atom d v X u → BranchRead d s (after (some R) X) u
  signed : {u : List ℕ} {R : Tree} → Spells pieces d s R u → BranchRead d s (full R) u

-- the group G was read from s to u, with d groups open
data GroupRead (d : ℕ) (s : List ℕ) : Group → List ℕ → Type 0 where
  first_of : {u : List ℕ} {B : Branch} → BranchRead d s B u → GroupRead d s (group none B) u
  next_of : {v w u : List ℕ} {A : Tree} {B : Branch} → Spells pattern d s A v → Stands v (parts w) → BranchRead d w B u → GroupRead d s (group (some A) B) u

-- the groups K around were read, and the innermost group begins at s
data Around (p : List ℕ) : List Group → List ℕ → Type 0 where
  bottom : Around p [] p
  push : {G : Group} {K : List Group} {r t s : List ℕ} → Around p K r → GroupRead (length K) r G t → Stands t (opens s) → length K < groups_most → Around p (G ∷ K) s

module _ {d : ℕ} where
  branch-more : {s u v : List ℕ} {X : Tree} {B : Branch} → BranchRead d s B u → Spells atom d u X v → BranchRead d s (after (so_far B) X) v
  branch-more fresh x = first x
  branch-more (first y) x = next (first_piece (once y)) x
  branch-more (next r y) x = next (next_piece r (once y)) x
  branch-more (signed r) x = next r x

  group-more : {s u v : List ℕ} {X : Tree} {G : Group} → GroupRead d s G u → Spells atom d u X v → GroupRead d s (more G X) v
  group-more (first_of b) x = first_of (branch-more b x)
  group-more (next_of a t b) x = next_of a t (branch-more b x)

  branch-repeat : {s u v : List ℕ} {X : Tree} {R : Option Tree} {k : Repeat} → BranchRead d s (after R X) u → Stands u (repeats k v) → BranchRead d s (full (add R (repeated k X))) v
  branch-repeat (first x) t = signed (first_piece (with_sign x t))
  branch-repeat (next r x) t = signed (next_piece r (with_sign x t))

  group-repeat : {s u v : List ℕ} {X : Tree} {A R : Option Tree} {k : Repeat}
      → GroupRead d s (group A (after R X)) u → Stands u (repeats k v) → GroupRead d s (group A (full (add R (repeated k X)))) v
  group-repeat (first_of b) t = first_of (branch-repeat b t)
  group-repeat (next_of a q b) t = next_of a q (branch-repeat b t)

  branch-ended : {s u : List ℕ} {B : Branch} → BranchRead d s B u → Spells branch d s (ended B) u
  branch-ended fresh = empty_branch
  branch-ended (first x) = some_branch (first_piece (once x))
  branch-ended (next r x) = some_branch (next_piece r (once x))
  branch-ended (signed r) = some_branch r

  group-tree : {s u : List ℕ} {G : Group} → GroupRead d s G u → Spells pattern d s (tree_of G) u
  group-tree (first_of b) = first_branch (branch-ended b)
  group-tree (next_of a t b) = next_branch a t (branch-ended b)

-- ---- each move keeps it so, or gives the right answer

-- the scan of p is at s, in the group G with the groups K around
record At (p s : List ℕ) (G : Group) (K : List Group) : Type 0 where
  began : List ℕ
  around : Around p K began
  inside : GroupRead (length K) began G s
  reach : Reach p s (before G) (length K)

abbrev Right : List ℕ → Reading → Type 0
Right p (got X) = Legal p X
Right p (bad n s) = Fault p n s

-- what comes after a move comes out right
abbrev Onward : List ℕ → ℕ → (List ℕ → Group → List Group → Reading) → Type 0
Onward p f k = (u : List ℕ) (H : Group) (L : List Group) → At p u H L → length u < f → Right p (k u H L)

around-deep : {p s : List ℕ} {K : List Group} → Around p K s → length K ≤ groups_most
around-deep bottom = omega arith
around-deep (push q g t d) = d

whole : {p r : List ℕ} {X : Tree} → Around p [] r → Spells pattern 0 r X [] → Legal p X
whole bottom h = record { spells = h }

module _ {p s : List ℕ} {f : ℕ} (k : List ℕ → Group → List Group → Reading) (onward : Onward p f k) (le : length s ≤ f) where
  -- on in the same group
  further : {u : List ℕ} {G H : Group} {K : List Group} (x : At p s G K)
      → GroupRead (length K) x.began H u → Reach p u (before H) (length K) → length u < length s → Right p (k u H K)
  further x g r l = onward _ _ _ (record { began = x.began; around = x.around; inside = g; reach = r }) (omega arith)

  on-repeat : {j : Repeat} {u : List ℕ} (G : Group) (K : List Group) → At p s G K → Stands s (repeats j u) → length u < length s → Right p (go_on (move (repeats j u) s G K) k)
  on-repeat (group A empty) K x t l = two x.reach tt t
  on-repeat (group A (after R X)) K x t l = further x (group-repeat x.inside t) (past_repeat x.reach t) l
  on-repeat (group A (full R)) K x t l = two x.reach tt t

  on-brace : (G : Group) (K : List Group) → At p s G K → Stands s no_count → Right p (go_on (move no_count s G K) k)
  on-brace (group A empty) K x t = two_brace x.reach tt t
  on-brace (group A (after R X)) K x t = three x.reach t
  on-brace (group A (full R)) K x t = two_brace x.reach tt t

  on-open : {u : List ℕ} (G : Group) (K : List Group) (b : Bool)
      → ltb (length K) groups_most ≡ b → At p s G K → Stands s (opens u) → length u < length s → Right p (go_on (move_open b s u G K) k)
  on-open G K true e x t l =
      let d = ltb-true _ _ e in
      onward _ _ _ (record { began = _; around = push x.around x.inside t d; inside = first_of fresh; reach = past_open x.reach t d }) (omega arith)
  on-open G K false e x t l = let q : length K ≡ groups_most = omega (arith, ltb-false (length K) groups_most e, around-deep x.around) in nine (rw q at x.reach) t

  close-group : {r u : List ℕ} {G H : Group} {K : List Group}
      → Around p (H ∷ K) r → GroupRead (suc (length K)) r G s → Reach p s (before G) (suc (length K)) → Stands s (closes u) → length u < length s → Right p (k u (more H (tree_of G)) K)
  close-group {G = G} {H = H} (push q h o d) g e t l =
      onward _ _ _ (record { began = _; around = q; inside = group-more h (in_group o d (group-tree g) t); reach = rw (before_more H (tree_of G)) (past_close e t) }) (omega arith)

  on-close : {u : List ℕ} (G : Group) (K : List Group) → At p s G K → Stands s (closes u) → length u < length s → Right p (go_on (move_close s u G K) k)
  on-close G [] x t l = seven x.reach t
  on-close G (H ∷ K) x t l = close-group x.around x.inside x.reach t l

  on-end : (G : Group) (K : List Group) → At p s G K → Stands s ends → s ≡ [] → Right p (go_on (move_end s G K) k)
  on-end G [] x t e = whole x.around (rw e at (group-tree x.inside))
  on-end G (H ∷ K) x t e = eight x.reach t

  on-token : (t : Token) (G : Group) (K : List Group) → Stands s t → Shorter t s → At p s G K → Right p (go_on (move t s G K) k)
  on-token (single X u) G K t l x = further x (group-more x.inside (alone t)) (rw (before_more G X) (past_single x.reach t)) l
  on-token (repeats j u) G K t l x = on-repeat G K x t l
  on-token (opens u) G K t l x = on-open G K (ltb (length K) groups_most) refl x t l
  on-token (closes u) G K t l x = on-close G K x t l
  on-token (parts u) G K t l x = further x (next_of (group-tree x.inside) t fresh) (past_bar x.reach t) l
  on-token ends G K t l x = on-end G K x t l
  on-token no_count G K t l x = on-brace G K x t
  on-token no_class G K t l x = four x.reach t
  on-token no_escape G K t l x = five x.reach t
  on-token stray G K t l x = six x.reach t

run-right : (p : List ℕ) (f : ℕ) (s : List ℕ) (G : Group) (K : List Group) → At p s G K → length s < f → Right p (run f s G K)
unfolding run
run-right p zero s G K x l = absurd (omega arith)
run-right p (suc f) s G K x l = let t = token-stands s in on-token {f = f} (run f) (run-right p f) (omega arith) (token s) G K t (stands-shorter t) x

read_right : (p : List ℕ) → Right p (read p)
unfolding read
read_right p = run-right p (suc (length p)) p (group none empty) [] (record { began = p; around = bottom; inside = first_of fresh; reach = start }) (omega arith)

-- ---- the reader answers what the rules say

answers : {p : List ℕ} (a : Reading) → Right p a → Answers p a
answers (got X) h = legal-answers h
answers (bad n s) h = fault-answers h

module _ (p : List ℕ) where
  answers-read : {a : Reading} → Answers p a → read p ≡ a
  answers-read h = answers-once (answers (read p) (read_right p)) h

  pub read-got : (X : Tree) → (read p ≡ got X) ↔ Legal p X
  read-got X = (λ e. rw e at (read_right p), λ h. answers-read (legal-answers h))

  pub read-bad : (n : ℕ) (s : List ℕ) → (read p ≡ bad n s) ↔ Fault p n s
  read-bad n s = (λ e. rw e at (read_right p), λ h. answers-read (fault-answers h))
