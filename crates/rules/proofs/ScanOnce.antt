-- What is spelled, reached or at fault is scanned so. The scan has one answer, so a pattern has at most one.
use mathlib.Core.Path.{◌≡◌, refl, sym, ap, ◌∙◌, subst}
use mathlib.Core.List.{List, [], ◌∷◌}
use mathlib.Core.Option.{Option, none, some}
use Prim.Native.Nat.{ℕ, suc, ◌+◌}
use native.Mathlib.Omega.{arith}
use lib.ListN.{length}
use borrow.Author.Tests.{lt-ltb, le-ltb}
use Rattle.rules.specs.Sizes.{groups_most}
use Rattle.rules.specs.Tree.{Repeat, Tree, repeated}
use Rattle.rules.specs.Grammar.{repeats, no_count, the_end, Part, atom, piece, pieces, branch, pattern, Spells, alone, group as in_group, once, with_sign, first_piece, next_piece, empty_branch, some_branch, first_branch, next_branch, Legal}
use Rattle.rules.specs.Turned.{Before, no_atom, an_atom, a_repeat, NotAtom, Reach, start, past_single, past_repeat, past_open, past_close, past_bar, Fault, two, two_brace, three, four, five, six, seven, eight, nine}
use Rattle.rules.specs.Reader.{token, Reading, got, bad, Branch, empty, after, full, Group, group, add, so_far, ended, tree_of, more, on, stop, move_close, move_end, move, run}
use Rattle.rules.proofs.TokensRead.{token-is}

-- ---- the scan, from place to place

-- it comes from one place to another
record Leads (s : List ℕ) (G : Group) (K : List Group) (u : List ℕ) (H : Group) (L : List Group) : Type 0 where
  tokens : ℕ
  by : (f : ℕ) → run (tokens + f) s G K ≡ run f u H L

stay : {s : List ℕ} {G : Group} {K : List Group} → Leads s G K s G K
stay = record { tokens = 0; by = λ f. let e : 0 + f ≡ f = omega arith in rw e refl }

step : {s u : List ℕ} {G H : Group} {K L : List Group} → move (token s) s G K ≡ on u H L → Leads s G K u H L
unfolding run
step e = record { tokens = 1; by = λ f. let q : 1 + f ≡ suc f = omega arith in rw q (simp e) }

infixr 20 ◌then◌
◌then◌ : {s u v : List ℕ} {G H I : Group} {K L M : List Group} → Leads s G K u H L → Leads u H L v I M → Leads s G K v I M
◌then◌ a b = record { tokens = a.tokens + b.tokens; by = λ f. let q : a.tokens + b.tokens + f ≡ a.tokens + (b.tokens + f) = omega arith in rw q (a.by _ ∙ b.by f) }

-- it answers
pub record Answers (p : List ℕ) (a : Reading) : Type 0 where
  tokens : ℕ
  by : (f : ℕ) → run (tokens + suc f) p (group none empty) [] ≡ a

pub answers-once : {p : List ℕ} {a b : Reading} → Answers p a → Answers p b → a ≡ b
answers-once x y = let q : x.tokens + suc y.tokens ≡ y.tokens + suc x.tokens = omega arith in sym (x.by y.tokens) ∙ rw q (y.by x.tokens)

answer : {p s : List ℕ} {G : Group} {K : List Group} {a : Reading} → Leads p (group none empty) [] s G K → move (token s) s G K ≡ stop a → Answers p a
unfolding run
answer l e = record { tokens = l.tokens; by = λ f. l.by (suc f) ∙ simp e }

-- ---- what is spelled is scanned

-- the scan fills the branch B of a group, to one that is P
record Fills (A : Option Tree) (B : Branch) (K : List Group) (s u : List ℕ) (P : Branch → Type 0) : Type 0 where
  now : Branch
  leads : Leads s (group A B) K u (group A now) K
  is : P now

-- the scan fills a new group, to one that spells X
record Spelled (K : List Group) (s u : List ℕ) (X : Tree) : Type 0 where
  now : Group
  leads : Leads s (group none empty) K u now K
  is : tree_of now ≡ X

abbrev Scanned : Part → ℕ → List ℕ → Tree → List ℕ → Type 0
Scanned atom d s X u = (G : Group) (K : List Group) → length K ≡ d → Leads s G K u (more G X) K
Scanned piece d s X u = (A : Option Tree) (B : Branch) (K : List Group) → length K ≡ d → Fills A B K s u (λ N. so_far N ≡ some (add (so_far B) X))
Scanned pieces d s X u = (A : Option Tree) (K : List Group) → length K ≡ d → Fills A empty K s u (λ N. so_far N ≡ some X)
Scanned branch d s X u = (A : Option Tree) (K : List Group) → length K ≡ d → Fills A empty K s u (λ N. ended N ≡ X)
Scanned pattern d s X u = (K : List Group) → length K ≡ d → Spelled K s u X

ended_is : (B : Branch) {X : Tree} → so_far B ≡ some X → ended B ≡ X
ended_is B e = rw e refl

scanned : {P : Part} {d : ℕ} {s u : List ℕ} {X : Tree} → Spells P d s X u → Scanned P d s X u
scanned (alone t) = λ G K l. step (simp (token-is t))
scanned (in_group {X = X} t h x t') = λ G K l.
    let w : Spelled (G ∷ K) _ _ X = scanned x (G ∷ K) (ap suc l) in
    step (simp (token-is t, lt-ltb (length K) groups_most (omega arith))) then w.leads then step (simp (token-is t', w.is))
scanned (once x) = λ A B K l. record { now = _; leads = scanned x (group A B) K l; is = refl }
scanned (with_sign {X = X} {k = k} x t) = λ A B K l. record { now = full (add (so_far B) (repeated k X)); leads = scanned x (group A B) K l then step (simp (token-is t)); is = refl }
scanned (first_piece x) = λ A K l. scanned x A empty K l
scanned (next_piece {X = X} {Y = Y} x y) = λ A K l.
    let a : Fills A empty K _ _ (λ N. so_far N ≡ some X) = scanned x A K l in
    let b : Fills A a.now K _ _ (λ N. so_far N ≡ some (add (so_far a.now) Y)) = scanned y A a.now K l in
    record { now = b.now; leads = a.leads then b.leads; is = b.is ∙ simp a.is }
scanned empty_branch = λ A K l. record { now = empty; leads = stay; is = refl }
scanned (some_branch {X = X} x) = λ A K l.
    let a : Fills A empty K _ _ (λ N. so_far N ≡ some X) = scanned x A K l in
    record { now = a.now; leads = a.leads; is = ended_is a.now a.is }
scanned (first_branch {X = X} x) = λ K l.
    let a : Fills none empty K _ _ (λ N. ended N ≡ X) = scanned x none K l in
    record { now = group none a.now; leads = a.leads; is = a.is }
scanned (next_branch {X = X} {Y = Y} x t y) = λ K l.
    let a : Spelled K _ _ X = scanned x K l in
    let b : Fills (some (tree_of a.now)) empty K _ _ (λ N. ended N ≡ Y) = scanned y (some (tree_of a.now)) K l in
    record { now = group (some (tree_of a.now)) b.now; leads = a.leads then step (simp (token-is t)) then b.leads; is = cc }

pub legal-answers : {p : List ℕ} {X : Tree} → Legal p X → Answers p (got X)
legal-answers {p} {X} h =
    let w : Spelled [] p [] X = scanned h.spells [] refl in
    answer w.leads (simp (token-is the_end, w.is))

-- ---- what is reached is scanned

abbrev pub before : Group → Before
before (group A empty) = no_atom
before (group A (after R X)) = an_atom
before (group A (full R)) = a_repeat

pub before_more : (G : Group) (X : Tree) → before (more G X) ≡ an_atom
before_more (group A B) X = refl

-- a repeat sign after an atom
record AfterAtom (G : Group) : Type 0 where
  next : Repeat → Group
  last : (k : Repeat) → before (next k) ≡ a_repeat
  sign : (k : Repeat) (s u : List ℕ) (K : List Group) → move (repeats k u) s G K ≡ on u (next k) K
  brace : (s : List ℕ) (K : List Group) → move no_count s G K ≡ stop (bad 3 s)

after-atom : (G : Group) → before G ≡ an_atom → AfterAtom G
after-atom (group A empty) e = absurd (subst NotAtom e tt)
after-atom (group A (after R X)) e = record { next = λ k. group A (full (add R (repeated k X))); last = λ k. refl; sign = λ k s u K. refl; brace = λ s K. refl }
after-atom (group A (full R)) e = absurd (subst NotAtom e tt)

-- a repeat sign where no atom stands before it
record AfterNone (G : Group) : Type 0 where
  sign : (k : Repeat) (s u : List ℕ) (K : List Group) → move (repeats k u) s G K ≡ stop (bad 2 s)
  brace : (s : List ℕ) (K : List Group) → move no_count s G K ≡ stop (bad 2 s)

after_none : {b : Before} (G : Group) → before G ≡ b → NotAtom b → AfterNone G
after_none (group A empty) e h = record { sign = λ k s u K. refl; brace = λ s K. refl }
after_none (group A (after R X)) e h = absurd (subst NotAtom (sym e) h)
after_none (group A (full R)) e h = record { sign = λ k s u K. refl; brace = λ s K. refl }

-- the groups around: there is one, or there is none
record Enclosed (K : List Group) (d : ℕ) : Type 0 where
  outer : Group
  rest : List Group
  is : K ≡ outer ∷ rest
  deep : length rest ≡ d

enclosed : {d : ℕ} (K : List Group) → length K ≡ suc d → Enclosed K d
enclosed [] e = absurd (omega arith)
enclosed (H ∷ K) e = record { outer = H; rest = K; is = refl; deep = omega arith }

outermost : (K : List Group) → length K ≡ 0 → K ≡ []
outermost [] e = refl
outermost (H ∷ K) e = absurd (omega arith)

-- the scan comes to a place of which Reach tells the same
record At (p s : List ℕ) (b : Before) (d : ℕ) : Type 0 where
  now : Group
  around : List Group
  leads : Leads p (group none empty) [] s now around
  last : before now ≡ b
  deep : length around ≡ d

-- one move on from there
arrive : {p s u : List ℕ} {b c : Before} {d e : ℕ} (x : At p s b d) (H : Group) (L : List Group)
    → move (token s) s x.now x.around ≡ on u H L → before H ≡ c → length L ≡ e → At p u c e
arrive x H L m q l = record { now = H; around = L; leads = x.leads then step m; last = q; deep = l }

reached : {p s : List ℕ} {b : Before} {d : ℕ} → Reach p s b d → At p s b d
reached start = record { now = group none empty; around = []; leads = stay; last = refl; deep = refl }
reached (past_single {X = X} r t) = let x = reached r in arrive x (more x.now X) x.around (simp (token-is t)) (before_more x.now X) x.deep
reached (past_repeat {s = s} {u = u} {k = k} r t) =
    let x = reached r in
    let a = after-atom x.now x.last in
    arrive x (a.next k) x.around (simp (token-is t) (a.sign k s u x.around)) (a.last k) x.deep
reached (past_open r t h) =
    let x = reached r in
    arrive x (group none empty) (x.now ∷ x.around) (simp (token-is t, lt-ltb (length x.around) groups_most (omega (arith, x.deep)))) refl (ap suc x.deep)
reached (past_close {s = s} {u = u} r t) =
    let x = reached r in
    let o = enclosed x.around x.deep in
    arrive x (more o.outer (tree_of x.now)) o.rest (simp (token-is t) (ap (move_close s u x.now) o.is)) (before_more o.outer (tree_of x.now)) o.deep
reached (past_bar r t) = let x = reached r in arrive x (group (some (tree_of x.now)) empty) x.around (simp (token-is t)) refl x.deep

-- ---- a fault ends the scan

pub fault-answers : {p s : List ℕ} {n : ℕ} → Fault p n s → Answers p (bad n s)
fault-answers (two {s = s} {u = u} {k = k} r h t) = let x = reached r in answer x.leads (simp (token-is t) ((after_none x.now x.last h).sign k s u x.around))
fault-answers (two_brace {s = s} r h t) = let x = reached r in answer x.leads (simp (token-is t) ((after_none x.now x.last h).brace s x.around))
fault-answers (three {s = s} r t) = let x = reached r in answer x.leads (simp (token-is t) ((after-atom x.now x.last).brace s x.around))
fault-answers (four r t) = let x = reached r in answer x.leads (simp (token-is t))
fault-answers (five r t) = let x = reached r in answer x.leads (simp (token-is t))
fault-answers (six r t) = let x = reached r in answer x.leads (simp (token-is t))
fault-answers (seven {s = s} {u = u} r t) = let x = reached r in answer x.leads (simp (token-is t) (ap (move_close s u x.now) (outermost x.around x.deep)))
fault-answers (eight {s = s} r t) = let x = reached r in answer x.leads (simp (token-is t) (ap (move_end s x.now) (enclosed x.around x.deep).is))
fault-answers (nine r t) = let x = reached r in answer x.leads (simp (token-is t, le-ltb (length x.around) groups_most (omega (arith, x.deep))))

-- ---- so there is at most one answer

module _ {p : List ℕ} where
  pub one-tree : {X Y : Tree} → Legal p X → Legal p Y → X ≡ Y
  one-tree a b = let e = answers-once (legal-answers a) (legal-answers b) in cc

  pub one-fault : {s u : List ℕ} {n m : ℕ} → Fault p n s → Fault p m u → (n ≡ m) × (s ≡ u)
  one-fault a b = let e = answers-once (fault-answers a) (fault-answers b) in (cc, cc)

  pub not-both : {s : List ℕ} {n : ℕ} {X : Tree} → Legal p X → Fault p n s → ⊥
  not-both a b = let e = answers-once (legal-answers a) (fault-answers b) in let z : ◌≡◌ {A = ℕ} 0 1 = cc in omega arith
