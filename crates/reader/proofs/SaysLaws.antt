-- One law for each way through the readers of the cycle.
use mathlib.Core.Path.{◌≡◌, refl, ap, ◌∙◌}
use mathlib.Core.Logic.{◌⊎◌, inl, inr}
use mathlib.Core.Bool.{true, false}
use mathlib.Core.List.{List, [], ◌∷◌}
use Prim.Native.Nat.{ℕ, ◌+◌, ◌≤◌, ◌<◌}
use native.Mathlib.Numerals.{add-one}
use native.Mathlib.Omega.{arith}
use lib.ListN.{length, drop, length-drop}
use Rattle.rules.specs.Sizes.{groups_most}
use Rattle.rules.specs.Tree.{Repeat, Tree, nothing, in_row, either, repeated}
use Rattle.rules.specs.Grammar.{Token, single, repeats, opens, closes, parts, ends, no_count, no_class, no_escape, stray, Stands, a_close, Part, Spells, alone, group, once, with_sign, first_piece, next_piece, empty_branch, some_branch, first_branch, next_branch, Legal}
use Rattle.rules.specs.Turned.{Before, no_atom, an_atom, a_repeat, NotAtom, Reach, start, past_single, past_repeat, past_open, past_close, past_bar, Fault, two, two_brace, three, four, five, six, seven, eight, nine, Turned}
use Rattle.rules.specs.Reader.{token}
use Rattle.rules.proofs.TokensRead.{stands-iff, stands-shorter}
use Rattle.reader.specs.Says.{Answer, tree, refused, atom, piece, branch, pattern, pieces, branches, stops, is_repeat, Closes, in_group, at_end, Past, Ready, RowRead, Right, Says}
use Rattle.signs.proofs.Places.{here}
use Rattle.reader.proofs.TokenLaws.{token_end}

standing : (s : List ℕ) {t : Token} → token s ≡ t → Stands s t
standing s {t} e = (stands-iff s t).1 e

-- ---- where a spelling leads

abbrev Leads : List ℕ → Part → ℕ → List ℕ → Type 0
Leads p Part.atom d u = Reach p u an_atom d
Leads p Part.piece d u = (b : Before) × Reach p u b d
Leads p Part.pieces d u = (b : Before) × Reach p u b d
Leads p Part.branch d u = (b : Before) × Reach p u b d
Leads p Part.pattern d u = (b : Before) × Reach p u b d

leads : {p s u : List ℕ} {P : Part} {d : ℕ} {X : Tree} {b : Before} → Spells P d s X u → Reach p s b d → Leads p P d u
leads (alone t) r = past_single r t
leads (group t h x q) r = past_close (leads x (past_open r t h)).1 q
leads (once x) r = (an_atom, leads x r)
leads (with_sign x t) r = (a_repeat, past_repeat (leads x r) t)
leads (first_piece x) r = leads x r
leads (next_piece x y) r = leads y (leads x r).1
leads {b = b} empty_branch r = (b, r)
leads (some_branch x) r = leads x r
leads (first_branch x) r = leads x r
leads (next_branch x t y) r = leads y (past_bar (leads x r).1 t)

-- ---- faults at a place

turned : {p : List ℕ} {n i : ℕ} → i ≤ length p → Fault p n (drop i p) → Turned p n i
turned {p} {n} {i} h f = record { left = drop i p; fault = f; place = simp length-drop (omega arith) }

signed : {p s : List ℕ} {d : ℕ} {b : Before} → Reach p s b d → NotAtom b → (t : Token) → token s ≡ t → is_repeat t ≡ true → Fault p 2 s
signed {s = s} r h (repeats k u) e q = two r h (standing s e)
signed {s = s} r h no_count e q = two_brace r h (standing s e)
signed r h _ e q = cc

signed-ready : {p s : List ℕ} {d : ℕ} {b : Before} → Reach p s b d → NotAtom b ⊎ (is_repeat (token s) ≡ false) → is_repeat (token s) ≡ true → Fault p 2 s
signed-ready {s = s} r (inl h) q = signed r h (token s) refl q
signed-ready r (inr h) q = cc

past_of : {p : List ℕ} {i d : ℕ} → Ready p i d → Past p i d
past_of r = record { before = r.before; reach = r.reach }

widen : (p : List ℕ) (A B : Tree → ℕ → Type 0) (r : Answer) → Right p A r → ((X : Tree) (j : ℕ) → A X j → B X j) → Right p B r
widen p A B (tree X j) h g = g X j h
widen p A B (refused n j) h g = h

-- a `)` is one byte
closes-left : {c : ℕ} {s u : List ℕ} → Stands (c ∷ s) (closes u) → u ≡ s
closes-left (a_close e) = refl

-- the pattern in a group ends at its `)`, where the end is not reached
closing-byte : (p : List ℕ) (j d : ℕ) → Closes p j d → j < length p → token (drop j p) ≡ closes (drop (j + 1) p)
closing-byte p j d (in_group {u} t h) l = t ∙ ap closes (closes-left (rw (here p j l) at (standing (drop j p) t)))
closing-byte p j d (at_end t) l = absurd (let e = ap length (stands-shorter (standing (drop j p) t)) in omega (arith, length-drop j p))

module _ {p : List ℕ} {i d : ℕ} where
  -- ---- an atom

  pub atom-single : {X : Tree} {j : ℕ} → (stops (token (drop i p)) ≡ false → token (drop i p) ≡ single X (drop j p)) → Says atom p i d (tree X j)
  atom-single t = record { by = λ l r n. alone (standing _ (t n)) }

  pub atom-repeat : is_repeat (token (drop i p)) ≡ true → i ≤ length p → Says atom p i d (refused 2 i)
  atom-repeat q h = record { by = λ l r n. turned h (signed-ready r.reach r.fits q) }

  pub atom-class : token (drop i p) ≡ no_class → i ≤ length p → Says atom p i d (refused 4 i)
  atom-class t h = record { by = λ l r n. turned h (four r.reach (standing _ t)) }

  pub atom-escape : token (drop i p) ≡ no_escape → i ≤ length p → Says atom p i d (refused 5 i)
  atom-escape t h = record { by = λ l r n. turned h (five r.reach (standing _ t)) }

  pub atom-stray : token (drop i p) ≡ stray → i ≤ length p → Says atom p i d (refused 6 i)
  atom-stray t h = record { by = λ l r n. turned h (six r.reach (standing _ t)) }

  pub atom-deep : {u : List ℕ} → token (drop i p) ≡ opens u → groups_most ≤ d → i ≤ length p → Says atom p i d (refused 9 i)
  atom-deep t h g = record { by = λ l r n. let q : d ≡ groups_most = omega arith in turned g (nine (rw q at r.reach) (standing _ t)) }

  -- a group whose pattern begins at j
  module _ {j : ℕ} (t : token (drop i p) ≡ opens (drop j p)) (h : d < groups_most) where
    opened : Ready p i d → Ready p j (d + 1)
    opened r = rw (add-one d) (record { before = no_atom; reach = past_open r.reach (standing _ t) h; fits = inl tt })

    pub group-refused : {n k : ℕ} → Says pattern p j (d + 1) (refused n k) → Says atom p i d (refused n k)
    group-refused x = record { by = λ l r n. x.by (omega arith) (opened r) }

    pub group-unclosed : {X : Tree} {k : ℕ} → Says pattern p j (d + 1) (tree X k) → length p ≤ k → k ≤ length p → Says atom p i d (refused 8 k)
    group-unclosed {k = k} x e g = record {
      by = λ l r n.
          let y = x.by (omega arith) (opened r) in
          turned g (eight (rw (add-one d) at y.past.reach) (standing _ (token_end p k e)));
    }

    pub group-closed : {X : Tree} {k : ℕ} → Says pattern p j (d + 1) (tree X k) → k < length p → Says atom p i d (tree X (k + 1))
    group-closed {k = k} x e = record {
      by = λ l r n.
          let y = x.by (omega arith) (opened r) in
          group (standing _ t) h (rw (add-one d) at y.spells) (standing _ (closing-byte p k (d + 1) y.closing e));
    }

  -- ---- a piece

  pub piece-once : {X : Tree} {j : ℕ} → Says atom p i d (tree X j) → is_repeat (token (drop j p)) ≡ false → Says piece p i d (tree X j)
  piece-once x h = record {
    by = λ l r n. let y = x.by l r n in
        record { spells = once y; ready = record { before = an_atom; reach = leads y r.reach; fits = inr h } };
  }

  pub piece-signed : {X : Tree} {j k : ℕ} {f : Repeat} → Says atom p i d (tree X j) → token (drop j p) ≡ repeats f (drop k p) → Says piece p i d (tree (repeated f X) k)
  piece-signed x t = record {
    by = λ l r n. let y = x.by l r n in
        record { spells = with_sign y (standing _ t); ready = record { before = a_repeat; reach = past_repeat (leads y r.reach) (standing _ t); fits = inl tt } };
  }

  pub piece-brace : {X : Tree} {j : ℕ} → Says atom p i d (tree X j) → token (drop j p) ≡ no_count → j ≤ length p → Says piece p i d (refused 3 j)
  piece-brace x t h = record { by = λ l r n. turned h (three (leads (x.by l r n) r.reach) (standing _ t)) }

  -- ---- a branch

  pub branch-empty : stops (token (drop i p)) ≡ true → Says branch p i d (tree nothing i)
  branch-empty e = record { by = λ l r. record { spells = empty_branch; past = past_of r; stop = e } }

  pub branch-on : {X : Tree} {j : ℕ} {r : Answer} → stops (token (drop i p)) ≡ false → Says piece p i d (tree X j) → Says (pieces X) p j d r → Says branch p i d r
  branch-on {r = r} e h k = record {
    by = λ l q. let x = h.by l q e in
        widen p (RowRead Part.pieces p d i) (RowRead Part.branch p d i) r (k.by l i (first_piece x.spells) x.ready) (λ X j y. record { spells = some_branch y.spells; past = y.past; stop = y.stop });
  }

  pub pieces-stop : {X : Tree} → stops (token (drop i p)) ≡ true → Says (pieces X) p i d (tree X i)
  pieces-stop e = record { by = λ l k x q. record { spells = x; past = past_of q; stop = e } }

  pub pieces-refused : {X : Tree} {n k : ℕ} → stops (token (drop i p)) ≡ false → Says piece p i d (refused n k) → Says (pieces X) p i d (refused n k)
  pieces-refused e h = record { by = λ l k x q. h.by l q e }

  pub pieces-on : {X Y : Tree} {j : ℕ} {r : Answer} → stops (token (drop i p)) ≡ false → Says piece p i d (tree Y j) → Says (pieces (in_row X Y)) p j d r → Says (pieces X) p i d r
  pieces-on e h k = record { by = λ l m x q. let y = h.by l q e in k.by l m (next_piece x y.spells) y.ready }

  -- ---- a pattern

  pub pattern-on : {X : Tree} {j : ℕ} {r : Answer} → Says branch p i d (tree X j) → Says (branches X) p j d r → Says pattern p i d r
  pattern-on h k = record { by = λ l q. let x = h.by l q in k.by l i (first_branch x.spells) x.past x.stop }

  pub branches-end : {X : Tree} → token (drop i p) ≡ ends → Says (branches X) p i d (tree X i)
  branches-end t = record { by = λ l k x q n. record { spells = x; past = q; closing = at_end t } }

  pub branches-out : {X : Tree} {u : List ℕ} → (stops (token (drop i p)) ≡ true → token (drop i p) ≡ closes u) → 0 < d → Says (branches X) p i d (tree X i)
  branches-out t h = record { by = λ l k x q n. record { spells = x; past = q; closing = in_group (t n) h } }

  pub branches-stray : {X : Tree} {u : List ℕ} → (stops (token (drop i p)) ≡ true → token (drop i p) ≡ closes u) → d ≡ 0 → i ≤ length p → Says (branches X) p i d (refused 7 i)
  branches-stray t h g = record { by = λ l k x q n. turned g (seven (rw h at q.reach) (standing _ (t n))) }

  module _ {j : ℕ} (t : token (drop i p) ≡ parts (drop j p)) where
    next-branch : Past p i d → Ready p j d
    next-branch q = record { before = no_atom; reach = past_bar q.reach (standing _ t); fits = inl tt }

    pub branches-refused : {X : Tree} {n k : ℕ} → Says branch p j d (refused n k) → Says (branches X) p i d (refused n k)
    branches-refused h = record { by = λ l k x q n. h.by l (next-branch q) }

    pub branches-on : {X Y : Tree} {k : ℕ} {r : Answer} → Says branch p j d (tree Y k) → Says (branches (either X Y)) p k d r → Says (branches X) p i d r
    branches-on h k = record { by = λ l m x q n. let y = h.by l (next-branch q) in k.by l m (next_branch x (standing _ t) y.spells) y.past y.stop }

-- ---- the whole

whole : {p : List ℕ} {j : ℕ} → Closes p j 0 → drop j p ≡ []
whole (in_group t h) = absurd (omega arith)
whole {p} {j} (at_end t) = stands-shorter (standing (drop j p) t)

begun : (p : List ℕ) → Ready p 0 0
begun p = record { before = no_atom; reach = start; fits = inl tt }

pub says-legal : (p : List ℕ) {X : Tree} {j : ℕ} → Says pattern p 0 0 (tree X j) → Legal p X
says-legal p h = let x = h.by (omega arith) (begun p) in record { spells = rw (whole x.closing) at x.spells }

pub says-turned : (p : List ℕ) {n i : ℕ} → Says pattern p 0 0 (refused n i) → Turned p n i
says-turned p h = h.by (omega arith) (begun p)
