-- Compiling: what is computed fits what is asked, no second outcome does, and what is drawn is right, smallest and the only one.
use mathlib.Core.Path.{◌≡◌, refl, sym, ap, subst, ◌∙◌}
use mathlib.Core.Logic.{◌⊎◌, inl, inr, ◌↔◌}
use mathlib.Core.Bool.{true, false}
use mathlib.Core.List.{List, [], ◌∷◌}
use Prim.Native.Nat.{ℕ, ◌-◌, ◌≤◌, ◌<◌}
use native.Mathlib.Omega.{arith}
use native.Mathlib.Decide.{dec_lt}
use lib.Dec.{T, ltb}
use lib.ListN.{length}
use Rattle.rules.specs.Sizes.{pattern_most, nodes_most}
use Rattle.rules.specs.Tree.{Tree}
use Rattle.rules.specs.Grammar.{Legal}
use Rattle.rules.specs.Meaning.{Match}
use Rattle.rules.specs.Nodes.{node_count}
use Rattle.rules.specs.SetRows.{row_count}
use Rattle.rules.specs.Table.{Table, takes, WellFormed}
use Rattle.rules.specs.Drawing.{OnStretches, SameMatches, Exact}
use Rattle.rules.specs.Turned.{Turned}
use Rattle.rules.specs.Answers.{Refusal, refusal, Answer, refused, given, Due}
use Rattle.rules.specs.Compile.{Room, rows_for, Outcome, leaves, TooLong, TurnedAway, ManyNodes, ManyRows, CompileRefusals, DrawingOf, Draws, Compiles, limited, drawn, compile}
use Rattle.rules.specs.Compiled.{compiled}
use Rattle.rules.specs.Reader.{Reading, got, bad, read}
use Rattle.rules.specs.Demands.{PatternMatch, Refuses, Demand3, SamePatterns}
use Rattle.rules.proofs.Tests.{lt_test}
use Rattle.rules.proofs.Refusals.{Decided, AllDecided, below-decided, due-once, due-exactly, tested}
use Rattle.rules.proofs.ScanSound.{read-got}
use Rattle.rules.proofs.ReadOnce.{tree-or-refusal, read-turned}
use Rattle.rules.proofs.CompiledTable.{rows_few}
use Rattle.rules.proofs.Drawings.{table-right, formed, drawing, drawing-once, table-only, one_table}

module _ (p : List ℕ) where
  one-tree : (X Y : Tree) → Legal p X → Legal p Y → X ≡ Y
  one-tree = (tree-or-refusal p).one-tree

  -- ---- each condition is decided

  turned-decided : Decided (TurnedAway p)
  turned-decided = pick (tree-or-refusal p).answer
    where
      pick : ((X : Tree) × Legal p X) ⊎ ((n : ℕ) × (i : ℕ) × Turned p n i) → Decided (TurnedAway p)
      pick (inl x) = inr (λ r c. (tree-or-refusal p).not-both x.0 c.0 c.1 x.1 c.2)
      pick (inr x) = inl (refusal x.0 x.1, (x.0, x.1, x.2, refl))

  -- one that asks whether a count of the tree is over k
  tree-decided : (count : Tree → ℕ) (k : ℕ) (r : Refusal) → Decided (λ q. (X : Tree) × Legal p X × (k < count X) × (q ≡ r))
  tree-decided count k r = pick (tree-or-refusal p).answer
    where
      over : (X : Tree) → Legal p X → Dec (k < count X) → Decided (λ q. (X : Tree) × Legal p X × (k < count X) × (q ≡ r))
      over X h (yes l) = inl (r, (X, h, l, refl))
      over X h (no l) = inr (λ q c. l (subst (λ (Y : Tree). k < count Y) (one-tree c.0 X c.1 h) c.2))

      pick : ((X : Tree) × Legal p X) ⊎ ((n : ℕ) × (i : ℕ) × Turned p n i) → Decided (λ q. (X : Tree) × Legal p X × (k < count X) × (q ≡ r))
      pick (inl x) = over x.0 x.1 (dec_lt k (count x.0))
      pick (inr x) = inr (λ q c. (tree-or-refusal p).not-both c.0 x.0 x.1 c.1 x.2)

  all-decided : (l : Room) → AllDecided (CompileRefusals p l)
  all-decided l = (
    below-decided pattern_most (length p) (refusal 1 pattern_most),
    (turned-decided, (tree-decided node_count nodes_most (refusal 10 0), (tree-decided row_count (rows_for l) (refusal 11 0), tt))),
  )

  -- ---- what is computed fits

  -- the test of a count, for the tree that p spells
  counted : (count : Tree → ℕ) (k : ℕ) (r : Refusal) (Cs : List (Refusal → Type 0)) (X : Tree) → Legal p X → (x : Answer Table) → Due Cs (DrawingOf p) x
      → Due ((λ q. (X : Tree) × Legal p X × (k < count X) × (q ≡ r)) ∷ Cs) (DrawingOf p) (elim (ltb k (count X)) [ true ↦ refused r | false ↦ x ])
  counted count k r Cs X h x due = tested (DrawingOf p) _ Cs r (ltb k (count X))
      (λ q c. ((lt_test k (count X)).1 (subst (λ (Y : Tree). k < count Y) (one-tree c.0 X c.1 h) c.2), c.3))
      (λ t. (X, h, (lt_test k (count X)).0 t, refl)) x (λ n. due)

  limits : (l : Room) (X : Tree) → Legal p X → Due (ManyNodes p ∷ ManyRows p l ∷ []) (DrawingOf p) (limited l X)
  unfolding limited
  limits l X h = counted node_count nodes_most (refusal 10 0) (ManyRows p l ∷ []) X h _ (counted row_count (rows_for l) (refusal 11 0) [] X h (given (compiled X)) (X, h, drawing X))

  readings : (l : Room) (a : Reading) → read p ≡ a
      → Due (TurnedAway p ∷ ManyNodes p ∷ ManyRows p l ∷ []) (DrawingOf p) (elim a [ bad n s ↦ refused (refusal n (length p - length s)) | got X ↦ limited l X ])
  readings l (got X) e = (λ r c. absurd ((tree-or-refusal p).not-both X c.0 c.1 ((read-got p X).0 e) c.2), λ n. limits l X ((read-got p X).0 e))
  readings l (bad n s) e = (only, λ none. absurd (none (refusal n (length p - length s)) (n, length p - length s, is_turned, refl)))
    where
      is_turned : Turned p n (length p - length s)
      is_turned = (read-turned p n (length p - length s)).0 (s, e, refl)

      only : (r : Refusal) → TurnedAway p r → ◌≡◌ {A = Answer Table} (refused (refusal n (length p - length s))) (refused r)
      only r c = let q : (n ≡ c.0) × (length p - length s ≡ c.1) = (tree-or-refusal p).one-refusal n (length p - length s) c.0 c.1 is_turned c.2 in
          rw (q.0, q.1) (ap {B = Answer Table} refused (sym c.3))

  draws : (l : Room) → Draws p l (drawn p l)
  unfolding drawn
  draws l = tested (DrawingOf p) (TooLong p) (TurnedAway p ∷ ManyNodes p ∷ ManyRows p l ∷ []) (refusal 1 pattern_most) (ltb pattern_most (length p))
      (λ q c. ((lt_test pattern_most (length p)).1 c.0, c.1)) (λ t. ((lt_test pattern_most (length p)).0 t, refl)) _ (λ n. readings l (read p) refl)

  pub compile-fits : (l : Room) → Compiles p l (compile p l)
  unfolding compile
  compile-fits l = record { table = drawn p l; draws = draws l; result = refl }

  -- ---- no second outcome fits

  one-drawing : (w v : Table) → DrawingOf p w → DrawingOf p v → w ≡ v
  one-drawing w v x y = drawing-once x.0 w x.2 ∙ ap compiled (one-tree x.0 y.0 x.1 y.1) ∙ sym (drawing-once y.0 v y.2)

  pub compile-once : (l : Room) (x y : Outcome) → Compiles p l x → Compiles p l y → x ≡ y
  compile-once l x y a b =
      a.result ∙ ap (leaves l) (due-once (DrawingOf p) (CompileRefusals p l) (all-decided l) one-drawing a.table b.table a.draws b.draws) ∙ sym b.result

-- ---- what is drawn

pub drawn-refuses : (p : List ℕ) (l : Room) → Refuses (CompileRefusals p l) (drawn p l)
drawn-refuses p l = due-exactly (DrawingOf p) (CompileRefusals p l) (all-decided p l) (drawn p l) (draws p l)

-- a table is given only where no refusal is due: then it is the compiled table of the tree, with S at most K
pub record Compiled (p : List ℕ) (l : Room) (w : Table) : Type 0 where
  pub tree : Tree
  pub legal : Legal p tree
  pub few : row_count tree ≤ rows_for l
  pub is : w ≡ compiled tree

pub when-given : (p : List ℕ) (l : Room) (w : Table) → drawn p l ≡ given w → Compiled p l w
when-given p l w e = go (rw e at (draws p l))
  where
    apart : {r : Refusal} → ◌≡◌ {A = Answer Table} (given w) (refused r) → ⊥
    apart q = absurd (let z : ◌≡◌ {A = ℕ} 0 1 = cc in omega arith)

    not-over : (k n : ℕ) → (k < n → ⊥) → n ≤ k
    not-over k n h = omega arith

    go : Draws p l (given w) → Compiled p l w
    go d =
        let x = d.1 (λ r c. apart (d.0 r c)) in
        let y = x.1 (λ r c. apart (x.0 r c)) in
        let z = y.1 (λ r c. apart (y.0 r c)) in
        let t : DrawingOf p w = z.1 (λ r c. apart (z.0 r c)) in
        record {
          tree = t.0;
          legal = t.1;
          few = not-over (rows_for l) (row_count t.0) (λ over. apart (z.0 (refusal 11 0) (t.0, t.1, over, refl)));
          is = drawing-once t.0 w t.2;
        }

-- for the tree that p spells, the pattern matches what the tree does
tree-match : (p : List ℕ) (X : Tree) → Legal p X → (t : List ℕ) (s e : ℕ) → Match t X s e ↔ PatternMatch p t s e
tree-match p X h t s e = (λ m. (X, h, m), λ x. subst (λ (Y : Tree). Match t Y s e) (one-tree p x.0 X x.1 h) x.2)

module _ (p : List ℕ) (l : Room) (w : Table) (e : drawn p l ≡ given w) where
  c : Compiled p l w
  c = when-given p l w e

  pub drawn-exact : Exact w
  drawn-exact = subst Exact (sym c.is) (drawing c.tree).exact

  pub drawn-formed : WellFormed w
  unfolding rows_for
  drawn-formed = subst WellFormed (sym c.is) (record { formed = formed c.tree; few-rows = omega (arith, rows_few c.tree, c.few) })

  pub drawn-right : OnStretches (λ t s e. T (takes w t s e) ↔ PatternMatch p t s e)
  drawn-right = subst (λ (v : Table). OnStretches (λ t s e. T (takes v t s e) ↔ PatternMatch p t s e)) (sym c.is) (λ t h s e se le.
      let r : T (takes (compiled c.tree) t s e) ↔ Match t c.tree s e = table-right c.tree t h s e se le in
      let m : Match t c.tree s e ↔ PatternMatch p t s e = tree-match p c.tree c.legal t s e in
      (λ x. m.0 (r.0 x), λ x. r.1 (m.1 x)))

  pub drawn-only : Demand3 w
  drawn-only = subst Demand3 (sym c.is) (record {
    smallest = (drawing c.tree).smallest;
    numbered = (drawing c.tree).numbered;
    only = table-only c.tree;
  })

pub drawn-same : (p q : List ℕ) (l m : Room) (w v : Table) → drawn p l ≡ given w → drawn q m ≡ given v → (w ≡ v) ↔ SamePatterns p q
drawn-same p q l m w v e f = both (when-given p l w e) (when-given q m v f)
  where
    both : Compiled p l w → Compiled q m v → (w ≡ v) ↔ SamePatterns p q
    both c d = (
      λ e. let h : SameMatches c.tree d.tree = (one_table c.tree d.tree).0 (sym c.is ∙ e ∙ d.is) in
          λ t b s e se le. (λ x. (yours t s e).0 ((h t b s e se le).0 ((mine t s e).1 x)), λ x. (mine t s e).0 ((h t b s e se le).1 ((yours t s e).1 x))),
      λ h. c.is ∙ (one_table c.tree d.tree).1 (λ t b s e se le. (λ x. (yours t s e).1 ((h t b s e se le).0 ((mine t s e).0 x)), λ x. (mine t s e).1 ((h t b s e se le).1 ((yours t s e).0 x)))) ∙ sym d.is,
    )
      where
        mine : (t : List ℕ) (s e : ℕ) → Match t c.tree s e ↔ PatternMatch p t s e
        mine = tree-match p c.tree c.legal

        yours : (t : List ℕ) (s e : ℕ) → Match t d.tree s e ↔ PatternMatch q t s e
        yours = tree-match q d.tree d.legal
