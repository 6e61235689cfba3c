-- The nodes in the lists close as those of the tree do: a row's nodes, and its mark.
use mathlib.Core.Path.{◌≡◌, refl, sym, ap, ap₂, ◌∙◌}
use mathlib.Core.Bool.{Bool, true, false}
use mathlib.Core.List.Memᴰ.{head as first}
use mathlib.Core.List.Memᴰ.{tail as later}
use mathlib.Core.List.{List}
use Prim.Native.Nat.{ℕ, zero, suc, ◌-◌, ◌<◌, ◌^◌}
use native.Mathlib.Omega.{arith}
use borrow.Author.Tests.{ne_eqb}
use lib.Dec.{T, eqb}
use lib.ListN.{length, get_or}
use Rattle.rules.specs.Tools.{has}
use Rattle.rules.specs.Tree.{Tree}
use Rattle.rules.specs.Nodes.{Edge}
use Rattle.rules.specs.SetRows.{crosses, on_empty, SetRow, Machine, machine, closure, inside, head_row, mark_of, row_at, set_rows}
use Rattle.rules.proofs.Edges.{◌∈◌}
use Rattle.rules.proofs.Closing.{Below, closed-only}
use Rattle.rules.proofs.RowsRight.{nodes-below}
use Rattle.rules.proofs.SetRowsAll.{first_rows}
use Rattle.rules.proofs.TidyNodes.{neat}
use Rattle.cells.proofs.Taken.{next-taken}
use Rattle.entries.specs.Nodes.{node_edges, list_edges, HoldNodes}
use Rattle.closing.specs.Closing.{ways, Nodes, closing, mark_by}
use Rattle.cells.specs.Cells.{Reached, Going, seeds_of, nodes_of}
use Rattle.closing.proofs.Ways.{flat_in, flat-of, node-all}
use Rattle.closing.proofs.Sweeps.{closing-keeps, closing-ind, closing-full, closing-lt}
use Rattle.cells.proofs.RowLaws.{seeds-later}

-- ---- edges

-- what is crossed of a node's edges does not depend on the bytes of its byte edge, and nor does where they lead
module _ (a b B C u : ℕ) where
  edge-crossed : (h t : Bool) (k : ℕ) (x : Edge) → x ∈ node_edges k a b B u → T (crosses h t x.on) → x ∈ node_edges k a b C u
  edge-crossed h t = node-all a b B u (λ k x. T (crosses h t x.on) → x ∈ node_edges k a b C u) (λ g. first refl) (λ g. later (first refl)) (λ g. first refl) (λ g. first refl)
      (λ g. absurd g)

  edge_to : (k : ℕ) (x : Edge) → x ∈ node_edges k a b B u → (y : Edge) × (y ∈ node_edges k a b C u) × (y.to ≡ x.to)
  edge_to = node-all a b B u (λ k x. (y : Edge) × (y ∈ node_edges k a b C u) × (y.to ≡ x.to)) (_, first refl, refl) (_, later (first refl), refl) (_, first refl, refl) (_, first refl, refl)
      (_, first refl, refl)

abbrev at-node : List ℕ → List ℕ → List ℕ → (ℕ → ℕ) → ℕ → List Edge
at-node kind to1 to2 f u = node_edges (get_or kind u 0) (get_or to1 u 0) (get_or to2 u 0) (f u) u

module _ (kind to1 to2 : List ℕ) (f g : ℕ → ℕ) (n : ℕ) where
  list-crossed : (h t : Bool) (x : Edge) → T (crosses h t x.on) → x ∈ list_edges kind to1 to2 f n → x ∈ list_edges kind to1 to2 g n
  unfolding list_edges
  list-crossed h t x c m = let (u, l, e) = flat-of (at-node kind to1 to2 f) 0 n m in
      flat_in (at-node kind to1 to2 g) 0 n u (omega arith) l (edge-crossed (get_or to1 u 0) (get_or to2 u 0) (f u) (g u) u h t (get_or kind u 0) x e c)

  list-to : (x : Edge) → x ∈ list_edges kind to1 to2 f n → (y : Edge) × (y ∈ list_edges kind to1 to2 g n) × (y.to ≡ x.to)
  unfolding list_edges
  list-to x m = let (u, l, e) = flat-of (at-node kind to1 to2 f) 0 n m in
      let (y, i, q) = edge_to (get_or to1 u 0) (get_or to2 u 0) (f u) (g u) u (get_or kind u 0) x e in (y, flat_in (at-node kind to1 to2 g) 0 n u (omega arith) l i, q)

-- ---- closing

module _ {w : Machine} {kind to1 to2 : List ℕ} {bytes : ℕ → ℕ} (below : Below w) (H : HoldNodes w kind to1 to2 bytes (length kind)) where
  pub nodes-held : length to1 ≡ length kind → length to2 ≡ length kind → Nodes kind to1 to2
  unfolding ways
  nodes-held e f = record {
    few = H.few;
    firsts = e;
    seconds = f;
    below = λ x m. let (y, i, q) = list-to kind to1 to2 (λ u. 0) bytes (length kind) x m in omega (arith, q, below y ((H.edges y).1 i), H.count);
  }

  pub closing_same : Nodes kind to1 to2 → (h t : Bool) (m : ℕ) → m < 2 ^ length kind → closing h t kind to1 to2 m ≡ closure w (crosses h t) m
  unfolding ways
  closing_same N h t m small = closed-only w below (crosses h t) m (rw H.count small) (closing h t kind to1 to2 m) (rw H.count (closing-lt h t kind to1 to2 N m small))
      (closing-keeps h t kind to1 to2 N m small)
      (λ x i c f. closing-full h t kind to1 to2 N m small x (list-crossed kind to1 to2 bytes (λ u. 0) (length kind) h t x c ((H.edges x).0 i)) c f)
      (λ C carries. closing-ind h t kind to1 to2 N m small C (λ x i c. carries x ((H.edges x).1 (list-crossed kind to1 to2 (λ u. 0) bytes (length kind) h t x c i)) c))

-- ---- rows of a tree

module _ (X : Tree) {kind to1 to2 : List ℕ} {bytes : ℕ → ℕ} (N : Nodes kind to1 to2) (H : HoldNodes (machine X) kind to1 to2 bytes (length kind)) where
  -- the last node is the final one
  last-node : length kind - 1 ≡ (machine X).final
  unfolding machine
  last-node = omega (arith, H.count)

  same : (h t : Bool) (m : ℕ) → m < 2 ^ length kind → closing h t kind to1 to2 m ≡ closure (machine X) (crosses h t) m
  same = closing_same (nodes-below X) H N

  pub mark-same : (h : Bool) (m : ℕ) → m < 2 ^ length kind → mark_by h kind to1 to2 m (length kind - 1) ≡ mark_of (machine X) (record { is_head = h; nodes = m })
  unfolding mark_by mark_of
  mark-same h m small = ap₂ (λ (f e : ℕ). elim (has m f) [ true ↦ 3 | false ↦ elim (has e f) [ true ↦ 2 | false ↦ 0 ] ]) last-node (same h true m small)

  pub row_same : {taken : ℕ → ℕ} {c b : ℕ} (q : ℕ) → Going (machine X) taken c q b → q < c → seeds_of taken q < 2 ^ length kind
      → row_at (set_rows (machine X)) q ≡ record { is_head = eqb q 1; nodes = nodes_of kind to1 to2 taken q }
  unfolding nodes_of inside head_row
  row_same zero G l small = (first_rows X).1 0 (omega arith) ∙ ap {B = SetRow} (λ (m : ℕ). record { is_head = false; nodes = m }) (sym (same false false 1 small))
  row_same (suc zero) G l small = (first_rows X).1 1 (omega arith) ∙ ap {B = SetRow} (λ (m : ℕ). record { is_head = true; nodes = m }) (sym (same true false 1 small))
  row_same {taken} (suc (suc q)) G l small = let r : Reached (machine X) (suc (suc q)) (taken (suc (suc q))) = G.reached (suc (suc q)) (omega arith) l in
      r.is ∙ next-taken (neat X) r.taken ∙ ap {B = SetRow} (λ (m : ℕ). record { is_head = false; nodes = m })
      (ap (closure (machine X) on_empty) (seeds-later taken (suc (suc q)) (omega arith)) ∙ sym (same false false (seeds_of taken (suc (suc q))) small))
      ∙ ap {B = SetRow} (λ (h : Bool). record { is_head = h; nodes = closing h false kind to1 to2 (seeds_of taken (suc (suc q))) }) (sym (ne_eqb (suc (suc q)) 1 (λ e. omega arith)))
