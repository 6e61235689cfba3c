-- The masks of the runs have the nodes that an edge on the bytes of the run leaves.
use mathlib.Core.Path.{◌≡◌, refl, ◌∙◌, sym, subst}
use mathlib.Core.Logic.Iff
use mathlib.Core.List.Memᴰ.{head as first}
use mathlib.Core.List.{List}
use Prim.Native.Nat.{ℕ, suc, ◌+◌, ◌*◌, ◌-◌, ◌≤◌, ◌<◌}
use native.Mathlib.Omega.{arith}
use lib.Dec.{T}
use lib.ListN.{length, get_or}
use Rattle.rules.specs.Tools.{has}
use Rattle.rules.specs.Sizes.{words_a_row}
use Rattle.rules.specs.Tree.{Tree}
use Rattle.rules.specs.Nodes.{on_bytes, Edge, edge}
use Rattle.rules.specs.SetRows.{on_byte, machine}
use Rattle.rules.proofs.Edges.{◌∈◌}
use Rattle.rules.proofs.TidyNodes.{neat}
use Rattle.cells.specs.Taken.{Leaves}
use Rattle.program.specs.Program.{atom_bytes}
use Rattle.entries.specs.Nodes.{node_edges, list_edges}
use Rattle.runs.specs.Runs.{Crosses, Runs}
use Rattle.rows.specs.Rows.{NodesOf}
use Rattle.cells.specs.Cells.{Masked, MasksUnder}
use Rattle.closing.proofs.Ways.{flat_in, flat-of, node-all, node-from}

module _ {program : List ℕ} {X : Tree} {kind to1 to2 atom : List ℕ} (N : NodesOf program X kind to1 to2 atom) where
  -- the bytes and the edges of node u
  abbrev bytes_at : ℕ → ℕ
  bytes_at u = atom_bytes program (get_or atom u 0)

  abbrev edges_at : ℕ → List Edge
  edges_at u = node_edges (get_or kind u 0) (get_or to1 u 0) (get_or to2 u 0) (bytes_at u) u

  edge_of : (b u : ℕ) → Crosses program kind atom b u → edge u (on_bytes (bytes_at u)) (suc u) ∈ (machine X).links
  unfolding list_edges
  edge_of b u c = (N.hold.edges (edge u (on_bytes (bytes_at u)) (suc u))).1 (flat_in edges_at 0 (length kind) u (omega arith) (omega (arith, c.0)) (rw c.1 (first refl)))

  leaves-crosses : (b u : ℕ) → Leaves (machine X) b u → Crosses program kind atom b u
  unfolding list_edges
  leaves-crosses b u (x, i, t, e) = subst (Crosses program kind atom b) (sym (node-from (get_or to1 v 0) (get_or to2 v 0) (bytes_at v) v (get_or kind v 0) x r.2) ∙ e) (omega (arith, r.1), on.0, on.1)
    where
      r : (v : ℕ) × (v < 0 + length kind) × (x ∈ edges_at v)
      r = flat-of edges_at 0 (length kind) ((N.hold.edges x).0 i)

      v : ℕ
      v = r.0

      on : (get_or kind v 0 ≡ 4) × T (has (bytes_at v) b)
      on = node-all (get_or to1 v 0) (get_or to2 v 0) (bytes_at v) v (λ k y. T (on_byte b y.on) → (k ≡ 4) × T (has (bytes_at v) b))
          (λ n. absurd n) (λ n. absurd n) (λ n. absurd n) (λ n. absurd n) (λ h. (refl, h)) (get_or kind v 0) x r.2 t

module _ {program : List ℕ} {X : Tree} {kind to1 to2 atom starts masks : List ℕ} {runs : ℕ} (words : ℕ) (N : NodesOf program X kind to1 to2 atom)
    (R : Runs program kind atom starts masks runs) (wide : length kind ≤ 64 * words) (short : words ≤ words_a_row) where
  pub leaving : Masked (machine X) words starts masks runs
  leaving k b l i = record { just = λ u. Iff.trans (R.masked words k b u wide short l i) ((λ c. (edge u (on_bytes (bytes_at N u)) (suc u), edge_of N b u c, c.2, refl)), leaves-crosses N b u) }

  -- an edge on bytes goes to the next node, so none leaves the last
  pub masks-under : MasksUnder (length kind - 1) words masks runs
  masks-under k v l h = omega (arith, N.hold.count, (neat X).below (edge v (on_bytes (bytes_at N v)) (suc v)) (edge_of N (get_or starts k 0) v crosses))
    where
      crosses : Crosses program kind atom (get_or starts k 0) v
      crosses = (R.masked words k (get_or starts k 0) v wide short l (omega arith, (R.are.rises k l).0)).0 h
