-- A fragment drawn from node 0 on, with an end node without edges, is a tree's machine.
use mathlib.Core.Path.{◌≡◌, refl, sym, ap, ◌∙◌, subst⁻¹}
use mathlib.Core.Logic.{⊎_elim}
use mathlib.Core.List.Memᴰ
use mathlib.Core.List.Memᴰ.{append_left as on-left}
use mathlib.Core.List.Memᴰ.{append_right as on-right}
use mathlib.Core.List.{List, map}
use Prim.Native.Nat.{ℕ, zero, suc, ◌+◌, ◌≤◌, ◌<◌}
use native.Mathlib.Omega.{arith}
use native.Mathlib.Nat.{eq-or-lt_of_le}
use Rattle.rules.specs.Tools.{up_from, flat}
use Rattle.rules.specs.Tree.{Tree}
use Rattle.rules.specs.Nodes.{Edge, frag, node_count}
use Rattle.rules.specs.SetRows.{machine}
use Rattle.rules.proofs.Edges.{◌∈◌}
use lib.ListN.{get_or}
use Rattle.program.specs.Program.{atom_bytes}
use Rattle.entries.specs.Nodes.{node_edges, list_edges}
use Rattle.entries.proofs.EntryLaws.{get-kind, get-first, get-second, get-atom}
use Rattle.entries.specs.Entries.{kinds_of, firsts_of, seconds_of, atoms_of, entry, entry_at, edges_of, Sound, Puts}
use Rattle.entries.specs.declared.Entry.{Entry}
use Rattle.entries.specs.declared.Kind.TheVariants.{Last}
use Rattle.std.specs.Prelude.{Option, Some, None}
use Rattle.nodes.specs.Fragments.{Fits}
use Rattle.nodes.specs.Built.{HoldTree, BuiltOf}

-- the edges of each of the nodes n, n + 1, .., n + c - 1, in one list
module _ (f : ℕ → List Edge) {x : Edge} where
  in-flat : (n c u : ℕ) → n ≤ u → u < n + c → x ∈ f u → x ∈ flat (map f (up_from n c))
  in-flat n zero u i j m = absurd (omega arith)
  in-flat n (suc c) u i j m = ⊎_elim
      (λ e. on-left (flat (map f (up_from (suc n) c))) (subst⁻¹ (λ v. x ∈ f v) e m))
      (λ k. on-right (f n) (in-flat (suc n) c u k (omega arith) m))
      (eq-or-lt_of_le i)

  of-flat : (n c : ℕ) → x ∈ flat (map f (up_from n c)) → (u : ℕ) × (u < n + c) × (x ∈ f u)
  of-flat n zero m = absurd (Memᴰ.not-nil m)
  of-flat n (suc c) m = ⊎_elim (λ k. (n, omega arith, k)) (λ k. let h = of-flat (suc n) c k in (h.0, omega (arith, h.1), h.2)) (Memᴰ.append_cases (f n) m)

module _ (p : List ℕ) (X : Tree) (e : ℕ) (old l new : List Entry) (f : Fits p (frag X) 0 old l e) (h : Puts l new e (entry Last e e 0)) where
  abbrev edges_at : ℕ → List Edge
  edges_at u = edges_of p (entry_at new u) u

  abbrev numbered : ℕ → List Edge
  numbered u = node_edges (get_or (kinds_of new) u 0) (get_or (firsts_of new) u 0) (get_or (seconds_of new) u 0) (atom_bytes p (get_or (atoms_of new) u 0)) u

  in-numbers : (u : ℕ) → numbered u ≡ edges_at u
  in-numbers u = rw (get-kind new u, get-first new u, get-second new u, get-atom new u)

  -- what holds of each node before the end node, and of that one
  each : (C : ℕ → Entry → Type 0) → ((u : ℕ) → u < e → C u (entry_at l u)) → C e (entry Last e e 0) → (u : ℕ) → u < e + 1 → C u (entry_at new u)
  each C c d u i = ⊎_elim
      (λ k. subst⁻¹ (λ v. C v (entry_at new v)) k (subst⁻¹ (C e) h.here d))
      (λ k. subst⁻¹ (C u) (h.others u (λ q. omega arith)) (c u k))
      (eq-or-lt_of_le (let j : u ≤ e = omega arith in j))

  there : (x : Edge) → x ∈ (frag X).edges 0 → (x.from < e) × (x ∈ edges_at x.from)
  there x m = let k = f.drawn.edges x m in
      let i : x.from < e = omega (arith, k.1, f.ends) in
      (i, subst⁻¹ (λ n. x ∈ edges_of p n x.from) (h.others x.from (λ q. omega arith)) k.2)

  back : (x : Edge) (u : ℕ) → u < e + 1 → x ∈ edges_at u → x ∈ (frag X).edges 0
  back x = each (λ u n. x ∈ edges_of p n u → x ∈ (frag X).edges 0) (λ u i. (f.drawn.nodes u (omega arith) (omega (arith, f.ends))).edges x) (λ m. absurd (Memᴰ.not-nil m))

  sound : (u : ℕ) → u < e + 1 → Sound p (entry_at new u)
  sound = each (λ u n. Sound p n) (λ u i. (f.drawn.nodes u (omega arith) (omega (arith, f.ends))).sound) (λ q. absurd (omega arith))

  pub tree-built : HoldTree p X new (e + 1)
  unfolding machine list_edges
  tree-built = record {
    room = h.room;
    nodes = record {
      count = omega (arith, f.ends);
      few = omega (arith, f.low);
      edges = λ x. (
        λ m. in-flat numbered 0 (e + 1) x.from (omega arith) (omega (arith, (there x m).0)) (rw (in-numbers x.from) (there x m).1),
        λ m. let k = of-flat numbered 0 (e + 1) m in back x k.0 (omega (arith, k.1)) (rw (in-numbers k.0) at k.2),
      );
    };
    atoms = λ u i q. rw (get-atom new u) (sound u i (rw (get-kind new u) at q));
  }

-- what is answered for a tree is determined
pub one_answer : (p : List ℕ) (X : Tree) (l m : List Entry) (r q : Option ℕ) → BuiltOf p X l r → BuiltOf p X m q → r ≡ q
unfolding machine node_count
one_answer p X l m (Some n) (Some k) h g = ap Some (sym h.nodes.count ∙ g.nodes.count)
one_answer p X l m (Some n) None h g = absurd (omega (arith, h.nodes.count, h.nodes.few, g))
one_answer p X l m None (Some k) h g = absurd (omega (arith, g.nodes.count, g.nodes.few, h))
one_answer p X l m None None h g = refl
