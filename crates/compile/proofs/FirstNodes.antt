-- Lists that hold a tree's nodes hold them in as many entries as there are nodes.
use mathlib.Core.Path.{◌≡◌, refl, sym, ap, ap₂, subst, ◌∙◌}
use mathlib.Core.List.{List, ◌∷◌, map, Memᴰ}
use Prim.Native.Nat.{ℕ, zero, suc, ◌+◌, ◌≤◌, ◌<◌}
use native.Mathlib.Omega.{arith}
use lib.ListN.{length, get_or, take}
use lib.Seq.{length-take-le, get_or-take}
use Rattle.std.proofs.lemmas.List.{take-map}
use Rattle.rules.specs.Tools.{up_from, flat}
use Rattle.rules.specs.Sizes.{nodes_most}
use Rattle.rules.specs.Tree.{Tree}
use Rattle.rules.specs.Nodes.{node_count}
use Rattle.rules.specs.SetRows.{machine}
use Rattle.program.specs.Program.{atom_bytes, AtomAt}
use Rattle.entries.specs.Nodes.{list_edges, HoldNodes}
use Rattle.entries.specs.Entries.{kinds_of, firsts_of, seconds_of, atoms_of}
use Rattle.entries.specs.declared.Entry.{Entry}
use Rattle.entries.proofs.EntryLaws.{length-kinds, length-firsts, length-seconds, length-atoms}
use Rattle.nodes.specs.Built.{HoldTree}
use Rattle.rows.specs.Rows.{NodesOf}

-- there are not too many of them
pub few-nodes : {p kind to1 to2 atom : List ℕ} {X : Tree} → NodesOf p X kind to1 to2 atom → node_count X ≤ nodes_most
unfolding machine node_count
few-nodes N = omega (arith, N.hold.count, N.hold.few)

-- functions that agree below n + c agree on the numbers from n on
map-up_from : {A : Type 0} (f g : ℕ → A) (n c : ℕ) → ((u : ℕ) → u < n + c → f u ≡ g u) → map f (up_from n c) ≡ map g (up_from n c)
map-up_from f g n zero h = refl
map-up_from {A} f g n (suc c) h = ap₂ {C = List A} (λ (a : A) (l : List A). a ∷ l) (h n (omega arith)) (map-up_from f g (suc n) c (λ u l. h u (omega arith)))

-- the first entries' numbers are the first numbers
module _ (n : ℕ) (l : List Entry) where
  kinds-front : kinds_of (take n l) ≡ take n (kinds_of l)
  unfolding kinds_of
  kinds-front = sym (take-map _ n l)

  firsts-front : firsts_of (take n l) ≡ take n (firsts_of l)
  unfolding firsts_of
  firsts-front = sym (take-map _ n l)

  seconds-front : seconds_of (take n l) ≡ take n (seconds_of l)
  unfolding seconds_of
  seconds-front = sym (take-map _ n l)

  atoms-front : atoms_of (take n l) ≡ take n (atoms_of l)
  unfolding atoms_of
  atoms-front = sym (take-map _ n l)

module _ {p : List ℕ} {X : Tree} {l : List Entry} {n : ℕ} (h : HoldTree p X l n) where
  pub fits : n ≤ length l
  fits = omega (arith, h.nodes.few, h.room)

  front : (xs : List ℕ) → length xs ≡ length l → length (take n xs) ≡ n
  front xs e = length-take-le n xs (omega (arith, fits))

  same_edges : list_edges (take n (kinds_of l)) (take n (firsts_of l)) (take n (seconds_of l)) (λ u. atom_bytes p (get_or (take n (atoms_of l)) u 0)) n
      ≡ list_edges (kinds_of l) (firsts_of l) (seconds_of l) (λ u. atom_bytes p (get_or (atoms_of l) u 0)) n
  unfolding list_edges
  same_edges = ap flat (map-up_from _ _ 0 n (λ u i. let j : u < n = omega arith in
      rw (get_or-take n (kinds_of l) u 0 j, get_or-take n (firsts_of l) u 0 j, get_or-take n (seconds_of l) u 0 j, get_or-take n (atoms_of l) u 0 j)))

  first-lists : NodesOf p X (take n (kinds_of l)) (take n (firsts_of l)) (take n (seconds_of l)) (take n (atoms_of l))
  first-lists =
      let k : length (take n (kinds_of l)) ≡ n = front (kinds_of l) (length-kinds l) in
      record {
        firsts = front (firsts_of l) (length-firsts l) ∙ sym k;
        seconds = front (seconds_of l) (length-seconds l) ∙ sym k;
        atoms = record {
          few = omega (arith, k, h.nodes.few);
          long = front (atoms_of l) (length-atoms l) ∙ sym k;
          are = λ u i e. let j : u < n = omega (arith, k) in
              subst (AtomAt p) (sym (get_or-take n (atoms_of l) u 0 j)) (h.atoms u j (sym (get_or-take n (kinds_of l) u 0 j) ∙ e));
        };
        hold = subst (HoldNodes (machine X) (take n (kinds_of l)) (take n (firsts_of l)) (take n (seconds_of l)) (λ u. atom_bytes p (get_or (take n (atoms_of l)) u 0))) (sym k) (record {
          count = h.nodes.count;
          few = h.nodes.few;
          edges = λ x. (
            λ m. subst (Memᴰ x) (sym same_edges) ((h.nodes.edges x).0 m),
            λ m. (h.nodes.edges x).1 (subst (Memᴰ x) same_edges m),
          );
        });
      }

  pub first-nodes : NodesOf p X (kinds_of (take n l)) (firsts_of (take n l)) (seconds_of (take n l)) (atoms_of (take n l))
  first-nodes = rw (kinds-front n l, firsts-front n l, seconds-front n l, atoms-front n l) first-lists
