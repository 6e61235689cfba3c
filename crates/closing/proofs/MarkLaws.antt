-- The mark of a row, from the words.
use mathlib.Core.Path.{◌≡◌, refl, sym, ap, ◌∙◌, subst}
use mathlib.Core.Logic.{◌⊎◌, inl, inr, ⊎_elim}
use mathlib.Core.Bool.{Bool, true, false}
use mathlib.Core.List.{List}
use Prim.Native.Nat.{ℕ, ◌+◌, ◌<◌}
use native.Mathlib.Decide.{ℕ_discrete}
use native.Mathlib.Omega.{arith}
use lib.Dec.{T}
use lib.ListN.{get_or}
use Rattle.rules.specs.Tools.{has}
use Rattle.rules.specs.Nodes.{Edge}
use Rattle.rules.proofs.Tests.{both, by-test}
use Rattle.rules.proofs.Edges.{◌∈◌}
use Rattle.entries.specs.Nodes.{node_edges}
use Rattle.nodesets.specs.NodeSets.{mask_of, meets}
use Rattle.rules.specs.SetRows.{crosses}
use Rattle.closing.specs.Closing.{ways, closing, Full, FullBut, mark_by, Tails}
use Rattle.nodesets.proofs.NodeSetLaws.{meets-has}
use Rattle.closing.proofs.Ways.{node-all, way_of, way-low}

module _ (head : Bool) (kind to1 to2 : List ℕ) (m last : ℕ) where
  abbrev later : Bool
  later = has (closing head true kind to1 to2 m) last

  pub mark-3 : T (has m last) → 3 ≡ mark_by head kind to1 to2 m last
  unfolding mark_by
  mark-3 h = by-test (has m last) (λ b. ◌≡◌ {A = ℕ} 3 (elim b [ true ↦ 3 | false ↦ elim later [ true ↦ 2 | false ↦ 0 ] ])) (λ g. refl) (λ n. absurd (n h))

  pub mark-2 : (T (has m last) → ⊥) → T later → 2 ≡ mark_by head kind to1 to2 m last
  unfolding mark_by
  mark-2 n h = by-test (has m last) (λ b. ◌≡◌ {A = ℕ} 2 (elim b [ true ↦ 3 | false ↦ elim later [ true ↦ 2 | false ↦ 0 ] ])) (λ g. absurd (n g))
      (λ g. by-test later (λ b. ◌≡◌ {A = ℕ} 2 (elim b [ true ↦ 2 | false ↦ 0 ])) (λ g. refl) (λ k. absurd (k h)))

  pub mark-0 : (T (has m last) → ⊥) → (T later → ⊥) → 0 ≡ mark_by head kind to1 to2 m last
  unfolding mark_by
  mark-0 n k = by-test (has m last) (λ b. ◌≡◌ {A = ℕ} 0 (elim b [ true ↦ 3 | false ↦ elim later [ true ↦ 2 | false ↦ 0 ] ])) (λ g. absurd (n g))
      (λ g. by-test later (λ b. ◌≡◌ {A = ℕ} 0 (elim b [ true ↦ 2 | false ↦ 0 ])) (λ h. absurd (k h)) (λ g. refl))

-- what is crossed at the text's end only: edges that leave a node of kind 3
tail-only : (h : Bool) (a b u k : ℕ) (x : Edge) → x ∈ node_edges k a b 0 u → T (crosses h true x.on) → T (crosses h false x.on) ⊎ (k ≡ 3)
tail-only h a b u = node-all a b 0 u (λ k x. T (crosses h true x.on) → T (crosses h false x.on) ⊎ (k ≡ 3)) (λ c. inl tt) (λ c. inl tt)
    (λ c. inl c) (λ c. inr refl) (λ c. absurd c)

-- a closed set, at the text's end: only nodes that a tail edge leaves lead on
pub full-but-tails : (h : Bool) (kind to1 to2 set tails : List ℕ) → Tails kind tails → Full (crosses h false) (ways kind to1 to2) (mask_of set)
    → FullBut (λ v. T (has (mask_of (meets set tails)) v)) (crosses h true) (ways kind to1 to2) (mask_of set)
full-but-tails h kind to1 to2 set tails T₃ F x m c f = ⊎_elim (λ g. inr (F x m g f))
    (λ k. inl (subst T (sym (meets-has set tails x.from)) (both (has (mask_of set) x.from) (has (mask_of tails) x.from) f (T₃ x.from (way-low kind to1 to2 x m) k))))
    (tail-only h (get_or to1 x.from 0) (get_or to2 x.from 0) x.from (get_or kind x.from 0) x (way_of kind to1 to2 x m) c)

-- the nodes below u are gone through
pub tails-more : (kind : List ℕ) (m m' u : ℕ) → ((v : ℕ) → v < u → get_or kind v 0 ≡ 3 → T (has m v)) → ((v : ℕ) → T (has m v) → T (has m' v)) → (get_or kind u 0 ≡ 3 → T (has m' u))
    → (v : ℕ) → v < u + 1 → get_or kind v 0 ≡ 3 → T (has m' v)
tails-more kind m m' u old kept last v l e = go (ℕ_discrete v u)
  where
    go : Dec (v ≡ u) → T (has m' v)
    go (yes q) = rw q (last (ap (λ (x : ℕ). get_or kind x 0) (sym q) ∙ e))
    go (no n) = kept v (old v (omega arith) e)
