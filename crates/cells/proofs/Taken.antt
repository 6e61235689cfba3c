-- Taken sets: a row that a byte reaches is fixed by the nodes whose edge was just taken, and fixes them.
use mathlib.Core.Path.{◌≡◌, refl, ◌∙◌, sym, ap, subst}
use mathlib.Core.Logic.{◌≢◌, ◌↔◌}
use mathlib.Core.Bool.{false}
use Prim.Native.Nat.{ℕ, zero, suc, ◌+◌, ◌-◌, ◌*◌, ◌/◌, ◌<◌, ◌≤◌, ◌^◌}
use native.Mathlib.Omega.{arith}
use lib.Dec.{T, eqb}
use lib.Pow.{pow_pos}
use Rattle.rules.specs.Tools.{has}
use Rattle.rules.specs.Nodes.{Kind, empty, on_head, on_tail, on_bytes, Edge}
use Rattle.rules.specs.SetRows.{on_empty, on_byte, across, closure, SetRow, Machine, inside, next}
use Rattle.rules.proofs.Sets.{bit, bit-zero, bit-suc, has-bit, same-members, zero_has}
use Rattle.rules.proofs.Edges.{◌∈◌}
use Rattle.rules.proofs.Closing.{across_lt, across-adds, across-ind, closed-keeps, closed-ind}
use Rattle.rules.proofs.TidyNodes.{is_bytes, Neat}
use Rattle.cells.specs.Taken.{Taken}

-- ---- sets

-- the nodes after those of a set
twice_has : (m k : ℕ) → has (m * 2) (suc k) ≡ has m k
twice_has m k = ap (λ (x : ℕ). eqb x 1) (bit-suc (m * 2) k ∙ ap (λ (x : ℕ). bit x k) half)
  where
    half : m * 2 / 2 ≡ m
    half = omega arith

twice-zero : (m : ℕ) → T (has (m * 2) 0) → ⊥
twice-zero m h = omega (arith, bit-zero (m * 2), has-bit (m * 2) 0 h)

-- sets with the same members are one
same_set : (m q : ℕ) → ((k : ℕ) → T (has m k) ↔ T (has q k)) → m ≡ q
same_set m q h = same-members (m + q) m q (small (m + q) m (omega arith)) (small (m + q) q (omega arith)) (λ k. (h k).0) (λ k. (h k).1)
  where
    small : (n x : ℕ) → x ≤ n → x < 2 ^ n
    small zero x l = omega arith
    small (suc n) x l = omega (arith, small n (x - 1) (omega arith))

-- ---- the row of a taken set

-- the row closed from the nodes after those of A
abbrev pub row_of : Machine → ℕ → SetRow
row_of w A = record { is_head = false; nodes = closure w on_empty (A * 2) }

-- an edge on bytes leaves each node of A
pub record Takable (w : Machine) (A : ℕ) : Type 0 where
  pub small : A * 2 < 2 ^ w.count
  pub bytes : (u : ℕ) → T (has A u) → (x : Edge) × (x ∈ w.links) × T (is_bytes x.on) × (x.from ≡ u)

byte-kind : (b : ℕ) (k : Kind) → T (on_byte b k) → T (is_bytes k)
byte-kind b empty t = absurd t
byte-kind b on_head t = absurd t
byte-kind b on_tail t = absurd t
byte-kind b (on_bytes B) t = tt

not-empty : (k : Kind) → T (is_bytes k) → T (on_empty k) → ⊥
not-empty empty s t = s
not-empty on_head s t = s
not-empty on_tail s t = s
not-empty (on_bytes B) s t = t

module _ {w : Machine} (ok : Neat w) where
  next-node : (A : ℕ) {u : ℕ} (x : Edge) → x ∈ w.links → T (is_bytes x.on) → x.from ≡ u → has (A * 2) x.to ≡ has A u
  next-node A {u} x i s e = ap (has (A * 2)) (ok.up x i s ∙ ap suc e) ∙ twice_has A u

  module _ {r : SetRow} {b A : ℕ} (a : Taken w r b A) where
    pub across-taken : across (on_byte b) w.links r.nodes 0 ≡ A * 2
    across-taken = same_set (across (on_byte b) w.links r.nodes 0) (A * 2) (λ v. (into v, out v))
      where
        into : (v : ℕ) → T (has (across (on_byte b) w.links r.nodes 0) v) → T (has (A * 2) v)
        into = across-ind (on_byte b) r.nodes (λ v. T (has (A * 2) v)) w.links 0
            (λ x i t h. rw (next-node A x i (byte-kind b x.on t) refl) ((a.just x.from).1 (h, (x, i, t, refl)))) (λ v h. absurd (zero_has v h))

        out : (v : ℕ) → T (has (A * 2) v) → T (has (across (on_byte b) w.links r.nodes 0) v)
        out zero h = absurd (twice-zero A h)
        out (suc u) h = let (k, (x, i, t, e)) = (a.just u).0 (rw (twice_has A u) at h) in
            subst (λ (v : ℕ). T (has (across (on_byte b) w.links r.nodes 0) v)) (ok.up x i (byte-kind b x.on t) ∙ ap suc e)
            (across-adds (on_byte b) r.nodes x w.links 0 i t (subst (λ (u : ℕ). T (has r.nodes u)) (sym e) k))

    pub next-taken : next w r b ≡ row_of w A
    unfolding next
    next-taken = ap (λ (m : ℕ). record { is_head = false; nodes = closure w on_empty m }) across-taken

    pub takable : Takable w A
    takable = record {
      small = rw (← across-taken) (across_lt (on_byte b) r.nodes w.count w.links 0 ok.below (pow_pos w.count));
      bytes = λ u h. let (k, (x, i, t, e)) = (a.just u).0 h in (x, i, byte-kind b x.on t, e);
    }

  -- no empty edge enters a node after one of A, so closing adds no such node
  back : (A : ℕ) (x : Edge) → x ∈ w.links → T (is_bytes x.on) → T (has (row_of w A).nodes x.to) → T (has A x.from)
  back A x i s h = closed-ind w on_empty (A * 2) (λ v. x.to ≡ v → T (has A x.from))
      (λ y j t c e. absurd (not-empty y.on (ok.alone x i s y j (sym e)).0 t)) (λ v g e. rw (← (next-node A x i s refl), e) g) x.to h refl

  pub row_told : {A C : ℕ} → Takable w A → Takable w C → row_of w A ≡ row_of w C → A ≡ C
  row_told {A} {C} a c e = same_set A C (λ u. (over a C e u, over c A (sym e) u))
    where
      over : {A : ℕ} → Takable w A → (C : ℕ) → row_of w A ≡ row_of w C → (u : ℕ) → T (has A u) → T (has C u)
      over {A} a C e u h = let (x, i, s, f) = a.bytes u h in
          subst (λ (v : ℕ). T (has C v)) f (back C x i s (subst (λ (r : SetRow). T (has r.nodes x.to)) e (closed-keeps w on_empty (A * 2) x.to (rw (next-node A x i s f) h))))

  pub next-told : {r q : SetRow} {b c A C : ℕ} → Taken w r b A → Taken w q c C → (next w r b ≡ next w q c) ↔ (A ≡ C)
  next-told a c = (
    (λ e. row_told (takable a) (takable c) (sym (next-taken a) ∙ e ∙ next-taken c)),
    λ e. next-taken a ∙ ap (row_of w) e ∙ sym (next-taken c),
  )

  -- nothing enters the start
  pub not-inside : (A : ℕ) → row_of w A ≢ inside w
  unfolding inside
  not-inside A e = closed-ind w on_empty (A * 2) (λ v. v ≢ 0) (λ x i t h. ok.free x i) (λ v h z. twice-zero A (rw z at h))
      0 (subst (λ (r : SetRow). T (has r.nodes 0)) (sym e) (closed-keeps w on_empty 1 0 tt)) refl
