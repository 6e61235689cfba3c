-- Set rows are right: the row reached holds just the nodes that walks reach, so it is marked just where the tree matches.
use mathlib.Core.Path.{◌≡◌, refl, ◌∙◌, sym, ap, subst}
use mathlib.Core.Logic.Iff
use mathlib.Core.Logic.{◌⊎◌, inl, inr, ⊎_elim, ◌↔◌}
use mathlib.Core.Bool.{Bool, true, false}
use mathlib.Core.List.{List, [], ◌∷◌, ◌++◌}
use Prim.Native.Nat.{ℕ, zero, suc, ◌+◌, ◌-◌, ◌<◌, ◌≤◌, ◌^◌}
use native.Mathlib.Omega.{arith}
use native.Mathlib.Nat.{add-zero, add-suc}
use lib.Pow.{pow_pos}
use lib.Dec.{T, eqb, eqb→eq}
use lib.ListN.{length, get_or}
use lib.Seq.{slice, slice_empty}
use Rattle.rules.specs.Tools.{has}
use Rattle.rules.specs.Tree.{Tree}
use Rattle.rules.specs.Meaning.{Match}
use Rattle.rules.specs.Nodes.{Kind, empty, on_head, on_tail, on_bytes, frag}
use Rattle.rules.specs.SetRows.{crosses, on_empty, or_head, on_byte, across, closure, SetRow, Machine, machine, inside, head_row, next, at_the_end, mark_of}
use Rattle.rules.specs.Table.{fits}
use Rattle.rules.proofs.Texts.{slice-more}
use Rattle.rules.proofs.Tests.{eq_test}
use Rattle.rules.proofs.Sets.{zero_has, one_has}
use Rattle.rules.proofs.Edges.{All}
use Rattle.rules.proofs.Closing.{Carries, Below, across_lt, across-adds, across-ind, closed-keeps, closed-ind, closed-lt, closed-full}
use Rattle.rules.proofs.Walks.{Rel, Cross, Walk, stay, step, Keeps, along}
use Rattle.rules.proofs.Thompson.{thompson}

-- the row after the bytes bs
unfoldable pub row_after : Machine → SetRow → List ℕ → SetRow
row_after w r [] = r
row_after w r (b ∷ bs) = row_after w (next w r b) bs

-- the row where reading begins at place s
abbrev pub begin_row : Machine → ℕ → SetRow
begin_row w zero = head_row w
begin_row w (suc s) = inside w

-- ---- a row's mark

-- the node is in the row, or where the text ends, among the nodes reached at the end
abbrev holds : Machine → SetRow → Bool → ℕ → Bool
holds w r at_end u = elim at_end [ true ↦ has (at_the_end w r) u | false ↦ has r.nodes u ]

holds_more : (w : Machine) (r : SetRow) (at_end : Bool) (u : ℕ) → T (has r.nodes u) → T (holds w r at_end u)
holds_more w r true u h = closed-keeps w _ r.nodes u h
holds_more w r false u h = h

mark-holds : (w : Machine) (r : SetRow) (at_end : Bool) → T (fits (mark_of w r) at_end) ↔ T (holds w r at_end w.final)
unfolding mark_of
mark-holds w r at_end = table (has r.nodes w.final) (has (at_the_end w r) w.final) at_end (closed-keeps w _ r.nodes w.final)
  where
    table : (now later at_end : Bool) → (T now → T later)
        → T (fits (elim now [ true ↦ 3 | false ↦ elim later [ true ↦ 2 | false ↦ 0 ] ]) at_end) ↔ T (elim at_end [ true ↦ later | false ↦ now ])
    table true true true f = (λ h. tt, λ h. tt)
    table true true false f = (λ h. tt, λ h. tt)
    table true false at_end f = absurd (f tt)
    table false true true f = (λ h. tt, λ h. tt)
    table false true false f = (λ h. h, λ h. h)
    table false false true f = (λ h. h, λ h. h)
    table false false false f = (λ h. h, λ h. h)

-- ---- edges that are crossed in place

module _ (t : List ℕ) (p : ℕ) where
  cross-place : (is_head at_end : Bool) (k : Kind) → (T is_head → p ≡ 0) → (T at_end → p ≡ length t) → T (crosses is_head at_end k) → Cross t k p p
  cross-place is_head at_end empty z n c = refl
  cross-place is_head at_end on_head z n c = (z c, z c)
  cross-place is_head at_end on_tail z n c = (n c, n c)
  cross-place is_head at_end (on_bytes B) z n c = absurd c

  cross-byte : (k : Kind) → p < length t → T (on_byte (get_or t p 0) k) → Cross t k p (suc p)
  cross-byte empty l c = absurd c
  cross-byte on_head l c = absurd c
  cross-byte on_tail l c = absurd c
  cross-byte (on_bytes B) l c = (refl, l, c)

  -- an edge is crossed in place, or on the byte at p
  crossed : (is_head at_end : Bool) (k : Kind) (q : ℕ) → (p ≡ 0 → T is_head) → (p ≡ length t → T at_end) → Cross t k p q
      → ((p ≡ q) × T (crosses is_head at_end k)) ⊎ ((suc p ≡ q) × (p < length t) × T (on_byte (get_or t p 0) k))
  crossed is_head at_end empty q z n c = inl (c, tt)
  crossed is_head at_end on_head q z n c = inl (omega arith, z c.0)
  crossed is_head at_end on_tail q z n c = inl (omega arith, n c.0)
  crossed is_head at_end (on_bytes B) q z n c = inr (sym c.0, c.1, c.2)

-- ---- the nodes of a machine are few

module _ (w : Machine) (below : Below w) where
  taken-small : (r : SetRow) (b : ℕ) → across (on_byte b) w.links r.nodes 0 < 2 ^ w.count
  taken-small r b = across_lt (on_byte b) r.nodes w.count w.links 0 below (pow_pos w.count)

  pub next_small : (r : SetRow) (b : ℕ) → (next w r b).nodes < 2 ^ w.count
  unfolding next
  next_small r b = closed-lt w below on_empty (across (on_byte b) w.links r.nodes 0) (taken-small r b)

pub nodes-below : (X : Tree) → Below (machine X)
unfolding machine
nodes-below X x h = omega (arith, (thompson [] X).inner 0 x h)

pub one-small : (X : Tree) → 1 < 2 ^ (machine X).count
unfolding machine
one-small X = two (frag X).last
  where
    two : (n : ℕ) → 1 < 2 ^ suc n
    two n = omega (arith, pow_pos n)

-- ---- the row at a place

row_after-more : (w : Machine) (r : SetRow) (bs : List ℕ) (b : ℕ) → row_after w r (bs ++ (b ∷ [])) ≡ next w (row_after w r bs) b
unfolding row_after
row_after-more w r [] b = refl
row_after-more w r (c ∷ bs) b = row_after-more w (next w r c) bs b

module _ (w : Machine) (below : Below w) (small : 1 < 2 ^ w.count) (t : List ℕ) (s : ℕ) where
  abbrev row_at : ℕ → SetRow
  row_at p = row_after w (begin_row w s) (slice s p t)

  abbrev at_end : ℕ → Bool
  at_end p = eqb p (length t)

  -- the row at place p: the head row just at place 0, closed, and of nodes that walks reach
  record Known (p : ℕ) (r : SetRow) : Type 0 where
    head : T r.is_head ↔ (p ≡ 0)
    low : r.nodes < 2 ^ w.count
    full : All (Carries (crosses r.is_head false) (λ v. T (has r.nodes v))) w.links
    reached : (u : ℕ) → T (has r.nodes u) → Walk t w.links 0 s u p

  closed-known : (p m : ℕ) (is_head : Bool) → (T is_head ↔ (p ≡ 0)) → m < 2 ^ w.count → ((u : ℕ) → T (has m u) → Walk t w.links 0 s u p)
      → Known p (record { is_head = is_head; nodes = closure w (crosses is_head false) m })
  closed-known p m is_head head l ways = record {
    head = head;
    low = closed-lt w below (crosses is_head false) m l;
    full = closed-full w below (crosses is_head false) m l;
    reached = closed-ind w (crosses is_head false) m (λ u. Walk t w.links 0 s u p)
        (λ x h c. step h (cross-place t p is_head false x.on head.0 (λ f. absurd f) c)) ways;
  }

  begin-known : (p : ℕ) → p ≡ s → Known p (begin_row w p)
  unfolding inside head_row
  begin-known zero e = closed-known 0 1 true (omega arith) small (λ u h. rw (one_has u h, e) stay)
  begin-known (suc p) e = closed-known (suc p) 1 false (omega arith) small (λ u h. rw (one_has u h, e) stay)

  next_known : (p : ℕ) (r : SetRow) → p < length t → Known p r → Known (suc p) (next w r (get_or t p 0))
  unfolding next
  next_known p r l k = closed-known (suc p) (across (on_byte (get_or t p 0)) w.links r.nodes 0) false (omega arith) (taken-small w below r (get_or t p 0))
      (across-ind (on_byte (get_or t p 0)) r.nodes (λ u. Walk t w.links 0 s u (suc p)) w.links 0
      (λ x h c hu. step h (cross-byte t p x.on l c) (k.reached x.from hu)) (λ u h. absurd (zero_has u h)))

  row-start : row_at s ≡ begin_row w s
  unfolding row_after
  row-start = ap (row_after w (begin_row w s)) (slice_empty s t)

  row_next : (p : ℕ) → s ≤ p → p < length t → row_at (suc p) ≡ next w (row_at p) (get_or t p 0)
  row_next p sp l = ap (row_after w (begin_row w s)) (slice-more t s p sp l) ∙ row_after-more w (begin_row w s) (slice s p t) (get_or t p 0)

  known : (p : ℕ) → s ≤ p → p ≤ length t → Known p (row_at p)
  known p sp l = subst (λ (x : ℕ). Known x (row_at x)) (omega arith) (by_length (p - s) (omega arith))
    where
      by_length : (d : ℕ) → s + d ≤ length t → Known (s + d) (row_at (s + d))
      by_length zero l = rw (add-zero, row-start) (begin-known s refl)
      by_length (suc d) l =
          rw (add-suc, row_next (s + d) (omega arith) (omega arith)) (next_known (s + d) (row_at (s + d)) (omega arith) (by_length d (omega arith)))

  -- ---- the row holds the nodes that walks reach

  holds-reached : (p : ℕ) (r : SetRow) → Known p r → (a : Bool) → (T a → p ≡ length t) → (u : ℕ) → T (holds w r a u) → Walk t w.links 0 s u p
  holds-reached p r k true end = closed-ind w (crosses r.is_head true) r.nodes (λ u. Walk t w.links 0 s u p)
      (λ x h c. step h (cross-place t p r.is_head true x.on k.head.0 end c)) k.reached
  holds-reached p r k false end = k.reached

  holds-full : (p : ℕ) (r : SetRow) → Known p r → (a : Bool) → All (Carries (crosses r.is_head a) (λ v. T (holds w r a v))) w.links
  holds-full p r k true = closed-full w below (crosses r.is_head true) r.nodes k.low
  holds-full p r k false = k.full

  -- the row at place p holds node u
  Held : Rel
  Held u p = (s ≤ p) × (p ≤ length t) × T (holds w (row_at p) (at_end p) u)

  held_keeps : All (Keeps t Held) w.links
  unfolding Held next
  held_keeps x h p q c k = ⊎_elim stays moves (crossed t p (row_at p).is_head (at_end p) x.on q here.head.1 (eq_test p (length t)) c)
    where
      here : Known p (row_at p)
      here = known p k.0 k.1

      stays : (p ≡ q) × T (crosses (row_at p).is_head (at_end p) x.on) → Held x.to q
      stays y = subst (Held x.to) y.0 (k.0, k.1, holds-full p (row_at p) here (at_end p) x h y.1 k.2)

      before : (a : Bool) → (T a → ⊥) → T (holds w (row_at p) a x.from) → T (has (row_at p).nodes x.from)
      before true n g = absurd (n tt)
      before false n g = g

      moves : (suc p ≡ q) × (p < length t) × T (on_byte (get_or t p 0) x.on) → Held x.to q
      moves y = subst (Held x.to) y.0 (
        omega arith,
        omega arith,
        holds_more w (row_at (suc p)) (at_end (suc p)) x.to
            (rw (row_next p k.0 y.1) (closed-keeps w on_empty (across (on_byte (get_or t p 0)) w.links (row_at p).nodes 0) x.to
            (across-adds (on_byte (get_or t p 0)) (row_at p).nodes x w.links 0 h y.2 (before (at_end p) (λ n. omega (arith, eqb→eq p (length t) n)) k.2)))),
      )

  begin-held : s ≤ length t → Held 0 s
  unfolding Held head_row inside
  begin-held l = (omega arith, l, holds_more w (row_at s) (at_end s) 0 (rw row-start (begin-has s)))
    where
      begin-has : (p : ℕ) → T (has (begin_row w p).nodes 0)
      begin-has zero = closed-keeps w or_head 1 0 tt
      begin-has (suc p) = closed-keeps w on_empty 1 0 tt

  -- the row at the end of the stretch, with what is crossed at the text's end
  row-holds : (p : ℕ) → s ≤ p → p ≤ length t → (u : ℕ) → T (holds w (row_at p) (at_end p) u) ↔ Walk t w.links 0 s u p
  unfolding Held
  row-holds p sp l u = (holds-reached p (row_at p) (known p sp l) (at_end p) (eqb→eq p (length t)) u, λ a. (along Held held_keeps a (begin-held (omega arith))).2)

-- ---- what the set rows say is what the tree matches

pub set-rows-right : (X : Tree) (t : List ℕ) (s e : ℕ) → s ≤ e → e ≤ length t
    → T (fits (mark_of (machine X) (row_after (machine X) (begin_row (machine X) s) (slice s e t))) (eqb e (length t))) ↔ Match t X s e
unfolding machine
set-rows-right X t s e se le =
    Iff.trans (mark-holds (machine X) (row_after (machine X) (begin_row (machine X) s) (slice s e t)) (eqb e (length t)))
    (Iff.trans (row-holds (machine X) (nodes-below X) (one-small X) t s e se le (machine X).final)
    ((thompson t X).sound 0 (omega arith), (thompson t X).complete 0 (omega arith)))
