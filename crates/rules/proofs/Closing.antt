-- Closing a set of nodes: what a round adds, and what the closed set holds.
use mathlib.Core.Path.{◌≡◌, refl, subst}
use mathlib.Core.Logic.{⊎_elim}
use mathlib.Core.Bool.{Bool, true, false, ◌&&◌}
use mathlib.Core.List.Memᴰ.{head as first}
use mathlib.Core.List.Memᴰ.{tail as later}
use mathlib.Core.List.{List, [], ◌∷◌}
use Prim.Native.Nat.{ℕ, zero, suc, ◌+◌, ◌<◌, ◌≤◌, ◌^◌}
use native.Mathlib.Omega.{arith}
use native.Mathlib.Nat.{le_trans}
use lib.Dec.{T, eqb, eqb→eq}
use Rattle.rules.specs.Tools.{has, with}
use Rattle.rules.specs.Nodes.{Kind, Edge}
use Rattle.rules.specs.SetRows.{across, closed, Machine, closure}
use Rattle.rules.proofs.Tests.{both_left, both_right, both, eq_test, by-test}
use Rattle.rules.proofs.Sets.{with-has, with-keeps, with-only, with-ge, with-lt, same-members}
use Rattle.rules.proofs.Edges.{◌∈◌, All}

-- where c crosses the edge, C goes along it
abbrev pub Carries : (Kind → Bool) → (ℕ → Type 0) → Edge → Type 0
Carries c C x = T (c x.on) → C x.from → C x.to

-- no edge goes to a node past the last
abbrev pub Below : Machine → Type 0
Below w = All (λ x. x.to < w.count) w.links

-- ---- one round

module _ (c : Kind → Bool) (m : ℕ) where
  -- c crosses the edge from a node of m
  abbrev taken : Edge → Bool
  taken x = c x.on && has m x.from

  -- a statement about one edge, in its two cases
  across-case : (C : ℕ → Type 0) (x : Edge) (xs : List Edge) (acc : ℕ) → (T (taken x) → C (across c xs m (with acc x.to)))
      → ((T (taken x) → ⊥) → C (across c xs m acc)) → C (across c (x ∷ xs) m acc)
  across-case C x xs acc = by-test (taken x) (λ b. C (elim b [ true ↦ across c xs m (with acc x.to) | false ↦ across c xs m acc ]))

  -- what holds of a set, and still does when a target is added, holds of what is across
  across-by : (C : ℕ → Type 0) (es : List Edge) (acc : ℕ) → All (λ x. T (taken x) → (a : ℕ) → C a → C (with a x.to)) es
      → C acc → C (across c es m acc)
  across-by C [] acc adds h = h
  across-by C (x ∷ xs) acc adds h = across-case C x xs acc
      (λ t. across-by C xs (with acc x.to) (λ y g. adds y (later g)) (adds x (first refl) t acc h)) (λ n. across-by C xs acc (λ y g. adds y (later g)) h)

  across-keeps : (es : List Edge) (acc j : ℕ) → T (has acc j) → T (has (across c es m acc) j)
  across-keeps es acc j = across-by (λ z. T (has z j)) es acc (λ x h t a. with-keeps a x.to j)

  across-ge : (es : List Edge) (acc : ℕ) → acc ≤ across c es m acc
  across-ge es acc = across-by (λ z. acc ≤ z) es acc (λ x h t a l. le_trans l (with-ge a x.to)) (omega arith)

  pub across_lt : (n : ℕ) (es : List Edge) (acc : ℕ) → All (λ x. x.to < n) es → acc < 2 ^ n → across c es m acc < 2 ^ n
  across_lt n es acc below = across-by (λ z. z < 2 ^ n) es acc (λ x h t a. with-lt a x.to n (below x h))

  -- the targets are across
  pub across-adds : (x : Edge) (es : List Edge) (acc : ℕ) → x ∈ es → T (c x.on) → T (has m x.from) → T (has (across c es m acc) x.to)
  across-adds x es acc (first {x = y} {xs} e) hc hm = across-case (λ z. T (has z x.to)) y xs acc
      (λ t. across-keeps xs (with acc y.to) x.to (rw e (with-has acc y.to))) (λ n. absurd (n (rw (← e) (both (c x.on) (has m x.from) hc hm))))
  across-adds x es acc (later {x = y} {xs} h) hc hm = across-case (λ z. T (has z x.to)) y xs acc
      (λ t. across-adds x xs (with acc y.to) h hc hm) (λ n. across-adds x xs acc h hc hm)

  -- and nothing else but what was there
  pub across-ind : (C : ℕ → Type 0) (es : List Edge) (acc : ℕ) → All (λ x. T (c x.on) → T (has m x.from) → C x.to) es
      → ((v : ℕ) → T (has acc v) → C v) → (v : ℕ) → T (has (across c es m acc) v) → C v
  across-ind C es acc targets = across-by (λ z. (v : ℕ) → T (has z v) → C v) es acc
      (λ x h t a old v g. ⊎_elim (λ e. rw e (targets x h (both_left (c x.on) (has m x.from) t) (both_right (c x.on) (has m x.from) t)))
      (old v) (with-only a x.to v g))

-- ---- rounds

module _ (c : Kind → Bool) (es : List Edge) where
  -- a statement about a round, in its two cases: it was the last, or made the set greater
  closed-case : (C : ℕ → Type 0) (f m : ℕ) → (across c es m m ≡ m → C m) → (m < across c es m m → C (closed c es f (across c es m m)))
      → C (closed c es (suc f) m)
  closed-case C f m last more = by-test (eqb (across c es m m) m) (λ b. C (elim b [ true ↦ m | false ↦ closed c es f (across c es m m) ]))
      (λ t. last (eqb→eq (across c es m m) m t)) (λ n. more (greater (λ e. n (eq_test (across c es m m) m e))))
    where
      greater : (across c es m m ≡ m → ⊥) → m < across c es m m
      greater ne = omega (arith, across-ge c m es m)

  -- what holds of a set, and still does after a round, holds of the closed set
  closed-by : (C : ℕ → Type 0) → ((m : ℕ) → C m → C (across c es m m)) → (f m : ℕ) → C m → C (closed c es f m)
  closed-by C round zero m h = h
  closed-by C round (suc f) m h = closed-case C f m (λ e. h) (λ l. closed-by C round f (across c es m m) (round m h))

  -- with enough rounds nothing is left to add
  closed-stops : (n f m : ℕ) → All (λ x. x.to < n) es → m < 2 ^ n → 2 ^ n ≤ f + m → across c es (closed c es f m) (closed c es f m) ≡ closed c es f m
  closed-stops n zero m below hm hf = absurd (omega arith)
  closed-stops n (suc f) m below hm hf = closed-case (λ z. across c es z z ≡ z) f m (λ e. e)
      (λ l. closed-stops n f (across c es m m) below (across_lt c m n es m below hm) (omega arith))

-- ---- the closed set

module _ (w : Machine) (c : Kind → Bool) (m : ℕ) where
  pub closed-keeps : (v : ℕ) → T (has m v) → T (has (closure w c m) v)
  closed-keeps v = closed-by c w.links (λ z. T (has z v)) (λ a. across-keeps c a w.links a v) (2 ^ w.count) m

  -- what holds in m, and goes along the edges that c crosses, holds in the closed set
  pub closed-ind : (C : ℕ → Type 0) → All (Carries c C) w.links → ((v : ℕ) → T (has m v) → C v) → (v : ℕ) → T (has (closure w c m) v) → C v
  closed-ind C carries = closed-by c w.links (λ z. (v : ℕ) → T (has z v) → C v)
      (λ a base. across-ind c a C w.links a (λ x h hc ha. carries x h hc (base x.from ha)) base) (2 ^ w.count) m

module _ (w : Machine) (below : Below w) (c : Kind → Bool) (m : ℕ) (small : m < 2 ^ w.count) where
  pub closed-lt : closure w c m < 2 ^ w.count
  closed-lt = closed-by c w.links (λ z. z < 2 ^ w.count) (λ a. across_lt c a w.count w.links a below) (2 ^ w.count) m small

  pub closed-full : All (Carries c (λ v. T (has (closure w c m) v))) w.links
  closed-full x h hc hu =
      subst (λ (z : ℕ). T (has z x.to)) (closed-stops c w.links w.count (2 ^ w.count) m below small (omega arith))
      (across-adds c (closure w c m) x w.links (closure w c m) h hc hu)

  -- however a set is made: if it has m, is closed, and has nothing that is not reached from m, it is the closed set
  pub closed-only : (x : ℕ) → x < 2 ^ w.count → ((v : ℕ) → T (has m v) → T (has x v)) → All (Carries c (λ v. T (has x v))) w.links
      → ((C : ℕ → Type 0) → All (Carries c C) w.links → ((v : ℕ) → T (has m v) → C v) → (v : ℕ) → T (has x v) → C v) → x ≡ closure w c m
  closed-only x hx base step least = same-members w.count x (closure w c m) hx closed-lt
      (least (λ v. T (has (closure w c m) v)) closed-full (closed-keeps w c m)) (closed-ind w c m (λ v. T (has x v)) step base)
