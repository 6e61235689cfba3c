-- Demand 1: every pattern has exactly one answer, a tree or a refusal with its place; and the reader finds it.
use mathlib.Core.Path.{◌≡◌, refl, ap}
use mathlib.Core.Logic.{◌↔◌, ◌⊎◌, inl, inr}
use mathlib.Core.List.{List}
use Prim.Native.Nat.{ℕ, ◌-◌, ◌≤◌}
use native.Mathlib.Omega.{arith}
use lib.ListN.{length}
use Rattle.rules.specs.Tree.{Tree}
use Rattle.rules.specs.Grammar.{Legal}
use Rattle.rules.specs.Turned.{Before, Reach, start, past_single, past_repeat, past_open, past_close, past_bar, Fault, two, two_brace, three, four, five, six, seven, eight, nine, Turned}
use Rattle.rules.specs.Reader.{Reading, got, bad, read}
use Rattle.rules.specs.Demands.{ExactlyOne}
use Rattle.rules.proofs.TokensRead.{stands-shorter}
use Rattle.rules.proofs.ScanOnce.{one-tree, one-fault, not-both}
use Rattle.rules.proofs.ScanSound.{read-got, read-bad}

-- ---- the numbers and the places

reach-left : {p s : List ℕ} {b : Before} {d : ℕ} → Reach p s b d → length s ≤ length p
reach-left start = omega arith
reach-left (past_single r t) = omega (arith, reach-left r, stands-shorter t)
reach-left (past_repeat r t) = omega (arith, reach-left r, stands-shorter t)
reach-left (past_open r t h) = omega (arith, reach-left r, stands-shorter t)
reach-left (past_close r t) = omega (arith, reach-left r, stands-shorter t)
reach-left (past_bar r t) = omega (arith, reach-left r, stands-shorter t)

fault-bounds : {p s : List ℕ} {n : ℕ} → Fault p n s → (2 ≤ n) × (n ≤ 9) × (length s ≤ length p)
fault-bounds (two r h t) = omega (arith, reach-left r)
fault-bounds (two_brace r h t) = omega (arith, reach-left r)
fault-bounds (three r t) = omega (arith, reach-left r)
fault-bounds (four r t) = omega (arith, reach-left r)
fault-bounds (five r t) = omega (arith, reach-left r)
fault-bounds (six r t) = omega (arith, reach-left r)
fault-bounds (seven r t) = omega (arith, reach-left r)
fault-bounds (eight r t) = omega (arith, reach-left r)
fault-bounds (nine r t) = omega (arith, reach-left r)

pub refusal-number : {p : List ℕ} {n i : ℕ} → Turned p n i → (2 ≤ n) × (n ≤ 9)
refusal-number h = omega (arith, fault-bounds h.fault)

pub refusal-place : {p : List ℕ} {n i : ℕ} → Turned p n i → i ≤ length p
refusal-place h = omega (arith, h.place)

turned : {p s : List ℕ} {n : ℕ} → Fault p n s → Turned p n (length p - length s)
turned {s = s} f = record { left = s; fault = f; place = omega (arith, fault-bounds f) }

-- ---- one answer

module _ (p : List ℕ) where
  one-refusal : (n i m j : ℕ) → Turned p n i → Turned p m j → (n ≡ m) × (i ≡ j)
  one-refusal n i m j a b =
      let e = one-fault a.fault b.fault in
      let q = ap length e.1 in
      (e.0, omega (arith, a.place, b.place))

  pub tree-or-refusal : ExactlyOne p
  tree-or-refusal = record {
    answer = pick (read p) refl;
    one-tree = λ X Y. one-tree;
    one-refusal = one-refusal;
    not-both = λ X n i a b. not-both a b.fault;
  }
    where
      pick : (a : Reading) → read p ≡ a → ((X : Tree) × Legal p X) ⊎ ((n : ℕ) × (i : ℕ) × Turned p n i)
      pick (got X) e = inl (X, (read-got p X).0 e)
      pick (bad n s) e = inr (n, length p - length s, turned ((read-bad p n s).0 e))

  -- the reader's refusal, by number and place
  pub read-turned : (n i : ℕ) → ((s : List ℕ) × (read p ≡ bad n s) × (i ≡ length p - length s)) ↔ Turned p n i
  read-turned n i = (
    (λ h. rw h.2 (turned ((read-bad p n h.0).0 h.1))),
    (λ h. (h.left, (read-bad p n h.left).1 h.fault, omega (arith, h.place))),
  )
