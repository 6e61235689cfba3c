-- "Numbers for what is turned away", 2 to 9: reading comes from the left to a place, and there it can't go on.
use Rattle.std.specs.Prelude.{◌≡◌, List, ℕ, suc, ◌+◌, ◌<◌, length}
use Rattle.rules.specs.Sizes.{groups_most}
use Rattle.rules.specs.Tree.{Repeat, Tree}
use Rattle.rules.specs.Grammar.{single, repeats, opens, closes, parts, ends, no_count, no_class, no_escape, stray, Stands}

-- what stands right before a place in its branch
pub data Before : Type 0 where
  no_atom an_atom a_repeat : Before

-- a repeat sign can stand only after an atom
abbrev pub NotAtom : Before → Type 0
NotAtom no_atom = Unit {0}
NotAtom an_atom = ⊥
NotAtom a_repeat = Unit {0}

-- `Reach p s b d`: reading p comes to the place from which the bytes s are left, with b before it and d groups open
pub data Reach (p : List ℕ) : List ℕ → Before → ℕ → Type 0 where
  start : Reach p p no_atom 0
  past_single : {s u : List ℕ} {b : Before} {d : ℕ} {X : Tree} → Reach p s b d → Stands s (single X u) → Reach p u an_atom d
  past_repeat : {s u : List ℕ} {d : ℕ} {k : Repeat} → Reach p s an_atom d → Stands s (repeats k u) → Reach p u a_repeat d
  past_open : {s u : List ℕ} {b : Before} {d : ℕ} → Reach p s b d → Stands s (opens u) → d < groups_most → Reach p u no_atom (suc d)
  past_close : {s u : List ℕ} {b : Before} {d : ℕ} → Reach p s b (suc d) → Stands s (closes u) → Reach p u an_atom d
  past_bar : {s u : List ℕ} {b : Before} {d : ℕ} → Reach p s b d → Stands s (parts u) → Reach p u no_atom d

-- `Fault p n s`: p is turned away with the number n, at the place from which the bytes s are left
pub data Fault (p : List ℕ) : ℕ → List ℕ → Type 0 where
  two : {s u : List ℕ} {b : Before} {d : ℕ} {k : Repeat} → Reach p s b d → NotAtom b → Stands s (repeats k u) → Fault p 2 s
  two_brace : {s : List ℕ} {b : Before} {d : ℕ} → Reach p s b d → NotAtom b → Stands s no_count → Fault p 2 s
  three : {s : List ℕ} {d : ℕ} → Reach p s an_atom d → Stands s no_count → Fault p 3 s
  four : {s : List ℕ} {b : Before} {d : ℕ} → Reach p s b d → Stands s no_class → Fault p 4 s
  five : {s : List ℕ} {b : Before} {d : ℕ} → Reach p s b d → Stands s no_escape → Fault p 5 s
  six : {s : List ℕ} {b : Before} {d : ℕ} → Reach p s b d → Stands s stray → Fault p 6 s
  seven : {s u : List ℕ} {b : Before} → Reach p s b 0 → Stands s (closes u) → Fault p 7 s
  eight : {s : List ℕ} {b : Before} {d : ℕ} → Reach p s b (suc d) → Stands s ends → Fault p 8 s
  nine : {s u : List ℕ} {b : Before} → Reach p s b groups_most → Stands s (opens u) → Fault p 9 s

-- p is turned away with the number n at the place i
pub record Turned (p : List ℕ) (n i : ℕ) : Type 0 where
  pub left : List ℕ
  pub fault : Fault p n left
  pub place : i + length left ≡ length p
