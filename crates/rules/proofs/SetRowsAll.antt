-- The list of a tree's set rows has each row that is reached, once, in the order of the numbering.
use mathlib.Core.Path.{◌≡◌, refl, ◌∙◌, sym, ap, ap₂, subst}
use mathlib.Core.Logic.{inl}
use mathlib.Core.Bool.{Bool, true, false}
use mathlib.Core.List.{List, [], ◌∷◌}
use Prim.Native.Nat.{ℕ, zero, suc, ◌+◌, ◌*◌, ◌<◌, ◌≤◌, ◌^◌}
use native.Mathlib.Omega.{arith}
use native.Mathlib.Nat.{pow-suc}
use lib.Dec.{T}
use lib.ListN.{length}
use Rattle.rules.specs.Tools.{all_bytes}
use Rattle.rules.specs.Tree.{Tree}
use Rattle.rules.specs.Nodes.{size, frag}
use Rattle.rules.specs.SetRows.{SetRow, Machine, machine, inside, head_row, next, RowReached, at-inside, at_head, on-byte, row_at, RowIn, AllRows, targets, set_rows}
use Rattle.rules.proofs.Lists.{at, length-up_from, at-up_from, get_or-map-in, length-map}
use Rattle.rules.proofs.RowsListed.{Distinct, Extends, Listed, few, listed-right, InOrder, in_order, listed-extends}
use Rattle.rules.proofs.Closing.{closed-lt}
use Rattle.rules.proofs.RowsRight.{nodes-below, one-small, next_small}

pub byte_at : (b : ℕ) → b < 256 → at all_bytes b ≡ b
byte_at b l = at-up_from 0 256 b l ∙ zero_left
  where
    zero_left : 0 + b ≡ b
    zero_left = omega arith

pub byte-in : (b : ℕ) → b < 256 → b < length all_bytes
byte-in b l = subst (λ (n : ℕ). b < n) (sym (length-up_from 0 256)) l

module _ (X : Tree) where
  abbrev w : Machine
  w = machine X

  abbrev top : ℕ
  top = 2 ^ size (frag X)

  pub target_at : (q : SetRow) (b : ℕ) → b < 256 → row_at (targets w q) b ≡ next w q b
  unfolding targets
  target_at q b l = get_or-map-in (next w q) all_bytes b 0 _ (byte-in b l) ∙ ap {B = SetRow} (λ (x : ℕ). next w q x) (byte_at b l)

  pub length-targets : (q : SetRow) → length (targets w q) ≡ 256
  unfolding targets
  length-targets q = length-map (next w q) all_bytes ∙ length-up_from 0 256

  pub to-byte : (q : SetRow) (b : ℕ) → b < length (targets w q) → b < 256
  to-byte q b l = subst (λ (n : ℕ). b < n) (length-targets q) l

  -- a row that is reached, of nodes below the count
  abbrev Fine : SetRow → Type 0
  Fine q = RowReached w q × (q.nodes < top)

  fine-next : (q : SetRow) → Fine q → (b : ℕ) → b < length (targets w q) → Fine (row_at (targets w q) b)
  unfolding machine
  fine-next q h b l = subst Fine (sym (target_at q b (to-byte q b l))) (on-byte q b (to-byte q b l) h.0, next_small w (nodes-below X) q b)

  -- a number for each row, below 2 ^ (1 + count)
  code : SetRow → ℕ
  code q = elim q.is_head [ true ↦ q.nodes + top | false ↦ q.nodes ]

  code_lt : (q : SetRow) → Fine q → code q < 2 ^ suc (size (frag X))
  unfolding code
  code_lt q h = subst (λ (x : ℕ). code q < x) (sym (pow-suc 2 (size (frag X)))) (go q.is_head h.1)
    where
      go : (b : Bool) → q.nodes < top → elim b [ true ↦ q.nodes + top | false ↦ q.nodes ] < top * 2
      go true l = omega arith
      go false l = omega arith

  code-told : (p q : SetRow) → Fine p → Fine q → code p ≡ code q → p ≡ q
  unfolding code
  code-told p q lp lq e = go p.is_head q.is_head refl refl lp.1 lq.1 e
    where
      made : {a b : Bool} {m n : ℕ} → a ≡ b → m ≡ n → Path SetRow (record { is_head = a; nodes = m }) (record { is_head = b; nodes = n })
      made x y = ap₂ {C = SetRow} (λ (a : Bool) (n : ℕ). record { is_head = a; nodes = n }) x y

      go : (a b : Bool) → p.is_head ≡ a → q.is_head ≡ b → p.nodes < top → q.nodes < top
          → ◌≡◌ {A = ℕ} (elim a [ true ↦ p.nodes + top | false ↦ p.nodes ]) (elim b [ true ↦ q.nodes + top | false ↦ q.nodes ]) → p ≡ q
      go true true x y l m z = made (x ∙ sym y) (omega arith)
      go true false x y l m z = absurd (omega arith)
      go false true x y l m z = absurd (omega arith)
      go false false x y l m z = made (x ∙ sym y) z

  abbrev firsts : List SetRow
  firsts = inside w ∷ head_row w ∷ []

  abbrev pub list : List SetRow
  list = set_rows w

  all_listed : Listed (targets w) Fine fine-next (2 ^ suc (size (frag X))) code code_lt code-told list
  unfolding set_rows inside head_row machine
  all_listed = listed-right (targets w) Fine fine-next (2 ^ suc (size (frag X))) code code_lt code-told (2 ^ suc (size (frag X))) 0 firsts apart fine (λ p l. absurd (omega (arith, l))) (omega arith)
    where
      flag : (p q : SetRow) → p ≡ q → T q.is_head → T p.is_head
      flag p q e h = subst (λ (x : SetRow). T x.is_head) (sym e) h

      apart : Distinct firsts
      apart zero zero lp lq e = refl
      apart zero (suc zero) lp lq e = absurd (flag (inside w) (head_row w) e tt)
      apart (suc zero) zero lp lq e = absurd (flag (inside w) (head_row w) (sym e) tt)
      apart (suc zero) (suc zero) lp lq e = refl
      apart zero (suc (suc q)) lp lq e = absurd (omega (arith, lq))
      apart (suc zero) (suc (suc q)) lp lq e = absurd (omega (arith, lq))
      apart (suc (suc p)) q lp lq e = absurd (omega (arith, lp))

      fine : (i : ℕ) → i < 2 → Fine (row_at firsts i)
      fine zero l = (at-inside, closed-lt w (nodes-below X) _ 1 (one-small X))
      fine (suc zero) l = (at_head, closed-lt w (nodes-below X) _ 1 (one-small X))
      fine (suc (suc i)) l = absurd (omega (arith, l))

  pub first_rows : Extends firsts list
  unfolding set_rows machine
  first_rows = listed-extends (targets w) (2 ^ suc (size (frag X))) 0 firsts

  pub distinct : Distinct list
  distinct = all_listed.distinct

  pub target-in : (i b : ℕ) → i < length list → b < 256 → RowIn (next w (row_at list i) b) list
  target-in i b l lb = subst (λ (x : SetRow). RowIn x list) (target_at (row_at list i) b lb)
      (all_listed.handled i l b (subst (λ (n : ℕ). b < n) (sym (length-targets (row_at list i))) lb))

  pub ordered : (q : ℕ) → q < length list → InOrder (targets w) 2 list distinct q
  unfolding set_rows machine
  ordered q l = in_order (targets w) 2 list distinct (2 ^ suc (size (frag X))) 0 firsts refl few-rows (λ y ly. inl ly) q (omega arith) l
    where
      few-rows : length list ≤ 2 ^ suc (size (frag X)) + 0
      few-rows = omega (arith, few (targets w) Fine fine-next (2 ^ suc (size (frag X))) code code_lt code-told list distinct all_listed.reached)

  -- S is the number of set rows reached from the inside row and the head row
  pub all-rows : AllRows (machine X) (set_rows (machine X))
  all-rows = record { once = distinct; reached = λ p l. (all_listed.reached p l).0; complete = λ r h. found h }
    where
      first-in : (i : ℕ) → i < 2 → RowIn (row_at firsts i) list
      first-in i l = (i, omega (arith, first_rows.0), first_rows.1 i l)

      found : {r : SetRow} → RowReached w r → RowIn r list
      found at-inside = first-in 0 (omega arith)
      found at_head = first-in 1 (omega arith)
      found (on-byte r b l h) = let x : RowIn r list = found h in subst (λ (y : SetRow). RowIn (next w y b) list) x.2 (target-in x.0 b x.1 l)
