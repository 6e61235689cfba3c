-- A row that no byte leaves: whatever is read there leads to it again.
use mathlib.Core.Path.{◌≡◌, refl, ap, ◌∙◌}
use mathlib.Core.Bool.{Bool, true, false}
use mathlib.Core.List.{List, [], ◌∷◌}
use Prim.Native.Nat.{ℕ, suc, ◌+◌, ◌*◌, ◌≤◌, ◌<◌}
use native.Mathlib.Nat.{add-zero}
use native.Mathlib.Omega.{arith}
use lib.Dec.{eqb}
use lib.ListN.{length, get_or, take, drop, length-drop}
use lib.Seq.{length-take-le, get_or-drop, get_or-take}
use borrow.Author.Tests.{eqb-true}
use Rattle.rules.specs.Table.{Table, after}
use Rattle.rules.proofs.TableLaws.{all-at}
use Rattle.table.specs.Stays.{no_byte_leaves, Stays}

module _ (cells : List ℕ) (q : ℕ) (lent : 256 * q + 256 ≤ length cells) where
  abbrev row : List ℕ
  row = take 256 (drop (256 * q) cells)

  -- what the test says
  pub stays : no_byte_leaves cells q ≡ true → (b : ℕ) → b < 256 → get_or cells (256 * q + b) 0 ≡ q
  stays e b l =
      let h : b < length row = omega (arith, length-take-le 256 (drop (256 * q) cells) (simp length-drop (omega arith))) in
      rw (get_or-take, get_or-drop) at (eqb-true (get_or row b 0) q (all-at (λ c. eqb c q) row 0 e b h))

  -- a byte leaves a row whose first cell is another
  pub leaves : (get_or cells (256 * q) 0 ≡ q → ⊥) → false ≡ no_byte_leaves cells q
  leaves n = go (no_byte_leaves cells q) refl
    where
      go : (b : Bool) → no_byte_leaves cells q ≡ b → false ≡ b
      go true e = absurd (n (rw add-zero at (stays e 0 (omega arith))))
      go false e = refl

-- whatever is read there
pub after-stays : (w : Table) (q : ℕ) → Stays w q → (u : List ℕ) → ((i : ℕ) → get_or u i 0 < 256) → after w q u ≡ q
after-stays w q s [] h = refl
after-stays w q s (b ∷ u) h = ap (λ (r : ℕ). after w r u) (s b (h 0)) ∙ after-stays w q s u (λ i. h (suc i))
