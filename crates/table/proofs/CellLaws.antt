-- Cells by their bits: how far they lie past the last row, whether each is a row number, whether each is one row.
use mathlib.Core.Path.{◌≡◌, refl, sym, ap, ◌∙◌}
use mathlib.Core.Bool.{Bool, true, false, ◌&&◌}
use mathlib.Core.List.{List, [], ◌∷◌}
use Prim.Native.Nat.{ℕ, zero, suc, ◌+◌, ◌-◌, ◌≤◌, ◌<◌}
use native.Mathlib.Omega.{arith}
use lib.Bits.{bit_or, bit_xor, or_add_and, and_le_l, and_le_r, xor_add_and, xor_self}
use lib.Dec.{leb, ltb, eqb}
use lib.ListN.{length, get_or, take}
use borrow.Author.Tests.{eq-eqb, ne_eqb, eqb-true, eqb-false, leb-true, leb-false, le-ltb}
use Rattle.rules.specs.Tools.{all}
use Rattle.rules.proofs.TableLaws.{all-on}

-- bits put together are 0 where both are
bits_none : (a b : ℕ) → eqb (bit_or a b) 0 ≡ eqb a 0 && eqb b 0
bits_none zero b = refl
bits_none (suc a) b =
    ne_eqb (bit_or (suc a) b) 0 (λ e. omega (arith, or_add_and (suc a) b, and_le_r (suc a) b))
    ∙ ap (λ (x : Bool). x && eqb b 0) (sym (ne_eqb (suc a) 0 (λ e. omega arith)))

-- the bits of one cell more are 0 exactly if it passes too
pub bits-on : (f : ℕ → Bool) (cells : List ℕ) (i far bits : ℕ) → i < length cells → eqb bits 0 ≡ f (get_or cells i 0) → eqb far 0 ≡ all f (take i cells)
    → eqb (bit_or far bits) 0 ≡ all f (take (i + 1) cells)
bits-on f cells i far bits l here before =
    bits_none far bits ∙ ap (λ (b : Bool). eqb far 0 && b) here ∙ all-on f cells 0 i l before

-- numbers are the same where they differ in no bit
pub no-bit : (a b : ℕ) → eqb (bit_xor a b) 0 ≡ eqb a b
no-bit a b = go (eqb a b) refl
  where
    go : (e : Bool) → eqb a b ≡ e → eqb (bit_xor a b) 0 ≡ e
    go true e = let h : a ≡ b = eqb-true a b e in eq-eqb (bit_xor a b) 0 (ap (λ (n : ℕ). bit_xor n b) h ∙ xor_self b)
    go false e = ne_eqb (bit_xor a b) 0 (λ z. eqb-false a b e (omega (arith, xor_add_and a b, and_le_l a b, and_le_r a b)))

pub not-past : (c last : ℕ) → eqb (c - last) 0 ≡ leb c last
not-past c last = go (leb c last) refl
  where
    go : (b : Bool) → leb c last ≡ b → eqb (c - last) 0 ≡ leb c last
    go true e = eq-eqb (c - last) 0 (let h : c ≤ last = leb-true c last e in omega arith) ∙ sym e
    go false e = ne_eqb (c - last) 0 (λ z. let h : last < c = leb-false c last e in omega arith) ∙ sym e

-- of no rows, no cell is a row number
pub rows_none : (cells : List ℕ) → eqb (length cells) 0 ≡ all (λ c. ltb c 0) cells
rows_none [] = refl
rows_none (c ∷ cells) =
    ne_eqb (suc (length cells)) 0 (λ e. omega arith)
    ∙ sym (ap (λ (b : Bool). elim b [ true ↦ all (λ c. ltb c 0) cells | false ↦ false ]) (le-ltb c 0 (omega arith)))
