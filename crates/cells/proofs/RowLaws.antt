-- What a row is closed from.
use mathlib.Core.Path.{◌≡◌, sym, ap, ◌∙◌, subst}
use mathlib.Core.Bool.{Bool, true, false}
use mathlib.Core.List.{List}
use Prim.Native.Nat.{ℕ, ◌+◌, ◌*◌, ◌-◌, ◌≤◌, ◌<◌, ◌^◌}
use native.Mathlib.Decide.{dec_lt}
use native.Mathlib.Omega.{arith}
use borrow.Author.Tests.{lt-ltb, le-ltb}
use lib.ListN.{length, take, drop}
use lib.Pow.{pow_mono}
use Rattle.rules.specs.Sizes.{words_a_row}
use Rattle.nodesets.specs.NodeSets.{mask_of, row_words, doubled}
use Rattle.cells.specs.Cells.{taken_at, seeds_of}
use Rattle.nodesets.proofs.NodeSetLaws.{length-doubled, mask-doubled, row-part, row-long, part-long}

module _ (taken : ℕ → ℕ) (q : ℕ) where
  pub seeds-first : q < 2 → 1 ≡ seeds_of taken q
  seeds-first l = sym (ap (λ (b : Bool). elim b [ true ↦ 1 | false ↦ taken q * 2 ]) (lt-ltb q 2 l))

  pub seeds-later : 2 ≤ q → taken q * 2 ≡ seeds_of taken q
  seeds-later l = sym (ap (λ (b : Bool). elim b [ true ↦ 1 | false ↦ taken q * 2 ]) (le-ltb q 2 l))

  pub seeds-lt : (n : ℕ) → 0 < n → (2 ≤ q → taken q * 2 < 2 ^ n) → seeds_of taken q < 2 ^ n
  seeds-lt n l h = go (dec_lt q 2)
    where
      two : 2 ≤ 2 ^ n
      two = pow_mono {i = 1} l

      go : Dec (q < 2) → seeds_of taken q < 2 ^ n
      go (yes x) = subst (λ (y : ℕ). y < 2 ^ n) (seeds-first x) (omega (arith, two))
      go (no x) = subst (λ (y : ℕ). y < 2 ^ n) (seeds-later (omega arith)) (h (omega arith))

pub begin-later : {new : List ℕ} (sets : List ℕ) (w q : ℕ) → 2 ≤ q → words_a_row * q + w ≤ length sets → taken_at w sets q * 2 < 2 ^ (64 * w)
    → new ≡ doubled 0 (take (words_a_row * q + w - words_a_row * q) (drop (words_a_row * q) sets)) → (length new ≡ w) × (mask_of new ≡ seeds_of (taken_at w sets) q)
begin-later sets w q l fits low e = (
  ap length e ∙ length-doubled 0 _ ∙ part-long sets q w fits,
  ap mask_of (e ∙ ap (doubled 0) (row-part sets q w)) ∙ mask-doubled (row_words w sets q) (rw (row-long sets q w fits) low) ∙ seeds-later (taken_at w sets) q l,
)
