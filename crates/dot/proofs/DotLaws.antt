-- Which text each case of a graph's pieces has.
use mathlib.Core.Path.{◌≡◌, refl, sym, ◌∙◌}
use mathlib.Core.Bool.{Bool, true, false, not, ◌||◌}
use mathlib.Core.List.{[], ◌∷◌, ◌++◌, map}
use Prim.Native.Nat.{ℕ, ◌+◌, ◌*◌}
use borrow.Author.Tests.{eq-eqb, ne_eqb}
use lib.Dec.{ltb, eqb}
use lib.ListN.{get_or}
use lib.Seq.{slice}
use Rattle.rules.specs.Tools.{bytes_of, all, flat}
use Rattle.rules.specs.Table.{Table, fits}
use Rattle.rules.specs.Listing.{decimal, Run, runs}
use Rattle.dot.specs.Dot.{is_trap, line, three_digits, byte_text, bytes_text, arrow, arrow_unless_trap, shape, row_dot}
use Rattle.writing.proofs.Cases.{if-true, if-false}

-- ---- a byte, a run's bytes

module _ (b : ℕ) where
  pub byte-digits : ltb b 33 || ltb 126 b ≡ true → byte_text b ≡ three_digits b
  unfolding byte_text
  byte-digits e = if-true _ _ e

  pub byte-behind : ltb b 33 || ltb 126 b ≡ false → eqb b 34 || eqb b 92 ≡ true → byte_text b ≡ 92 ∷ b ∷ []
  unfolding byte_text
  byte-behind e f = if-false _ _ e ∙ if-true _ _ f

  pub byte-itself : ltb b 33 || ltb 126 b ≡ false → eqb b 34 || eqb b 92 ≡ false → byte_text b ≡ b ∷ []
  unfolding byte_text
  byte-itself e f = if-false _ _ e ∙ if-false _ _ f

module _ (lo hi : ℕ) where
  pub bytes_one : lo ≡ hi → bytes_text lo hi ≡ byte_text lo
  unfolding bytes_text
  bytes_one e = if-true _ _ (eq-eqb lo hi e)

  pub bytes-more : (lo ≡ hi → ⊥) → bytes_text lo hi ≡ byte_text lo ++ bytes_of "-" ++ byte_text hi
  unfolding bytes_text
  bytes-more n = if-false _ _ (ne_eqb lo hi n)

-- ---- a row

module _ (q mark : ℕ) where
  pub shape-match : fits mark false ≡ true → shape q mark ≡ line " [shape=doublecircle];"
  unfolding shape
  shape-match e = if-true _ _ e

  pub shape-end : fits mark false ≡ false → fits mark true ≡ true → shape q mark ≡ bytes_of " [label=\"" ++ decimal q ++ line " $\"];"
  unfolding shape
  shape-end e f = if-false _ _ e ∙ if-true _ _ f

  pub shape-plain : fits mark false ≡ false → fits mark true ≡ false → shape q mark ≡ line ";"
  unfolding shape
  shape-plain e f = if-false _ _ e ∙ if-false _ _ f

module _ (w : Table) (q : ℕ) where
  pub no-trap-inside : eqb q 0 ≡ true → false ≡ is_trap w q
  unfolding is_trap
  no-trap-inside z = rw z refl

  module _ (z : eqb q 0 ≡ false) where
    pub no-trap-head : eqb q w.head ≡ true → false ≡ is_trap w q
    unfolding is_trap
    no-trap-head h = rw (z, h) refl

    module _ (h : eqb q w.head ≡ false) where
      pub no-trap-match : {m : Bool} → m ≡ fits (get_or w.marks q 0) true → m ≡ true → not m ≡ is_trap w q
      unfolding is_trap
      no-trap-match e t = let f = sym e ∙ t in rw (z, h, f, t) refl

      pub trap-by-cells : {m : Bool} → m ≡ fits (get_or w.marks q 0) true → m ≡ false → is_trap w q ≡ all (λ c. eqb c q) (slice (256 * q) (256 * q + 256) w.cells)
      unfolding is_trap
      trap-by-cells e t = let f = sym e ∙ t in rw (z, h, f) refl

  pub arrow-none : (r : Run) → is_trap w r.to ≡ true → arrow_unless_trap w q r ≡ []
  unfolding arrow_unless_trap
  arrow-none r e = if-true _ _ e

  pub arrow-one : (r : Run) → is_trap w r.to ≡ false → arrow_unless_trap w q r ≡ arrow q r
  unfolding arrow_unless_trap
  arrow-one r e = if-false _ _ e

  pub row-none : is_trap w q ≡ true → row_dot w q ≡ []
  unfolding row_dot
  row-none e = if-true _ _ e

  -- a row that is no trap
  pub row_one : is_trap w q ≡ false → row_dot w q ≡ decimal q ++ shape q (get_or w.marks q 0) ++ flat (map (arrow_unless_trap w q) (runs (slice (256 * q) (256 * q + 256) w.cells)))
  unfolding row_dot
  row_one e = if-false _ _ e
