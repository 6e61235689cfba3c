-- The test whether two tables are the same, and what is said then.
use mathlib.Core.Path.{◌≡◌, refl, sym, ◌∙◌}
use mathlib.Core.Bool.{Bool, true, false, ◌&&◌}
use Prim.Native.Nat.{◌*◌}
use borrow.Author.Tests.{eq-eqb, ne_eqb}
use lib.Dec.{eqb}
use lib.ListN.{take}
use lib.Pointwise.{pointwise}
use Rattle.std.specs.Prelude.{nat_eq}
use Rattle.rules.specs.Table.{Table, same_table}
use Rattle.rules.specs.Answers.{given}
use Rattle.table.specs.declared.Lent.{Lent}
use Rattle.writing.proofs.Cases.{if-true, if-false}
use Rattle.findings.specs.Lent.{front_table}
use Rattle.findings.specs.Said.{same_text, different_text, said_of_answers}
use Rattle.findings.proofs.ByPlace.{same-pointwise}

module _ (t o : Lent) where
  pub counts-apart : (t.rows ≡ o.rows → ⊥) → same_table (front_table t) (front_table o) ≡ false
  unfolding same_table
  counts-apart n = rw (ne_eqb t.rows o.rows n) refl

  -- the marks of both, and their cells, are cut by the one number of rows
  module _ (counts : t.rows ≡ o.rows) where
    abbrev alike : Bool → Bool → Bool
    alike heads marks = heads && (marks && pointwise nat_eq (take (256 * t.rows) t.cells.now) (take (256 * t.rows) o.cells.now))

    parts : same_table (front_table t) (front_table o) ≡ alike (eqb t.head.0 o.head.0) (pointwise nat_eq (take t.rows t.marks.now) (take t.rows o.marks.now))
    unfolding same_table
    parts =
        rw
        (sym counts, eq-eqb t.rows t.rows refl, same-pointwise (take t.rows t.marks.now) (take t.rows o.marks.now), same-pointwise (take (256 * t.rows) t.cells.now) (take (256 * t.rows) o.cells.now))
        refl

    pub heads-apart : eqb t.head.0 o.head.0 ≡ false → same_table (front_table t) (front_table o) ≡ false
    heads-apart h = parts ∙ rw h refl

    module _ (heads : eqb t.head.0 o.head.0 ≡ true) where
      pub marks-apart : pointwise nat_eq (take t.rows t.marks.now) (take t.rows o.marks.now) ≡ false → same_table (front_table t) (front_table o) ≡ false
      marks-apart m = parts ∙ rw (heads, m) refl

      pub cells_left : pointwise nat_eq (take t.rows t.marks.now) (take t.rows o.marks.now) ≡ true
          → same_table (front_table t) (front_table o) ≡ pointwise nat_eq (take (256 * t.rows) t.cells.now) (take (256 * t.rows) o.cells.now)
      cells_left m = parts ∙ rw (heads, m) refl

-- what is said of two tables
module _ (w v : Table) {b : Bool} (e : b ≡ same_table w v) where
  pub said_same : b ≡ true → same_text ≡ said_of_answers (given w) (given v)
  unfolding said_of_answers
  said_same t = sym (if-true _ _ (sym e ∙ t))

  pub said-different : b ≡ false → different_text ≡ said_of_answers (given w) (given v)
  unfolding said_of_answers
  said-different t = sym (if-false _ _ (sym e ∙ t))
