-- Classes by marks at first, and all steps one after the other.
use mathlib.Core.Path.{◌≡◌, ◌∙◌}
use mathlib.Core.List.{List}
use Prim.Native.Nat.{ℕ, ◌≤◌, ◌<◌}
use native.Mathlib.Omega.{arith}
use lib.ListN.{length, get_or}
use Rattle.rules.specs.Grid.{Grid}
use Rattle.rules.specs.Compiled.{classes}
use Rattle.columns.specs.Columns.{Columns}
use Rattle.grid.specs.Rows.{rows_of}
use Rattle.grid.proofs.GridLaws.{rows_in}
use Rattle.stretches.proofs.StretchLaws.{of_row}
use Rattle.chains.specs.Lent.{Labelled_in, Grouped_in}
use Rattle.chains.specs.declared.Groups.{Groups}
use Rattle.stretches.specs.Lent.{Placed_in, Stretches_in}
use Rattle.stretches.specs.declared.Classes.{Classes}
use Rattle.cutting.specs.Cutting.{CutTo}
use Rattle.cutting.specs.Lent.{Standing_in, CutTo_in}
use Rattle.cutting.proofs.CutLaws.{cut-whole}
use Rattle.marks.specs.Marks.{ByMarks}
use Rattle.marks.specs.Lent.{ByMarks_in}
use Rattle.naming.specs.Naming.{LeastOf}
use Rattle.settling.specs.Settling.{MarksTell, Settled}
use Rattle.parting.specs.Room.{Room}
use Rattle.parting.specs.Steps.{Named}

-- ---- at first

pub begun : (new : Classes) {m n : ℕ} → m ≡ n → Placed_in new m × Stretches_in new m 1 → (length new.order.now ≡ n) × Standing_in new (length new.order.now) 1
begun new e P = (P.0.order-long ∙ e, rw P.0.order-long (record { placed = P.0; stretches = P.1 }))

-- all rows were of one class, and are cut by their marks
module _ (marks : List ℕ) (old : Classes) (groups : Groups) {count : ℕ} (long : length old.order.now ≡ length marks)
    (S : Standing_in old (length old.order.now) 1) (M : ByMarks_in marks groups count) where
  one_class : (i j : ℕ) → i < length marks → j < length marks → get_or old.class.now i 0 ≡ get_or old.class.now j 0
  one_class i j li lj = omega (arith, (of_row S.placed S.stretches i (omega arith)).0, (of_row S.placed S.stretches j (omega arith)).0)

  abbrev by-marks : ByMarks marks old.class.now groups.seen.now groups.prior.now groups.last.now (length marks) count
  by-marks = M old.class.now one_class

  abbrev marks-labelled : Labelled_in by-marks.label old.class.now groups (length old.order.now) by-marks.count count
  marks-labelled = rw long by-marks.labelled

  pub marks-grouped : Grouped_in old.class.now groups (length old.order.now) count
  marks-grouped = record { label = by-marks.label; count = by-marks.count; labelled = marks-labelled }

  pub marks-tell : (new : Classes) {m : ℕ} → CutTo_in old new groups (length old.order.now) count 1 m → MarksTell marks new.class.now (length marks) × (1 ≤ m)
  marks-tell new {m} C = (
    record {
      like = λ i j li lj q. by-marks.like i j li lj (cut-whole by-marks.labelled cut i j li lj q);
      fair = λ i j li lj q. cut.fair i j li lj (one_class i j li lj) (by-marks.fair i j li lj q);
    },
    cut.more,
  )
    where
      cut : CutTo by-marks.label old.class.now new.class.now (length marks) count 1 m
      cut = rw long at (C by-marks.label by-marks.count marks-labelled)

-- ---- all steps

pub named_rows : {cells marks bytes preds class number order touched : List ℕ} {n : ℕ} → Grid (rows_of cells n) marks → Room cells preds class number order touched n → Columns cells bytes n
    → Named cells marks bytes n
named_rows {cells} {n = n} G R C = record { grid = G; rows = rows_in cells n G R.few R.cells-long; columns = C }

-- the least rows of settled classes
pub settled-names : {cells marks number class : List ℕ} {n : ℕ} → Settled cells marks number n → length class ≡ n → ((i : ℕ) → i < length number → LeastOf number i (get_or class i 0))
    → class ≡ classes (rows_of cells n) marks
settled-names {class = class} S e h = S.least class e (λ i l. h i (omega (arith, S.long)))
