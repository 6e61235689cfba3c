-- What the steps of parting are given, in lists that are lent.
use Rattle.std.specs.Prelude.{List, ℕ, length}
use Rattle.rules.specs.Compiled.{classes}
use Rattle.grid.specs.Rows.{rows_of}
use Rattle.chains.specs.declared.Groups.{Groups}
use Rattle.stretches.specs.declared.Classes.{Classes}
use Rattle.parting.specs.Steps.{Named, Lists}
use Rattle.parting.specs.declared.Marked.{Marked}

-- the rows with their marks and columns
abbrev pub Named_in : Marked → Type 0
Named_in rows = Named rows.cells.now rows.marks.now rows.bytes.now (length rows.marks.now)

-- lists for n rows: classes, and groups
abbrev pub Lists_in : Classes → Groups → ℕ → Type 0
Lists_in classes groups n =
    Lists classes.order.now classes.place.now classes.class.now classes.start.now classes.end.now groups.seen.now groups.prior.now groups.last.now n

-- each row's class, named by its least row
abbrev pub class_names : Marked → List ℕ
class_names rows = classes (rows_of rows.cells.now (length rows.marks.now)) rows.marks.now
