-- What the rounds are given and leave, in lists that are lent.
use Rattle.std.specs.Prelude.{List, ℕ, length}
use Rattle.rules.specs.Grid.{Grid}
use Rattle.grid.specs.Rows.{rows_of}
use Rattle.chains.specs.declared.Groups.{Groups}
use Rattle.stretches.specs.declared.Classes.{Classes}
use Rattle.round.specs.Groups.{Sorted}
use Rattle.waiting.specs.Refined.{Refined}
use Rattle.settling.specs.Settling.{Drawn, Scratch, MarksTell, Settled}
use Rattle.settling.specs.declared.Paths.{Paths}

-- n rows with their columns, and the rows that lead to each
abbrev pub Drawn_in : Paths → ℕ → Type 0
Drawn_in paths n = Drawn paths.cells.now paths.bytes.now paths.preds.now n

-- scratch for n rows
abbrev pub Scratch_in : Groups → List ℕ → List ℕ → List ℕ → ℕ → Type 0
Scratch_in groups firsts links touched n = Scratch groups.seen.now groups.prior.now groups.last.now firsts links touched n

-- the rows that lead to a class from the number `from` on are in groups
abbrev pub Sorted_in : Paths → Classes → Groups → ℕ → ℕ → Type 0
Sorted_in paths classes groups from count =
    Sorted paths.cells.now classes.class.now classes.start.now classes.end.now groups.seen.now groups.prior.now groups.last.now from count

-- what a round leaves of the classes
abbrev pub Refined_in : Paths → Classes → Classes → ℕ → ℕ → Type 0
Refined_in paths old new from many = Refined paths.cells.now old.class.now new.class.now (length old.order.now) from many

-- by whichever marks the classes were made at first, they are those of the rules
abbrev pub Settled_in : Paths → Classes → Classes → ℕ → Type 0
Settled_in paths old new n = (marks : List ℕ) → Grid (rows_of paths.cells.now n) marks → MarksTell marks old.class.now n → Settled paths.cells.now marks new.class.now n
