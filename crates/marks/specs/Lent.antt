-- Groups by marks, in lists that are lent.
use Rattle.std.specs.Prelude.{◌≡◌, List, ℕ, ◌<◌, length, get_or}
use Rattle.chains.specs.declared.Groups.{Groups}
use Rattle.marks.specs.Marks.{MarkedTo, ByMarks}

-- the first r rows are in groups by their marks
abbrev pub MarkedTo_in : List ℕ → List ℕ → Groups → ℕ → ℕ → Type 0
MarkedTo_in marks group groups count r = MarkedTo marks group groups.seen.now groups.prior.now groups.last.now (length marks) count r

-- rows of one class are in groups by their marks
abbrev pub ByMarks_in : List ℕ → Groups → ℕ → Type 0
ByMarks_in marks groups count =
    (class : List ℕ) → ((i j : ℕ) → i < length marks → j < length marks → get_or class i 0 ≡ get_or class j 0)
    → ByMarks marks class groups.seen.now groups.prior.now groups.last.now (length marks) count
