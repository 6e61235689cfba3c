use mathlib.Core.Path.{◌≡◌}
use Prim.Native.Nat.{◌+◌, ◌*◌, ◌-◌, ◌≤◌}
use lib.ListN.{length}
use Rattle.rules.specs.Tree.{Tree}
use Rattle.program.specs.Program.{Program}
use Rattle.reader.specs.Says.{pieces, branches}
use Rattle.reader.proofs.GoingLaws.{Going}
use Rattle.reader.proofs.tree.+reading.Given as goal

abbrev pub decreases-read_atom : goal.decreases-read_atom
decreases-read_atom l = 8 * (length l.p.now - l.at) + 1

abbrev pub decreases-read_branch : goal.decreases-read_branch
decreases-read_branch l = 8 * (length l.p.now - l.from) + 4

abbrev pub decreases-read_branches : goal.decreases-read_branches
decreases-read_branches l = 8 * (length l.p.now - l.from) + 6

abbrev pub decreases-read_piece : goal.decreases-read_piece
decreases-read_piece l = 8 * (length l.p.now - l.at) + 2

abbrev pub invariant-read_branch-reading : goal.invariant-read_branch-reading
invariant-read_branch-reading l =
    (l.from + 1 ≤ l.at) ×
    (l.at ≤ length l.p) ×
    (l.n + 2 * (length l.p - l.at) ≤ l.start + 2 * (length l.p - l.from)) ×
    (length l.program ≡ length l.initial.program) ×
    (l.start + 1 ≤ l.n) ×
    ((X : Tree) →
    Program l.initial.program X l.start l.initial.n →
    Going pieces l.p l.groups l.initial.at l.at l.start l.n X l.initial.program l.program)

abbrev pub decreases-read_branch-reading : goal.decreases-read_branch-reading
decreases-read_branch-reading l = length l.p - l.at

abbrev pub invariant-read_branches-reading : goal.invariant-read_branches-reading
invariant-read_branches-reading l =
    (l.from ≤ l.at) ×
    (l.at ≤ length l.p) ×
    (l.n + 2 * (length l.p - l.at) ≤ l.start + 2 * (length l.p - l.from) + 1) ×
    (length l.program ≡ length l.initial.program) ×
    (l.start + 1 ≤ l.n) ×
    ((X : Tree) →
    Program l.initial.program X l.start l.initial.n →
    Going branches l.p l.groups l.initial.at l.at l.start l.n X l.initial.program l.program)

abbrev pub decreases-read_branches-reading : goal.decreases-read_branches-reading
decreases-read_branches-reading l = length l.p - l.at
