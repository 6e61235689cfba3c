use mathlib.Core.Path.{◌≡◌}
use lib.ListN.{take}
use Rattle.rules.specs.Table.{is_mark}
use Rattle.rules.specs.Tools.{all}
use Rattle.table.proofs.marks_only.Given as goal

-- every mark that was passed is 0, 2 or 3 exactly if `good`
abbrev pub invariant-loop-mark : goal.invariant-loop-mark
invariant-loop-mark l = l.good ≡ all is_mark (take l.mark-index l.marks)
