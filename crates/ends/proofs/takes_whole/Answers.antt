use mathlib.Core.Path.{sym, ◌∙◌}
use native.Mathlib.Omega.{arith}
use Rattle.table.proofs.CheckLaws.{well}
use Rattle.ends.proofs.ReadingLaws.{leads-whole}
use Rattle.ends.proofs.takes_whole.Goals as goal

pub bounds-checked-q : goal.bounds-checked-q
bounds-checked-q c = let g = well c.args.checked.now.passed in
    omega arith

pub returns : goal.returns
returns c = c.ends_here.ensures ∙ sym (leads-whole c.last_row-q.ensures)
