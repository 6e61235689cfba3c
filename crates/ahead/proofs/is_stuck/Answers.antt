use mathlib.Core.Path.{sym, ◌∙◌}
use native.Mathlib.Omega.{arith}
use Rattle.table.proofs.StaysLaws.{stays}
use Rattle.ahead.proofs.is_stuck.Goals as goal

pub returns : goal.returns
returns c = λ e. record {
  stays = stays c.args.table.now.cells.now c.args.q.0 (omega arith) (sym c.no_byte_leaves.ensures ∙ e);
  barren = sym c.ends_here.ensures ∙ c.if-ends_here.false;
}
