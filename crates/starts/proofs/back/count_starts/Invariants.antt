use mathlib.Core.Path.{◌≡◌}
use lib.ListN.{length}
use Rattle.table.specs.Lent.{lent_table}
use Rattle.ahead.specs.Ahead.{starts_from}
use Rattle.starts.specs.Back.{Pass}
use Rattle.starts.proofs.back.count_starts.Given as goal

abbrev pub invariant-loop-s : goal.invariant-loop-s
invariant-loop-s l = record {
  pass : Pass (lent_table l.search.table) l.search.text.now l.back l.s;
  counted : l.count ≡ length (starts_from (lent_table l.search.table) l.search.text.now l.s);
}
