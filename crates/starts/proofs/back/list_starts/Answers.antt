use native.Mathlib.Omega.{arith}
use Rattle.table.specs.Lent.{lent_table}
use Rattle.starts.proofs.StartsLaws.{starts-most}
use Rattle.starts.proofs.back.list_starts.Goals as goal

pub overflow_cast-result : goal.overflow_cast-result
overflow_cast-result c = let S = c.args.search.now in
    omega (arith, c.list_back-count.ensures.value, starts-most (lent_table S.table) S.text.now, S.passed.short)
