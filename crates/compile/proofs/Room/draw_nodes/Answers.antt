use Rattle.std.proofs.lemmas.Result.{err_from_is_err_and}
use Rattle.compile.proofs.StageLaws.{refused-at, rows-refused, rows-mergeable, rows-drawn}
use Rattle.compile.proofs.Room.draw_nodes.Goals as goal

-- `draw_nodes`: the set rows are too many, or are listed and merged.
pub returns-in_err-count-clause-drew : goal.returns-in_err-count-clause-drew
returns-in_err-count-clause-drew c =
    let told = c.in_err-count.ensures in
    rw (refused-at c.list_rows-listed.result (err_from_is_err_and c.from_residual.result c.from_residual.ensures.1) told.value) (rows-refused _ _ (rw told.ok_part at c.list_rows-listed.ensures))

pub merge-rows-requires : goal.merge-rows-requires
merge-rows-requires c = rows-mergeable _ _ (rw c.in_ok-count.ensures.ok_part at c.list_rows-listed.ensures) c.requires

pub returns-clause-drew : goal.returns-clause-drew
returns-clause-drew c =
    rows-drawn _ _ (rw c.in_ok-count.ensures.ok_part at c.list_rows-listed.ensures) (c.merge-rows.ensures.cells_len_unchanged, c.merge-rows.ensures.stands)
