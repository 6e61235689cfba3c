use Rattle.std.proofs.lemmas.Result.{err_from_is_err_and}
use Rattle.compile.proofs.StageLaws.{pattern-refused, program-drawn}
use Rattle.compile.proofs.Room.draw_pattern.Goals as goal

-- `draw_pattern`: the pattern is turned away, or its program is drawn.
pub returns-in_err-len-clause-drew : goal.returns-in_err-len-clause-drew
returns-in_err-len-clause-drew c =
    let p = err_from_is_err_and c.from_residual.result c.from_residual.ensures.1 in
    rw (p.1, p.2) (pattern-refused c.args.pattern.now c.in_err-len.ensures)

pub returns-clause-drew : goal.returns-clause-drew
returns-clause-drew c = program-drawn c.in_ok-len.ensures c.draw_program.ensures.drew
