use mathlib.Core.Path.{◌∙◌}
use Rattle.std.proofs.lemmas.Result.{err_from_is_err_and}
use Rattle.comparing.proofs.Drawn.{table-drawn, table-formed, refusal-drawn, drawn-all}
use Rattle.comparing.proofs.compile_in.Goals as goal

pub returns-in_err-drawn-clause-drawn : goal.returns-in_err-drawn-clause-drawn
returns-in_err-drawn-clause-drawn c =
    let p = err_from_is_err_and c.from_residual.result c.from_residual.ensures.1 in
    rw (p.1, p.2) (refusal-drawn c.compile.ensures c.in_err-drawn.was ∙ drawn-all c.args.pattern.now _ _ _ c.requires)

pub returns-clause-drawn : goal.returns-clause-drawn
returns-clause-drawn c = table-drawn c.compile.ensures c.in_ok-drawn.was ∙ drawn-all c.args.pattern.now _ _ _ c.requires

pub returns-clause-holds : goal.returns-clause-holds
returns-clause-holds c = let h = table-formed c.compile.ensures c.in_ok-drawn.was in record { marks-long = h.0; cells-long = h.1 }
