use mathlib.Core.Path.{◌∙◌}
use lib.Dec.{eqb}
use Rattle.std.proofs.Common.{rules, tests}
use Rattle.std.proofs.lemmas.Iterator.{YieldsList-from_slice}
use Rattle.std.proofs.lemmas.Iterator.Search.{position_from_yields_List}
use Rattle.comparing.proofs.LineLaws.{end-or-length}
use Rattle.comparing.proofs.line_end.Goals as goal

pub returns : goal.returns
returns c =
    c.unwrap_or.ensures
    ∙ end-or-length c.args.text.now c.position.result
    (position_from_yields_List (λ b. eqb b 10) _ _ c.position.result c.position.ensures.ran (YieldsList-from_slice c.args.text.now (cc)) (λ x b q k. search (rules, tests)))
