use mathlib.Core.Path.{sym, ap, ◌∙◌}
use native.Mathlib.Omega.{arith}
use lib.ListN.{length-take}
use Rattle.comparing.specs.Comparison.{said_of_lines}
use Rattle.comparing.proofs.LineLaws.{end-within, second-long, second-over, second_more}
use Rattle.comparing.proofs.compare_second.Goals as goal
use Rattle.comparing.proofs.compare_second.Goals.{else-end-le-PATTERN_MOST-via-then-end-le-PATTERN_MOST+else-end-rest, else-end-le-PATTERN_MOST-via-else-end-le-PATTERN_MOST}

pub returns-then-end-rest : goal.returns-then-end-rest
returns-then-end-rest c = sym (ap said_of_lines (second_more c.args.first.now c.args.rest.now (omega arith) (omega arith)))

pub slice_bounds-compare_patterns-end : goal.slice_bounds-compare_patterns-end
slice_bounds-compare_patterns-end c = simp length-take (omega (arith, end-within c.args.rest.now))

pub returns : goal.returns
returns c =
    let said = rw c.line_end-end.ensures at c.compare_patterns.ensures in
    elim c.else-end-le-PATTERN_MOST.branch [
      | else-end-le-PATTERN_MOST-via-then-end-le-PATTERN_MOST+else-end-rest w ↦ said ∙ sym (ap said_of_lines (second-over c.args.first.now c.args.rest.now (omega arith) (omega arith)))
      | else-end-le-PATTERN_MOST-via-else-end-le-PATTERN_MOST w ↦ said ∙ sym (ap said_of_lines (second-long c.args.first.now c.args.rest.now (omega arith)))
    ]
