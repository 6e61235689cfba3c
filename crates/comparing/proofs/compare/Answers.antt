use mathlib.Core.Path.{◌≡◌, sym, ap, subst, ◌∙◌}
use mathlib.Core.List.{List}
use Prim.Native.Nat.{ℕ, ◌+◌, ◌-◌}
use native.Mathlib.Omega.{arith}
use lib.ListN.{length, take, drop}
use Rattle.findings.specs.Lent.{said_of_finding}
use Rattle.findings.specs.declared.Finding.{Finding}
use Rattle.comparing.specs.Lines.{line_end_in, line_of, second_of}
use Rattle.comparing.specs.Comparison.{said_of_lines, comparison}
use Rattle.comparing.proofs.LineLaws.{after-end, lines_long, lines_more, lines-one}
use Rattle.comparing.proofs.compare.Goals as goal
use Rattle.comparing.proofs.compare.Goals.{Start}

-- the first line, and what comes after it, when the line ends at the place n
abbrev Says : Start → Finding → ℕ → Type 0
Says S r n = let s : List ℕ = S.args.input.now in said_of_finding r ≡ said_of_lines (second_of (take n s) (take (length s - (n + 1)) (drop (n + 1) s)))

-- `compare` meets its contract: the three cases of a first line.
pub returns-then-end-gt-PATTERN_MOST : goal.returns-then-end-gt-PATTERN_MOST
unfolding comparison
returns-then-end-gt-PATTERN_MOST c =
    sym (ap said_of_lines (lines_long c.args.input.now (omega arith)))

pub returns-then-input-end : goal.returns-then-input-end
unfolding comparison
returns-then-input-end c =
    sym (ap said_of_lines (lines-one c.args.input.now (omega arith) (omega arith)))

pub returns : goal.returns
unfolding comparison
returns c =
    let s : List ℕ = c.args.input.now in
    subst (Says (goal.at.returns c).Start c.compare_second.result) c.line_end-end.ensures c.compare_second.ensures
    ∙ ap said_of_lines (ap (second_of (line_of s)) (after-end s (line_end_in s)) ∙ sym (lines_more s (omega arith) (omega arith)))
