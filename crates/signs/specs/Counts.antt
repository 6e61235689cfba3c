-- The parts of a count.
use Rattle.std.specs.Prelude.{List, ℕ, ◌-◌, leb}
use Rattle.std.proofs.Math.Option.{Option, some}
use Rattle.rules.specs.Tools.{◌>>=◌, guard, or_else}
use Rattle.rules.specs.Sizes.{count_most}
use Rattle.rules.specs.Tree.{Repeat, times, at_least}
use Rattle.rules.specs.Reader.{past, number}

-- a number and the place after it, unless it is over the most
abbrev pub limited : ℕ → ℕ → Option (ℕ × ℕ)
limited n next = guard (leb n count_most) (n, next)

-- what may follow `{m,`
unfoldable pub top : ℕ → List ℕ → Option (Repeat × List ℕ)
top m v =
    or_else (past 125 v >>= λ x. some (at_least m, x)) (number v >>= λ (n, x). past 125 x >>= λ y. guard (leb m n) (times m (n - m), y))
