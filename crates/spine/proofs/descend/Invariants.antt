use Prim.Native.Nat.{◌+◌, ◌≤◌}
use Rattle.spine.specs.Spine.{Down}
use Rattle.spine.proofs.descend.Given as goal

-- `descend`: what is passed so far leads from the part that ends at `end` to the one that ends at `at`, which is the measure.
abbrev pub invariant-loop-left_end : goal.invariant-loop-left_end
invariant-loop-left_end l =
    Down l.program l.spine l.passed l.initial.at l.initial.start.0 l.at l.start.0 × (1 ≤ l.at) × (l.at + l.passed ≤ l.initial.at) × (l.start.0 ≤ l.initial.start.0 + l.passed)

abbrev pub decreases-loop-left_end : goal.decreases-loop-left_end
decreases-loop-left_end l = l.at
