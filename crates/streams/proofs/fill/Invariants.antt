use Rattle.std.proofs.Common.{length, ◌-◌, ◌≡◌, ◌≤◌}
use Rattle.streams.proofs.fill.Given as goal

-- `fill` meets its contract: each read fills a part of what is left of the buffer, and at least one byte of it.
abbrev pub invariant-loop-done : goal.invariant-loop-done
invariant-loop-done g l = (length l.buffer ≡ length l.initial.buffer) × (l.done ≤ length l.buffer)

abbrev pub decreases-loop-done : goal.decreases-loop-done
decreases-loop-done g l = length l.initial.buffer - l.done
