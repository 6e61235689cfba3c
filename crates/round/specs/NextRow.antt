-- The rows of a set, one after the other: what each step gives.
use Rattle.std.specs.Prelude.{◌≡◌, Option, Some, None, ℕ, ◌+◌}
use Rattle.round.specs.Members.{Next}
use Rattle.round.specs.declared.members.Members.{Members}

-- from where on rows are given next
abbrev pub after : Option ℕ → ℕ → ℕ
after None n = n
after (Some r) n = r + 1

-- a step gives the next row, and goes on after it
abbrev pub GivesNext : Members → Option ℕ → Members → Type 0
GivesNext rows found later = (later.set.now ≡ rows.set.now) × (later.n ≡ rows.n) × (later.from ≡ after found rows.n) × Next found rows.set.now rows.from rows.n
