-- Reading on: what is left of the text leads to the same row, and has the same last end.
use Rattle.std.specs.Prelude.{◌≡◌, List, ℕ, ◌≤◌, ◌<◌, length, drop}
use Rattle.std.specs.Prelude as std
use Rattle.std.proofs.Math.Option.{Option, none, some}
use Rattle.rules.specs.Tools.{or_else}
use Rattle.rules.specs.Table.{Table, after}
use Rattle.ahead.specs.Ahead.{last_end}
use Rattle.ends.specs.declared.Reading.{Reading}

-- the text leads from row q at p to where it leads from row r at e
pub record LeadsOn (w : Table) (t : List ℕ) (q p r e : ℕ) : Type 0 where
  pub row : r < w.count
  pub same : after w q (drop p t) ≡ after w r (drop e t)

-- the last end that was passed, if there is one
abbrev pub end_of : std.Option ℕ → Option ℕ
end_of std.None = none
end_of (std.Some e) = some e

-- the last end of all: one that is still ahead, or the last that was passed
abbrev pub last_of : Table → List ℕ → Reading → Option ℕ
last_of w t r = or_else (last_end w r.row.0 r.at (drop r.at t)) (end_of r.found)

pub record FindsOn (w : Table) (t : List ℕ) (old new : Reading) : Type 0 where
  pub row : new.row.0 < w.count
  pub within : new.at ≤ length t
  pub same : last_of w t old ≡ last_of w t new
