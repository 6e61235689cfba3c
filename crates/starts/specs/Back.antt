-- What the pass from the text's end asks and says.
use Rattle.std.specs.Prelude.{◌≡◌, Bool, List, ℕ, ◌+◌, ◌*◌, ◌≤◌, length, drop}
use Rattle.rules.specs.Sizes.{rows_most, text_most}
use Rattle.rules.specs.Table.{Table}
use Rattle.ahead.specs.Ahead.{is_start, Flags}
use Rattle.starts.specs.declared.back.LookBack.{LookBack}

-- the pass has come down to s: the flags are those at `to`, at or past s
pub record Pass (w : Table) (t : List ℕ) (l : LookBack) (s : ℕ) : Type 0 where
  pub come : s ≤ l.to + 1
  pub inside : l.to ≤ length t
  pub cheap : l.spent ≤ rows_most * text_most
  pub flagged : Flags w (drop l.to t) l.flags

pub record Looked (w : Table) (t : List ℕ) (l : LookBack) (s : ℕ) (found : Bool) : Type 0 where
  pub answer : found ≡ is_start w t s
  pub past : s ≤ l.to
  pub pass : Pass w t l s
