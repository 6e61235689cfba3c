-- Whether a match lies ahead of a row where u is left of the text, where the last one ends, which starts there are from a place on,
-- and what the walks that find it out ask and say.
use Rattle.std.specs.Prelude.{◌≡◌, Bool, true, false, ◌||◌, List, [], ◌∷◌, ℕ, suc, ◌-◌, ◌≤◌, ◌<◌, length, get_or, drop}
use Rattle.std.proofs.Math.Option.{Option}
use Rattle.rules.specs.Tools.{kept, guard, or_else}
use Rattle.rules.specs.Sizes.{rows_most}
use Rattle.rules.specs.Table.{Table, cell, begins, fits, places}
use Rattle.table.specs.Stays.{Stays}
use Rattle.ahead.specs.declared.Walk.{Walk}

abbrev pub mark : Table → ℕ → ℕ
mark w q = get_or w.marks q 0

unfoldable pub ahead : Table → ℕ → List ℕ → Bool
ahead w q [] = fits (mark w q) true
ahead w q (b ∷ u) = fits (mark w q) false || ahead w (cell w q b) u

-- the last end of a match from row q at the place p, where u is left of the text
unfoldable pub last_end : Table → ℕ → ℕ → List ℕ → Option ℕ
last_end w q p [] = guard (fits (mark w q) true) p
last_end w q p (b ∷ u) = or_else (last_end w (cell w q b) (suc p) u) (guard (fits (mark w q) false) p)

abbrev pub is_start : Table → List ℕ → ℕ → Bool
is_start w t s = ahead w (begins w s) (drop s t)

unfoldable pub starts_from : Table → List ℕ → ℕ → List ℕ
starts_from w t s = kept (is_start w t) (places t s)

-- no byte leaves row q, and it makes no match
pub record Stuck (w : Table) (q : ℕ) : Type 0 where
  pub stays : Stays w q
  pub barren : fits (mark w q) true ≡ false

-- each row's flag, where u is left, and no flag past the rows
pub record Flags (w : Table) (u : List ℕ) (flags : List Bool) : Type 0 where
  pub of : (q : ℕ) → q < w.count → get_or flags q false ≡ ahead w q u
  pub rest : (q : ℕ) → w.count ≤ q → q < rows_most → get_or flags q false ≡ false

-- the stretch of a walk from row q, and the flags at its end
pub record Stretch (w : Table) (t : List ℕ) (flags : List Bool) (q from to : ℕ) : Type 0 where
  pub row : q < w.count
  pub forward : from ≤ to
  pub inside : to ≤ length t
  pub flagged : Flags w (drop to t) flags

pub record Walked (w : Table) (t : List ℕ) (q from to : ℕ) (r : Walk) : Type 0 where
  pub answer : r.found ≡ ahead w q (drop from t)
  pub few : r.steps ≤ to - from
