-- What every matcher asks first.
use Rattle.std.specs.Prelude.{◌≡◌, true, List, ℕ, ◌≤◌, ◌<◌, length, get_or}
use Rattle.rules.specs.Sizes.{text_most}
use Rattle.rules.specs.Table.{Table, well_formed}
use Rattle.rules.specs.Answers.{refused, given}
use Rattle.rules.specs.Matchers.{checked}
use Rattle.kinds.specs.declared.Refusal.{Refusal}
use Rattle.kinds.specs.Refusals.{refusal_of}

-- the table or the text is turned away, whatever is asked of them
abbrev pub IsTurnedAway : Table → List ℕ → Refusal → Type 0
IsTurnedAway w t r = checked w t (given true) ≡ refused (refusal_of r)

-- neither the table nor the text is turned away
pub record Passed (w : Table) (t : List ℕ) : Type 0 where
  pub formed : well_formed w ≡ true
  pub short : length t ≤ text_most
  pub bytes : (i : ℕ) → get_or t i 0 < 256
