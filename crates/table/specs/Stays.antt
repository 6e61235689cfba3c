-- A row that no byte leaves.
use Rattle.std.specs.Prelude.{◌≡◌, Bool, List, ℕ, ◌*◌, ◌<◌, eqb, take, drop}
use Rattle.rules.specs.Tools.{all}
use Rattle.rules.specs.Table.{Table, cell}

-- each of its 256 cells is the row itself
abbrev pub no_byte_leaves : List ℕ → ℕ → Bool
no_byte_leaves cells q = all (λ c. eqb c q) (take 256 (drop (256 * q) cells))

-- the same, byte by byte
abbrev pub Stays : Table → ℕ → Type 0
Stays w q = (b : ℕ) → b < 256 → cell w q b ≡ q
