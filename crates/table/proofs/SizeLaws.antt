-- What the first tests of a table's numbers decide.
use mathlib.Core.Path.{◌≡◌}
use mathlib.Core.Bool.{false}
use Prim.Native.Nat.{◌<◌}
use native.Mathlib.Omega.{arith}
use Rattle.rules.specs.Sizes.{rows_most}
use Rattle.rules.specs.Table.{Table, well_formed}
use Rattle.rules.proofs.TableLaws.{not-formed}

-- a table with more rows than there may be is not well formed
pub many_rows : (w : Table) → rows_most < w.count → false ≡ well_formed w
many_rows w h = not-formed w (λ g. omega arith)
