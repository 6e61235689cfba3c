-- The part of the text that is handed back.
use Rattle.std.specs.Prelude.{◌≡◌, List, ℕ, ◌+◌}
use Rattle.std.specs.Borrow.{Bor}
use Rattle.rules.specs.Matchers.{Part}

-- r lies in the text t where the part o says, holds its bytes, and comes with its number
pub record HandsBack (t r : Bor (List ℕ)) (number : ℕ) (o : Part) : Type 0 where
  pub outcome : number ≡ o.number
  pub block : r.ref_ptr.0 ≡ t.ref_ptr.0
  pub place : r.ref_ptr.1 ≡ t.ref_ptr.1 + o.place
  pub bytes : r.now ≡ o.part
