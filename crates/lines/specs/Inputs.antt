-- A pattern as it comes from an input.
use Rattle.std.specs.Prelude.{◌≡◌, List, ℕ}
use Rattle.std.specs.Borrow.{Bor}
use Rattle.rules.specs.Listing.{without_line_end}

-- r is a part of the input t, from its place 0 on, and holds all but one final byte 10
pub record PatternPart (t r : Bor (List ℕ)) : Type 0 where
  pub block : r.ref_ptr.0 ≡ t.ref_ptr.0
  pub place : r.ref_ptr.1 ≡ t.ref_ptr.1
  pub bytes : r.now ≡ without_line_end t.now
