-- A part of a program.
use Rattle.std.specs.Prelude.{List, ℕ}
use Rattle.rules.specs.Tree.{Tree}
use Rattle.program.specs.Program.{Program}

-- the part of the program p that ends at e is a tree's
pub record Part (p : List ℕ) (e : ℕ) : Type 0 where
  pub tree : Tree
  pub start : ℕ
  pub is : Program p tree start e
