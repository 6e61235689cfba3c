-- A reading loop carries on from a tree that is written: what is read from here is read from there.
use mathlib.Core.Path.{◌≡◌}
use mathlib.Core.List.{List}
use Prim.Native.Nat.{ℕ}
use lib.ListN.{take}
use Rattle.rules.specs.Tree.{Tree}
use Rattle.program.specs.Program.{Program}
use Rattle.reader.specs.Says.{Answer, Mode, Says}

-- a reading loop that began at at₀ after the tree X₀ has come to `at`, with the program of its tree from `start` up to n
pub record Going (g : Tree → Mode) (p : List ℕ) (d at₀ at start n : ℕ) (X₀ : Tree) (old new : List ℕ) : Type 0 where
  pub tree : Tree
  pub wrote : Program new tree start n
  pub kept : take start new ≡ take start old
  pub back : (r : Answer) → Says (g tree) p at d r → Says (g X₀) p at₀ d r
