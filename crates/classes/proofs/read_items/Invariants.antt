use mathlib.Core.Path.{◌≡◌}
use mathlib.Core.List.{List}
use mathlib.Core.Option.{Option}
use Prim.Native.Nat.{ℕ, ◌-◌, ◌≤◌}
use lib.ListN.{length, drop}
use Rattle.bytesets.specs.ByteSets.{bytes_of}
use Rattle.classes.specs.Classes.{all_items}
use Rattle.classes.proofs.ClassLaws.{ItemsFrom}
use Rattle.classes.proofs.read_items.Given as goal

-- `read_items`: what is read from here on is read from the start on.
abbrev pub invariant-items : goal.invariant-items
invariant-items l = (l.from ≤ l.at) × (l.at ≤ length l.p) × ((r : Option (ℕ × List ℕ)) → ItemsFrom l.p l.at (bytes_of l.set) r → r ≡ all_items (drop l.from l.p))

abbrev pub decreases-items : goal.decreases-items
decreases-items l = length l.p - l.at
