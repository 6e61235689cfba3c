-- The way from a part down its left parts, by the rows and choices that are passed.
use Rattle.std.specs.Prelude.{◌≡◌, Bool, true, false, List, ℕ, zero, suc, ◌+◌, ◌-◌, get_or, Option, Some, None}
use Rattle.kinds.specs.declared.Node.{Node}
use Rattle.rules.specs.Nodes.{Frag, joined, forked}
use Rattle.program.specs.Program.{operation_at}
use Rattle.program.specs.declared.Op.{Op}
use Rattle.program.specs.declared.Op.TheVariants.{Nothing, Head, Tail, Dot, Class, Byte, InRow, Either, Repeated}

-- What an operation is to two parts; of one that is no row and no choice only that is asked.
pub record Joint : Type 0 where
  pub two : Bool  -- a row or a choice
  pub right : ℕ  -- the length of the right part
  pub before : ℕ  -- how many nodes come before the left part's
  pub makes : Frag → Frag → Frag

abbrev whole : Joint
whole = record { two = false; right = 0; before = 1; makes = forked }

abbrev pub joint : Op → Joint
joint Nothing = whole
joint Head = whole
joint Tail = whole
joint Dot = whole
joint Class = whole
joint (Byte b) = whole
joint (InRow n) = record { two = true; right = n; before = 0; makes = joined }
joint (Either n) = record { two = true; right = n; before = 1; makes = forked }
joint (Repeated k) = whole

-- under the operation o at i, of a part whose start node is b, the left part ends at d and starts at a
pub record Splits (o : Op) (i b d a : ℕ) : Type 0 where
  pub two : (joint o).two ≡ true
  pub ends : d ≡ i - (joint o).right
  pub starts : a ≡ b + (joint o).before

abbrev pub LeftOf : Op → ℕ → ℕ → Option (ℕ × Node) → Type 0
LeftOf o i b (Some p) = Splits o i b p.0 p.1.0
LeftOf o i b None = (joint o).two ≡ false

-- From the part that ends at e and starts at b, past the operations at the first k places of the spine s, one comes to the part that
-- ends at d and starts at a.
abbrev pub Down : List ℕ → List ℕ → ℕ → ℕ → ℕ → ℕ → ℕ → Type 0
Down p s zero e b d a = (d ≡ e) × (a ≡ b)
Down p s (suc k) e b d a = (n : ℕ) × Down p s k e b (suc (get_or s k 0)) n × Splits (operation_at p (get_or s k 0)) (get_or s k 0) n d a
