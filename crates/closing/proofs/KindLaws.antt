-- Nodes by their kinds: one that a tail edge leaves, and one that no edge leaves which could be crossed without a byte.
use mathlib.Core.Path.{◌≡◌, refl}
use mathlib.Core.Bool.{false}
use mathlib.Core.Logic.{◌⊎◌, inl, inr}
use native.Mathlib.Omega.{arith}
use denote.Enum.Bare.{sameb}
use Rattle.entries.specs.Entries.{kind_number}
use Rattle.entries.specs.contracts.Kind.{the_type}
use Rattle.entries.specs.declared.Kind.{Kind}
use Rattle.entries.specs.declared.Kind.TheVariants.{Last, Empty, Head, Tail, Bytes}

pub not-tail : (k : Kind) → false ≡ sameb the_type k Tail → kind_number k ≡ 3 → ⊥
not-tail Last n e = omega arith
not-tail Empty n e = omega arith
not-tail Head n e = omega arith
not-tail Tail n e = cc
not-tail Bytes n e = omega arith

pub last-or-bytes : (k : Kind) → (k ≡ Empty → ⊥) → (k ≡ Head → ⊥) → (k ≡ Tail → ⊥) → (k ≡ Last) ⊎ (k ≡ Bytes)
last-or-bytes Last e h t = inl refl
last-or-bytes Empty e h t = absurd (e refl)
last-or-bytes Head e h t = absurd (h refl)
last-or-bytes Tail e h t = absurd (t refl)
last-or-bytes Bytes e h t = inr refl
