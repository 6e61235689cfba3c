-- A node that an edge on bytes leaves, by its kind.
use mathlib.Core.Path.{◌≡◌, refl}
use mathlib.Core.Bool.{true, false}
use native.Mathlib.Omega.{arith}
use denote.Enum.Bare.{sameb}
use Rattle.entries.specs.Entries.{kind_number}
use Rattle.entries.specs.contracts.Kind.{the_type}
use Rattle.entries.specs.declared.Kind.{Kind}
use Rattle.entries.specs.declared.Kind.TheVariants.{Last, Empty, Head, Tail, Bytes}

pub not-bytes : (k : Kind) → false ≡ sameb the_type k Bytes → kind_number k ≡ 4 → ⊥
not-bytes Last n e = omega arith
not-bytes Empty n e = omega arith
not-bytes Head n e = omega arith
not-bytes Tail n e = omega arith
not-bytes Bytes n e = cc

pub is-bytes : (k : Kind) → true ≡ sameb the_type k Bytes → kind_number k ≡ 4
is-bytes Last e = cc
is-bytes Empty e = cc
is-bytes Head e = cc
is-bytes Tail e = cc
is-bytes Bytes e = refl
