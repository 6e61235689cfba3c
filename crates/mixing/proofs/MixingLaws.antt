-- How great a mixed number is.
use Prim.Native.Nat.{ℕ, ◌+◌, ◌*◌, ◌/◌, ◌%◌, ◌^◌, ◌<◌}
use native.Mathlib.Omega.{arith}
use Rattle.mixing.specs.Mixing.{mixed}

pub mixed_lt : (h : ℕ) → h < 2 ^ 64 → mixed h < 17293822569102704640
mixed_lt h l = parts (h % 2 ^ 32) (h / 2 ^ 32) (omega arith) (omega arith)
  where
    parts : (r q : ℕ) → r < 4294967296 → q < 4294967296 → r * 2654435761 + q < 17293822569102704640
    parts r q l m = omega arith
