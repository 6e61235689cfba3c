-- Numbers mixed, and the bucket of what is mixed.
use Rattle.std.specs.Prelude.{ℕ, ◌+◌, ◌*◌, ◌/◌, ◌%◌, ◌^◌}

abbrev pub buckets : ℕ
buckets = 1024

abbrev pub mixed : ℕ → ℕ
mixed h = h % 2 ^ 32 * 2654435761 + h / 2 ^ 32

abbrev pub bucket_for : ℕ → ℕ
bucket_for h = mixed h / 2 ^ 32 % buckets
