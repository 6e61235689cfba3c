-- What came of reading, and the buffer that was read into.
use Rattle.std.specs.Prelude.{List, ℕ, Result, Ok, Err}
use Rattle.io.specs.Counts.{IsPrefixLen}
use Rattle.streams.specs.declared.Unread.{Unread}

-- the bytes that were read are a beginning of the buffer
abbrev pub InputIn : Result ℕ Unread → List ℕ → Type 0
InputIn (Ok n) buffer = IsPrefixLen n buffer
InputIn (Err _) buffer = Unit {0}
