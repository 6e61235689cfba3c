-- What each case of an answer says.
use Rattle.std.specs.Prelude.{Bool, true, false, List, ℕ, Result, Ok, Err}
use Rattle.std.specs.Prelude as std
use Rattle.std.proofs.Math.Option.{Option, none, some}
use Rattle.rules.specs.Answers.{Answer, refused, given}
use Rattle.rules.specs.Matchers.{Listed}
use Rattle.kinds.specs.declared.Refusal.{Refusal}
use Rattle.kinds.specs.Refusals.{refusal_of}
use Rattle.answers.specs.declared.Drawn.{Drawn}
use Rattle.answers.specs.declared.Written.{Written}
use Rattle.answers.specs.declared.Written.TheVariants as written

-- the rows and the head row of a table
abbrev pub compiled_of : Result Drawn Refusal → Answer (ℕ × ℕ)
compiled_of (Err r) = refused (refusal_of r)
compiled_of (Ok d) = given (d.rows, d.head.0)

abbrev pub whole_of : Result Bool Refusal → Answer Bool
whole_of (Err r) = refused (refusal_of r)
whole_of (Ok b) = given b

-- the end of the longest match
abbrev pub longest_of : Result (std.Option ℕ) Refusal → Answer (Option ℕ)
longest_of (Err r) = refused (refusal_of r)
longest_of (Ok (std.Some e)) = given (some e)
longest_of (Ok std.None) = given none

-- the start and the end of the first match
abbrev pub first_of : Result (std.Option (ℕ × ℕ)) Refusal → Answer (Option (ℕ × ℕ))
first_of (Err r) = refused (refusal_of r)
first_of (Ok (std.Some x)) = given (some x)
first_of (Ok std.None) = given none

-- how many starts stand in the list
abbrev pub starts_of : Result ℕ Refusal → Answer ℕ
starts_of (Err r) = refused (refusal_of r)
starts_of (Ok n) = given n

-- the answer of all starts, and what then stands in the list
abbrev pub listed_of : Result ℕ Refusal → List ℕ → Listed
listed_of r list = record { answer = starts_of r; list = list }

-- whether the whole text stands in the buffer, and the text's length
abbrev pub written_of : Written → Bool × ℕ
written_of (written.Whole n) = (true, n)
written_of (written.Beginning n) = (false, n)

abbrev pub text_of : Result Written Refusal → Answer (Bool × ℕ)
text_of (Err r) = refused (refusal_of r)
text_of (Ok w) = given (written_of w)
