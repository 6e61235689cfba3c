-- Answers as numbers: 0 for a match, 1 for none, and a refusal's number.
use Rattle.std.specs.Prelude.{Bool, true, false, ℕ, get_or}
use Rattle.std.proofs.Math.Option.{Option, none, some}
use Rattle.rules.specs.Answers.{Answer, refused, given}

abbrev pub whole_code : Answer Bool → ℕ
whole_code (refused r) = r.number
whole_code (given true) = 0
whole_code (given false) = 1

abbrev pub longest_code : Answer (Option ℕ) → ℕ
longest_code (refused r) = r.number
longest_code (given none) = 1
longest_code (given (some e)) = 0

-- what then stands in the lent number: the end, or what stood there
abbrev pub longest_end : ℕ → Answer (Option ℕ) → ℕ
longest_end old (refused r) = old
longest_end old (given none) = old
longest_end old (given (some e)) = e

abbrev pub first_code : Answer (Option (ℕ × ℕ)) → ℕ
first_code (refused r) = r.number
first_code (given none) = 1
first_code (given (some x)) = 0

-- the start and the end of the first match, or what stood there
abbrev pub first_start : ℕ → Answer (Option (ℕ × ℕ)) → ℕ
first_start old (refused r) = old
first_start old (given none) = old
first_start old (given (some x)) = x.0

abbrev pub first_end : ℕ → Answer (Option (ℕ × ℕ)) → ℕ
first_end old (refused r) = old
first_end old (given none) = old
first_end old (given (some x)) = x.1

-- 0 for a list of starts, or a refusal's number
abbrev pub starts_code : Answer ℕ → ℕ
starts_code (refused r) = r.number
starts_code (given n) = 0

-- the number of starts, also where they have too few places, or what stood there
abbrev pub starts_count : ℕ → Answer ℕ → ℕ
starts_count old (refused r) = get_or r.values 0 old
starts_count old (given n) = n

-- 0 for a table, or a refusal's number
abbrev pub compile_code : Answer (ℕ × ℕ) → ℕ
compile_code (refused r) = r.number
compile_code (given x) = 0

-- the rows and the head row of a table, or what stood there
abbrev pub compile_rows : ℕ → Answer (ℕ × ℕ) → ℕ
compile_rows old (refused r) = old
compile_rows old (given x) = x.0

abbrev pub compile_head : ℕ → Answer (ℕ × ℕ) → ℕ
compile_head old (refused r) = old
compile_head old (given x) = x.1

-- the place of a refusal, or what stood there
abbrev pub compile_place : ℕ → Answer (ℕ × ℕ) → ℕ
compile_place old (refused r) = r.place
compile_place old (given x) = old

-- 0 for a whole text in the buffer, 1 for the beginning of a longer one, and a refusal's number
abbrev pub text_code : Answer (Bool × ℕ) → ℕ
text_code (refused r) = r.number
text_code (given (true, n)) = 0
text_code (given (false, n)) = 1

-- the text's length, or what stood there
abbrev pub text_length : ℕ → Answer (Bool × ℕ) → ℕ
text_length old (refused r) = old
text_length old (given x) = x.1
