-- Two tables in lent room, and what each case of a finding says.
use Rattle.std.specs.Prelude.{List, ◌++◌, ℕ, ◌*◌, ◌≤◌, Result, Ok, Err, length, take}
use Rattle.rules.specs.Table.{Table}
use Rattle.rules.specs.Answers.{Answer, refused, given}
use Rattle.kinds.specs.Refusals.{refusal_of}
use Rattle.kinds.specs.declared.Refusal.{Refusal}
use Rattle.table.specs.declared.Lent.{Lent}
use Rattle.findings.specs.Said.{same_text, different_text, expected_text, refused_line}
use Rattle.findings.specs.declared.Finding.{Finding}
use Rattle.findings.specs.declared.Finding.TheVariants.{Same, Different, First, Second, Both, NotTwo}

-- the table at the front of lent marks and cells, less what is past its rows
abbrev pub front_table : Lent → Table
front_table t = record { count = t.rows; head = t.head.0; marks = take t.rows t.marks.now; cells = take (256 * t.rows) t.cells.now }

-- as many marks and cells as the rows have
pub record Holds (t : Lent) : Type 0 where
  pub marks-long : t.rows ≤ length t.marks.now
  pub cells-long : 256 * t.rows ≤ length t.cells.now

-- what compiling handed back, with the table that it left
abbrev pub answer_in : Result Lent Refusal → Answer Table
answer_in (Ok t) = given (front_table t)
answer_in (Err r) = refused (refusal_of r)

abbrev pub HoldsAnswer : Result Lent Refusal → Type 0
HoldsAnswer (Ok t) = Holds t
HoldsAnswer (Err r) = Unit {0}

abbrev pub said_of_finding : Finding → List ℕ
said_of_finding Same = same_text
said_of_finding Different = different_text
said_of_finding (First r) = refused_line "first " (refusal_of r)
said_of_finding (Second s) = refused_line "second " (refusal_of s)
said_of_finding (Both r s) = refused_line "first " (refusal_of r) ++ refused_line "second " (refusal_of s)
said_of_finding NotTwo = expected_text
