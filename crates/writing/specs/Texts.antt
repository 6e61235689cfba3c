-- What the entry points hand back, and what then stands in the buffer.
use Rattle.std.specs.Prelude.{Bool, true, false, List, ◌++◌, ℕ, Result, leb, length, take, drop}
use Rattle.rules.specs.Answers.{Answer, refused, given, refusal}
use Rattle.rules.specs.Table.{Table, well_formed}
use Rattle.kinds.specs.declared.Refusal.{Refusal}
use Rattle.answers.specs.declared.Written.{Written}
use Rattle.answers.specs.Answers.{text_of}

pub record Shown : Type 0 where
  pub answer : Answer (Bool × ℕ)
  pub buffer : List ℕ

abbrev pub shown : Result Written Refusal → List ℕ → Shown
shown r new = record { answer = text_of r; buffer = new }

-- a refusal leaves the buffer as it was; a text is written from its start on, as far as the buffer reaches, and what is past the text is as it was
unfoldable pub shown_in : List ℕ → Answer (List ℕ) → Shown
shown_in old (refused r) = record { answer = refused r; buffer = old }
shown_in old (given text) = record {
  answer = given (leb (length text) (length old), length text);
  buffer = take (length old) text ++ drop (length text) old;
}

-- 13, else a text
unfoldable pub if_formed : Table → List ℕ → Answer (List ℕ)
if_formed w text = elim (well_formed w) [ true ↦ given text | false ↦ refused (refusal 13 0) ]
