-- What a program writes for what compiling hands back and leaves in the room.
use Rattle.std.specs.Prelude.{List, ℕ}
use Rattle.rules.specs.Table.{Table}
use Rattle.rules.specs.Answers.{Answer, refused, given}
use Rattle.rules.specs.Compile.{Outcome}
use Rattle.rules.specs.Listing.{listing}
use Rattle.table.specs.Lent.{table_of}

-- a refusal's line, or a text of the table that then stands in the room
unfoldable pub outcome_text : (Table → Answer (List ℕ)) → Outcome → Answer (List ℕ)
outcome_text f o = elim o.answer [ refused r ↦ given (listing (refused r)) | given x ↦ f (table_of x.0 x.1 o.room.marks o.room.cells) ]

-- bytes that hold the listing of 64 rows
abbrev pub printed_most : ℕ
printed_most = 262144
