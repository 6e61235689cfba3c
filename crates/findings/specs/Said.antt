-- What is said of two patterns that were compiled, or of an input that is not two patterns.
use Rattle.std.specs.Prelude.{true, false, List, ◌++◌, ℕ}
use Prim.Native.String.{String}
use Rattle.rules.specs.Tools.{bytes_of}
use Rattle.rules.specs.Table.{Table, same_table}
use Rattle.rules.specs.Answers.{Refusal, Answer, refused, given}
use Rattle.rules.specs.Listing.{line_end, listing}

-- every line ends with byte 10
abbrev pub saying : String → List ℕ
saying words = bytes_of words ++ line_end

-- the line of a refusal, after the name of the pattern
abbrev pub refused_line : String → Refusal → List ℕ
refused_line name r = bytes_of name ++ listing (refused r)

abbrev pub same_text : List ℕ
same_text = saying "same"

abbrev pub different_text : List ℕ
different_text = saying "not the same"

abbrev pub expected_text : List ℕ
expected_text = saying "expected two patterns, one a line"

-- bytes that hold any of them
abbrev pub comparison_most : ℕ
comparison_most = 128

-- of what compiling the first and the second came to
unfoldable pub said_of_answers : Answer Table → Answer Table → List ℕ
said_of_answers (given w) (given v) = elim (same_table w v) [ true ↦ same_text | false ↦ different_text ]
said_of_answers (given w) (refused s) = refused_line "second " s
said_of_answers (refused r) (given v) = refused_line "first " r
said_of_answers (refused r) (refused s) = refused_line "first " r ++ refused_line "second " s
