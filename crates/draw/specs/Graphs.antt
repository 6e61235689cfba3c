-- What is written for an input: its table as a graph, or why it is turned away.
use Rattle.std.specs.Prelude.{List, ℕ}
use Rattle.rules.specs.Sizes.{listing_rows}
use Rattle.rules.specs.Answers.{Answer}
use Rattle.rules.specs.Compile.{compile}
use Rattle.rules.specs.Listing.{without_line_end, room_for}
use Rattle.listing.specs.Programs.{outcome_text}
use Rattle.dot.specs.Dot.{dot_of}

unfoldable pub graph_of : List ℕ → Answer (List ℕ)
graph_of input = outcome_text dot_of (compile (without_line_end input) (room_for listing_rows))

-- bytes that hold the graph of 64 rows
abbrev pub graph_most : ℕ
graph_most = 1048576
