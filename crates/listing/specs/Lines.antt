-- The listing of what is lent.
use Rattle.std.specs.Prelude.{List, ◌++◌, map, ℕ}
use Rattle.rules.specs.Tools.{bytes_of, flat}
use Rattle.rules.specs.Answers.{Answer, given}
use Rattle.rules.specs.Table.{Table}
use Rattle.rules.specs.Listing.{line_end, decimal, runs, run_text, listing}
use Rattle.writing.specs.Texts.{if_formed}

-- a row's line, from its own mark and cells
abbrev pub line_of : ℕ → ℕ → List ℕ → List ℕ
line_of q mark cells = decimal q ++ bytes_of " " ++ decimal mark ++ flat (map run_text (runs cells)) ++ line_end

abbrev pub listing_of : Table → Answer (List ℕ)
listing_of w = if_formed w (listing (given w))
