-- "Room and sizes": each size is named here and nowhere else.
use Rattle.std.specs.Prelude.{ℕ}

-- bytes of a pattern
abbrev pub pattern_most : ℕ
pattern_most = 1024

-- open groups
abbrev pub groups_most : ℕ
groups_most = 32

-- a number in a count
abbrev pub count_most : ℕ
count_most = 255

-- nodes of a pattern
abbrev pub nodes_most : ℕ
nodes_most = 2048

-- rows of a table
abbrev pub rows_most : ℕ
rows_most = 1024

-- set words for a row
abbrev pub words_a_row : ℕ
words_a_row = 32

-- bytes of a text
abbrev pub text_most : ℕ
text_most = 1048576

-- rows for which the listing program has room
abbrev pub listing_rows : ℕ
listing_rows = 64
