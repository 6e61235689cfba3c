-- A row's runs from a place on.
use Rattle.std.specs.Prelude.{◌≡◌, List, [], ◌∷◌, ℕ, ◌+◌, ◌≤◌, ◌<◌, length, get_or, drop}
use Rattle.rules.specs.Listing.{Run, runs_on}

abbrev pub run_of : ℕ → ℕ → ℕ → Run
run_of lo hi to = record { lo = lo; hi = hi; to = to }

-- the runs of the cells of the bytes from b on
abbrev pub runs_from : ℕ → List ℕ → List Run
runs_from b [] = []
runs_from b (c ∷ cs) = runs_on b b c cs

-- the longest run that begins at lo ends at hi
pub record RunEnds (cells : List ℕ) (lo hi : ℕ) : Type 0 where
  pub from : lo ≤ hi
  pub inside : hi < length cells
  pub run : runs_from lo (drop lo cells) ≡ run_of lo hi (get_or cells lo 0) ∷ runs_from (hi + 1) (drop (hi + 1) cells)
