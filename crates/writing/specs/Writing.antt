-- A text written over a buffer from a place on; what is past the buffer's end is lost.
use Rattle.std.specs.Prelude.{◌≡◌, List, ℕ, ◌+◌, ◌^◌, ◌<◌, length}
use Rattle.std.proofs.lemmas.List.Edits.{sets}
use Rattle.writing.specs.declared.Page.{Page}

-- the place after the text is a number of the machine
abbrev pub Room : ℕ → List ℕ → Type 0
Room at text = at + length text < 2 ^ 64

-- the text stands from `at` on in the new buffer, and r is the place after it
pub record Writes (old : List ℕ) (at : ℕ) (text new : List ℕ) (r : ℕ) : Type 0 where
  pub buffer : new ≡ sets old at text
  pub next : r ≡ at + length text

-- where there is a number for the place after it, the text stands so
abbrev pub WritesFrom : List ℕ → ℕ → List ℕ → List ℕ → ℕ → Type 0
WritesFrom old at text new r = Room at text → Writes old at text new r

-- the text was put on the page: where there is a number for the place after it, it stands from the page's place on
pub record Puts (old : Page) (text : List ℕ) (new : Page) : Type 0 where
  pub writes : WritesFrom old.out.now old.at text new.out.now new.at
  pub same_reference : new.out.ghost_name ≡ old.out.ghost_name
