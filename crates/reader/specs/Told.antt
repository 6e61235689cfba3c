-- What a reader of the cycle asks, what it answers, and what it leaves in the program.
use Rattle.std.specs.Prelude.{◌≡◌, false, List, ℕ, ◌+◌, ◌*◌, ◌-◌, ◌≤◌, ◌<◌, length, drop, take, get_or, Option, Some, None, Result, Ok, Err}
use Rattle.rules.specs.Sizes.{pattern_most, groups_most}
use Rattle.rules.specs.Signs.{opens_group, sign}
use Rattle.rules.specs.Tree.{Tree}
use Rattle.rules.specs.Grammar.{repeats, no_count}
use Rattle.rules.specs.Reader.{token}
use Rattle.signs.specs.Signs.{sign_of}
use Rattle.signs.specs.Answers.{repeat_of}
use Rattle.program.specs.Program.{Program}
use Rattle.reader.specs.Says.{tree, refused, Mode, atom, piece, branch, pattern, pieces, branches, is_repeat, Says}
use Rattle.signs.specs.declared.sign.Sign.{Sign}
use Rattle.signs.specs.declared.count.Repeat.{Repeat}
use Rattle.kinds.specs.declared.Refusal.{Refusal}
use Rattle.kinds.specs.Refusals.{refusal_of}
use Rattle.rules.specs.Answers.{refusal}

-- the bytes that are read at least
abbrev pub least : Mode → ℕ
least atom = 1
least piece = 1
least branch = 0
least pattern = 0
least (pieces X) = 0
least (branches X) = 0

-- the bytes are there, and room for two words for each byte that is left, and one
pub record Asks (m : Mode) (p : List ℕ) (at d n : ℕ) (words : List ℕ) : Type 0 where
  pub within : at + least m ≤ length p
  pub short : length p ≤ pattern_most
  pub groups : d ≤ groups_most
  pub room : n + 2 * (length p - at) + 1 ≤ length words + least m

-- the byte at `at` has this sign, which opens no group
pub record AsksSingle (p : List ℕ) (at : ℕ) (first : Sign) (n : ℕ) (words : List ℕ) : Type 0 where
  pub within : at < length p
  pub short : length p ≤ pattern_most
  pub is : sign_of first ≡ sign (get_or p at 0)
  pub no-group : sign_of first ≡ opens_group → ⊥
  pub room : n + 2 * (length p - at) ≤ length words

-- a tree was read from `at` up to `next`, and its program written from n up to k: two words a byte, and one, are room enough
pub record Done (m : Mode) (p : List ℕ) (at d n : ℕ) (old new : List ℕ) (next k : ℕ) : Type 0 where
  pub tree : Tree
  pub says : Says m p at d (Rattle.reader.specs.Says.tree tree next)
  pub wrote : Program new tree n k
  pub kept : take n new ≡ take n old
  pub longer : n < k
  pub low : at + least m ≤ next
  pub high : next ≤ length p
  pub room : k + 2 * (length p - next) + 2 * least m ≤ n + 2 * (length p - at) + 1

abbrev pub Told : Mode → List ℕ → ℕ → ℕ → ℕ → List ℕ → List ℕ → Result (ℕ × ℕ) Refusal → Type 0
Told m p at d n old new (Ok x) = Done m p at d n old new x.0 x.1
Told m p at d n old new (Err r) = Says m p at d (refused (refusal_of r).number (refusal_of r).place)

-- what stands after an atom: no repeat sign, one up to a place, or a bad count
abbrev pub AfterAtom : List ℕ → ℕ → Result (Option (Repeat × ℕ)) Refusal → Type 0
AfterAtom p at (Ok None) = is_repeat (token (drop at p)) ≡ false
AfterAtom p at (Ok (Some x)) = (token (drop at p) ≡ repeats (repeat_of x.0) (drop x.1 p)) × (at < x.1) × (x.1 ≤ length p)
AfterAtom p at (Err r) = (token (drop at p) ≡ no_count) × (refusal_of r ≡ refusal 3 at)
