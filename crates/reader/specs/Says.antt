-- What each reader of the cycle has to answer, by places: the grammar spells it, or the pattern is turned away.
use Rattle.std.specs.Prelude.{◌≡◌, ◌⊎◌, Bool, true, false, List, ℕ, ◌≤◌, ◌<◌, drop}
use Rattle.rules.specs.Sizes.{groups_most}
use Rattle.rules.specs.Tree.{Tree}
use Rattle.rules.specs.Grammar.{Token, single, repeats, opens, closes, parts, ends, no_count, no_class, no_escape, stray, Part, Spells}
use Rattle.rules.specs.Turned.{Before, NotAtom, Reach, Turned}
use Rattle.rules.specs.Reader.{token}

-- a tree and the place after it; or a number and its place
pub data Answer : Type 0 where
  tree : Tree → ℕ → Answer
  refused : ℕ → ℕ → Answer

-- what is read; `pieces` and `branches` go on after the tree that they hold
pub data Mode : Type 0 where
  atom piece branch pattern : Mode
  pieces branches : Tree → Mode

-- a branch stops at `|`, `)` and the end
abbrev pub stops : Token → Bool
stops (single X u) = false
stops (repeats k u) = false
stops (opens u) = false
stops (closes u) = true
stops (parts u) = true
stops ends = true
stops no_count = false
stops no_class = false
stops no_escape = false
stops stray = false

-- a repeat sign, legal or not
abbrev pub is_repeat : Token → Bool
is_repeat (single X u) = false
is_repeat (repeats k u) = true
is_repeat (opens u) = false
is_repeat (closes u) = false
is_repeat (parts u) = false
is_repeat ends = false
is_repeat no_count = true
is_repeat no_class = false
is_repeat no_escape = false
is_repeat stray = false

-- a pattern stops at the `)` of a group, and at the end
pub data Closes (p : List ℕ) (i d : ℕ) : Type 0 where
  in_group : {u : List ℕ} → token (drop i p) ≡ closes u → 0 < d → Closes p i d
  at_end : token (drop i p) ≡ ends → Closes p i d

-- reading has come to the place i with d groups open
pub record Past (p : List ℕ) (i d : ℕ) : Type 0 where
  pub before : Before
  pub reach : Reach p (drop i p) before d

-- and a piece can begin there: after an atom no repeat sign is left
pub record Ready (p : List ℕ) (i d : ℕ) : Type 0 where
  pub before : Before
  pub reach : Reach p (drop i p) before d
  pub fits : NotAtom before ⊎ (is_repeat (token (drop i p)) ≡ false)

pub record PieceRead (p : List ℕ) (d i : ℕ) (X : Tree) (j : ℕ) : Type 0 where
  pub spells : Spells Part.piece d (drop i p) X (drop j p)
  pub ready : Ready p j d

pub record RowRead (P : Part) (p : List ℕ) (d i : ℕ) (X : Tree) (j : ℕ) : Type 0 where
  pub spells : Spells P d (drop i p) X (drop j p)
  pub past : Past p j d
  pub stop : stops (token (drop j p)) ≡ true

pub record PatternRead (p : List ℕ) (d i : ℕ) (X : Tree) (j : ℕ) : Type 0 where
  pub spells : Spells Part.pattern d (drop i p) X (drop j p)
  pub past : Past p j d
  pub closing : Closes p j d

abbrev pub Right : List ℕ → (Tree → ℕ → Type 0) → Answer → Type 0
Right p Read (tree X j) = Read X j
Right p Read (refused n j) = Turned p n j

abbrev pub Claim : Mode → List ℕ → ℕ → ℕ → Answer → Type 0
Claim atom p i d r = Ready p i d → stops (token (drop i p)) ≡ false → Right p (λ X j. Spells Part.atom d (drop i p) X (drop j p)) r
Claim piece p i d r = Ready p i d → stops (token (drop i p)) ≡ false → Right p (PieceRead p d i) r
Claim branch p i d r = Ready p i d → Right p (RowRead Part.branch p d i) r
Claim (pieces R) p i d r = (k : ℕ) → Spells Part.pieces d (drop k p) R (drop i p) → Ready p i d → Right p (RowRead Part.pieces p d k) r
Claim pattern p i d r = Ready p i d → Right p (PatternRead p d i) r
Claim (branches R) p i d r = (k : ℕ) → Spells Part.pattern d (drop k p) R (drop i p) → Past p i d → stops (token (drop i p)) ≡ true → Right p (PatternRead p d k) r

-- reading from the place i on with d groups open comes to r
pub record Says (m : Mode) (p : List ℕ) (i d : ℕ) (r : Answer) : Type 0 where
  pub by : d ≤ groups_most → Claim m p i d r
