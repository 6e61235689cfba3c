-- The three demands, each stated once: of a pattern's tree, and of every entry point, over any input.
use Rattle.std.specs.Prelude.{◌≡◌, ◌⊎◌, ◌↔◌, Bool, List, [], ◌∷◌, ℕ, ◌*◌, ◌≤◌, ◌<◌, T, length, take, replicate}
use Rattle.std.proofs.Math.Option.{Option}
use Rattle.rules.specs.Sizes.{text_most}
use Rattle.rules.specs.Tree.{Tree}
use Rattle.rules.specs.Grammar.{Legal}
use Rattle.rules.specs.Meaning.{Match, Matches, IsWhole, IsLongest, IsFirst, IsStarts}
use Rattle.rules.specs.Table.{Table, takes, Formed, WellFormed, whole, longest, first, starts}
use Rattle.rules.specs.Drawing.{Bytes, OnStretches, Right, Alike, SameMatches, Smallest, Numbered, Exact}
use Rattle.rules.specs.Turned.{Turned}
use Rattle.rules.specs.Answers.{Refusal, Answer, refused, given, FirstDue}
use Rattle.rules.specs.Compile.{Room, CompileRefusals, compile}
use Rattle.rules.specs.Matchers.{PastEnd, few_places, FewPlaces, MatchRefusals, part_of, listed_in, whole_answer, longest_answer, first_answer, part_answer, starts_answer}
use Rattle.rules.specs.Compiled.{compiled}

-- ---- of a pattern's tree

-- every pattern is turned away with one number at one place, or spells one tree, and not both
pub record ExactlyOne (p : List ℕ) : Type 0 where
  pub answer : ((X : Tree) × Legal p X) ⊎ ((n : ℕ) × (i : ℕ) × Turned p n i)
  pub one-tree : (X Y : Tree) → Legal p X → Legal p Y → X ≡ Y
  pub one-refusal : (n i m j : ℕ) → Turned p n i → Turned p m j → (n ≡ m) × (i ≡ j)
  pub not-both : (X : Tree) (n i : ℕ) → Legal p X → Turned p n i → ⊥

-- a tree's table takes just the stretches that the tree matches
abbrev pub TableRight : Type 0
TableRight = (X : Tree) → Right (compiled X) X

-- the four answers over the table w are those of the rule M
pub record AnswersBy (M : ℕ → ℕ → Type 0) (w : Table) (t : List ℕ) : Type 0 where
  pub whole-right : IsWhole M (length t) (whole w t)
  pub longest-right : (s : ℕ) → IsLongest M s (longest w t s)
  pub first-right : IsFirst M (first w t)
  pub starts-right : IsStarts M (starts w t)

-- so the four answers over it are those of the meaning
abbrev pub AnswersRight : Type 0
AnswersRight = (X : Tree) (t : List ℕ) → Bytes t → AnswersBy (Matches X t) (compiled X) t

-- two trees have one table exactly when they match the same stretches of all texts
abbrev pub OneTable : Type 0
OneTable = (X Y : Tree) → (compiled X ≡ compiled Y) ↔ SameMatches X Y

-- ---- 1, of every entry point

-- x is a refusal exactly when its condition holds and none ahead of it does
abbrev pub Refuses : {A : Type 0} → List (Refusal → Type 0) → Answer A → Type 0
Refuses Cs x = (r : Refusal) → (x ≡ refused r) ↔ FirstDue Cs r

-- the same of an answer that is a number, where those from k on are refusals'
abbrev pub RefusesBy : ℕ → List (Refusal → Type 0) → ℕ → Type 0
RefusesBy k Cs c = (n : ℕ) → k ≤ n → (c ≡ n) ↔ ((r : Refusal) × FirstDue Cs r × (r.number ≡ n))

-- all of the lent room is 0
pub record AllZero (old new : Room) : Type 0 where
  pub cells : new.cells ≡ replicate (length old.cells) 0
  pub marks : new.marks ≡ replicate (length old.marks) 0
  pub sets : new.sets ≡ replicate (length old.sets) 0

-- Each refusal is given exactly when its condition holds and none ahead of it does. A refused compile leaves all lent room 0, a
-- refused match leaves the list of starts as it was, and hands back the empty part at place 0.
pub record Demand1 : Type 0 where
  pub compile-refuses : (p : List ℕ) (l : Room) → Refuses (CompileRefusals p l) (compile p l).answer
  pub compile-zero : (p : List ℕ) (l : Room) (r : Refusal) → FirstDue (CompileRefusals p l) r → AllZero l (compile p l).room
  pub whole-refuses : (w : Table) (t : List ℕ) → Refuses (MatchRefusals w t []) (whole_answer w t)
  pub longest-refuses : (w : Table) (t : List ℕ) (s : ℕ) → Refuses (MatchRefusals w t (PastEnd t s ∷ [])) (longest_answer w t s)
  pub first-refuses : (w : Table) (t : List ℕ) → Refuses (MatchRefusals w t []) (first_answer w t)
  pub part-refuses : (w : Table) (t : List ℕ) → RefusesBy 2 (MatchRefusals w t []) (part_answer w t).number
  pub part-empty : (w : Table) (t : List ℕ) (r : Refusal) → FirstDue (MatchRefusals w t []) r → part_answer w t ≡ record { number = r.number; place = 0; part = [] }
  pub starts-refuses : (w : Table) (t list : List ℕ) → Refuses (MatchRefusals w t (FewPlaces w t list ∷ [])) (starts_answer w t list).answer
  pub starts-kept : (w : Table) (t list : List ℕ) (r : Refusal) → FirstDue (MatchRefusals w t (FewPlaces w t list ∷ [])) r → (starts_answer w t list).list ≡ list

-- ---- 2, of a table that compiling gives

-- the pattern p matches the stretch of t from s to e
abbrev pub PatternMatch : List ℕ → List ℕ → ℕ → ℕ → Type 0
PatternMatch p t s e = (X : Tree) × Legal p X × Match t X s e

-- with its places in order
abbrev pub PatternMatches : List ℕ → List ℕ → ℕ → ℕ → Type 0
PatternMatches p t s e = (s ≤ e) × (e ≤ length t) × PatternMatch p t s e

-- the matchers over the table w give what the pattern's meaning gives, and the list of starts and the part are those of it
pub record MatchersRight (p : List ℕ) (w : Table) (t : List ℕ) : Type 0 where
  pub whole : (a : Bool) × (whole_answer w t ≡ given a) × IsWhole (PatternMatches p t) (length t) a
  pub longest : (s : ℕ) → s ≤ length t → (a : Option ℕ) × (longest_answer w t s ≡ given a) × IsLongest (PatternMatches p t) s a
  pub first : (a : Option (ℕ × ℕ)) × (first_answer w t ≡ given a) × IsFirst (PatternMatches p t) a
  pub part : (a : Option (ℕ × ℕ)) × (part_answer w t ≡ part_of t (given a)) × IsFirst (PatternMatches p t) a
  pub starts : (list : List ℕ) → (xs : List ℕ) × IsStarts (PatternMatches p t) xs
      × (length xs ≤ length list → starts_answer w t list ≡ listed_in list (given xs))
      × (length list < length xs → starts_answer w t list ≡ listed_in list (refused (few_places xs)))

-- the room as a table of so many rows with this head row, as the matchers are handed it
abbrev pub lent : Room → ℕ → ℕ → Table
lent l rows head = record { count = rows; head = head; marks = l.marks; cells = l.cells }

-- the table is well formed, takes just the stretches that the pattern matches, and the matchers over it are right
pub record Demand2 (p : List ℕ) (w : Table) : Type 0 where
  pub well-formed : WellFormed w
  pub right : OnStretches (λ t s e. T (takes w t s e) ↔ PatternMatch p t s e)
  pub matchers : (t : List ℕ) → Bytes t → length t ≤ text_most → MatchersRight p w t

-- ---- 3, of a table that compiling gives

-- the room without what is past the table's rows
abbrev pub drawing : Room → ℕ → ℕ → Table
drawing l rows head = record { count = rows; head = head; marks = take rows l.marks; cells = take (256 * rows) l.cells }

-- the table is the smallest there is, and the only one in its numbering
pub record Demand3 (w : Table) : Type 0 where
  pub smallest : Smallest w
  pub numbered : Numbered w
  pub only : (v : Table) → Formed v → Exact v → Numbered v → Alike v w → v.count ≡ w.count → v ≡ w

-- the patterns match the same stretches of all texts
abbrev pub SamePatterns : List ℕ → List ℕ → Type 0
SamePatterns p q = OnStretches (λ t s e. PatternMatch p t s e ↔ PatternMatch q t s e)

-- ---- the demands

-- compiling p in the room l leaves the room new, and hands back a table of so many rows with this head row
pub record Gives (p : List ℕ) (l new : Room) (rows head : ℕ) : Type 0 where
  pub answer : (compile p l).answer ≡ given (rows, head)
  pub room : (compile p l).room ≡ new

pub record Demands : Type 0 where
  pub one : Demand1
  pub two : (p : List ℕ) (l new : Room) (rows head : ℕ) → Gives p l new rows head → Demand2 p (lent new rows head)
  pub three : (p : List ℕ) (l new : Room) (rows head : ℕ) → Gives p l new rows head → Demand3 (drawing new rows head)
  -- two patterns that compile have equal tables, number for number, exactly when they match the same stretches of all texts
  pub three-same : (p q : List ℕ) (l new l' new' : Room) (rows head rows' head' : ℕ) → Gives p l new rows head → Gives q l' new' rows' head'
      → (drawing new rows head ≡ drawing new' rows' head') ↔ SamePatterns p q
