-- The matchers as entry points: any table, any text, any start, any list may be lent.
use Rattle.std.specs.Prelude.{◌≡◌, Bool, true, false, List, [], ◌∷◌, ◌++◌, ℕ, ◌<◌, ltb, length, drop}
use Rattle.std.proofs.Math.Option.{Option, none, some}
use Rattle.std.proofs.Math.Seq.{slice}
use Rattle.rules.specs.Sizes.{text_most}
use Rattle.rules.specs.Meaning.{IsWhole, IsLongest, IsFirst, IsStarts}
use Rattle.rules.specs.Table.{Table, Takes, WellFormed, well_formed, whole, longest, first, starts}
use Rattle.rules.specs.Answers.{Refusal, refusal, Answer, refused, given, Due}

-- ---- the refusals: 13, 12, 14, 15

abbrev pub NotFormed : Table → Refusal → Type 0
NotFormed w r = (WellFormed w → ⊥) × (r ≡ refusal 13 0)

abbrev pub LongText : List ℕ → Refusal → Type 0
LongText t r = (text_most < length t) × (r ≡ refusal 12 0)

abbrev pub PastEnd : List ℕ → ℕ → Refusal → Type 0
PastEnd t s r = (length t < s) × (r ≡ refusal 14 0)

-- 15 comes with the number of starts
abbrev pub few_places : List ℕ → Refusal
few_places xs = record { number = 15; place = 0; values = length xs ∷ [] }

abbrev pub FewPlaces : Table → List ℕ → List ℕ → Refusal → Type 0
FewPlaces w t list r = (xs : List ℕ) × IsStarts (Takes w t) xs × (length list < length xs) × (r ≡ few_places xs)

-- in order: those of every matcher, then its own
abbrev pub MatchRefusals : Table → List ℕ → List (Refusal → Type 0) → List (Refusal → Type 0)
MatchRefusals w t own = NotFormed w ∷ LongText t ∷ own

-- ---- what is asked of each

abbrev pub Wholes : Table → List ℕ → Answer Bool → Type 0
Wholes w t = Due (MatchRefusals w t []) (IsWhole (Takes w t) (length t))

abbrev pub Longests : Table → List ℕ → ℕ → Answer (Option ℕ) → Type 0
Longests w t s = Due (MatchRefusals w t (PastEnd t s ∷ [])) (IsLongest (Takes w t) s)

abbrev pub Firsts : Table → List ℕ → Answer (Option (ℕ × ℕ)) → Type 0
Firsts w t = Due (MatchRefusals w t []) (IsFirst (Takes w t))

-- The part form of first: the lent number, the place in the text of the part handed back, and its bytes.
pub record Part : Type 0 where
  pub number : ℕ
  pub place : ℕ
  pub part : List ℕ

-- a refusal hands back the empty part at place 0, none the one at the text's end
unfoldable pub part_of : List ℕ → Answer (Option (ℕ × ℕ)) → Part
part_of t (refused r) = record { number = r.number; place = 0; part = [] }
part_of t (given none) = record { number = 1; place = length t; part = [] }
part_of t (given (some x)) = record { number = 0; place = x.0; part = slice x.0 x.1 t }

pub record Parts (w : Table) (t : List ℕ) (o : Part) : Type 0 where
  pub found : Answer (Option (ℕ × ℕ))
  pub firsts : Firsts w t found
  pub result : o ≡ part_of t found

-- All starts: the number of starts or a refusal, and what then stands in the lent list.
pub record Listed : Type 0 where
  pub answer : Answer ℕ
  pub list : List ℕ

-- a refusal leaves the list as it was; success changes its first places, one for each start
unfoldable pub listed_in : List ℕ → Answer (List ℕ) → Listed
listed_in list (refused r) = record { answer = refused r; list = list }
listed_in list (given xs) = record { answer = given (length xs); list = xs ++ drop (length xs) list }

pub record Starts (w : Table) (t list : List ℕ) (o : Listed) : Type 0 where
  pub found : Answer (List ℕ)
  pub due : Due (MatchRefusals w t (FewPlaces w t list ∷ [])) (IsStarts (Takes w t)) found
  pub result : o ≡ listed_in list found

-- ---- computed

-- 13, then 12, then a
unfoldable pub checked : {A : Type 0} → Table → List ℕ → Answer A → Answer A
checked w t a =
    elim (well_formed w) [ false ↦ refused (refusal 13 0) | true ↦ elim (ltb text_most (length t)) [ true ↦ refused (refusal 12 0) | false ↦ a ] ]

unfoldable pub whole_answer : Table → List ℕ → Answer Bool
whole_answer w t = checked w t (given (whole w t))

unfoldable pub longest_answer : Table → List ℕ → ℕ → Answer (Option ℕ)
longest_answer w t s = checked w t (elim (ltb (length t) s) [ true ↦ refused (refusal 14 0) | false ↦ given (longest w t s) ])

unfoldable pub first_answer : Table → List ℕ → Answer (Option (ℕ × ℕ))
first_answer w t = checked w t (given (first w t))

unfoldable pub part_answer : Table → List ℕ → Part
part_answer w t = part_of t (first_answer w t)

unfoldable pub starts_found : Table → List ℕ → List ℕ → Answer (List ℕ)
starts_found w t list = checked w t (elim (ltb (length list) (length (starts w t))) [ true ↦ refused (few_places (starts w t)) | false ↦ given (starts w t) ])

unfoldable pub starts_answer : Table → List ℕ → List ℕ → Listed
starts_answer w t list = listed_in list (starts_found w t list)
