-- The three demands of the functions that run. Each line takes what a function promises, as its contract states it, and says what is
-- demanded of what was handed back and left.
use Rattle.std.specs.Prelude.{◌≡◌, ◌↔◌, Bool, List, [], ◌∷◌, ℕ, ◌≤◌, ◌<◌, length, Result, Ok}
use Rattle.std.specs.Prelude as std
use Rattle.std.proofs.Math.Option.{Option}
use Rattle.std.specs.Borrow.{Bor}
use Rattle.rules.specs.Sizes.{text_most}
use Rattle.rules.specs.Meaning.{IsWhole, IsLongest, IsFirst, IsStarts}
use Rattle.rules.specs.Table.{Table}
use Rattle.rules.specs.Drawing.{Bytes}
use Rattle.rules.specs.Answers.{Refusal, refused, given, FirstDue}
use Rattle.rules.specs.Compile.{Room, CompileRefusals}
use Rattle.rules.specs.Matchers.{PastEnd, few_places, FewPlaces, MatchRefusals, part_of, listed_in, whole_answer, longest_answer, first_answer, part_answer, starts_answer}
use Rattle.rules.specs.Demands.{Refuses, RefusesBy, AllZero, PatternMatches, lent, drawing, Demand2, Demand3, SamePatterns}
use Rattle.kinds.specs.declared.Refusal as kinds
use Rattle.answers.specs.Answers.{whole_of, longest_of, first_of, starts_of, listed_of, compiled_of}
use Rattle.first.specs.Parts.{HandsBack}
use Rattle.compile.specs.Outcomes.{Compiles}
use Rattle.answers.specs.declared.Drawn.{Drawn}

-- what a function answers: a value, or the refusal that is due
abbrev pub Answered : Type 0 → Type 0
Answered A = Result A kinds.Refusal

-- 1: each refusal exactly when its condition holds and none ahead of it does; a refused compile leaves all lent room 0, a refused
-- match the list of starts as it was, and the part form the empty part at place 0
pub record Demand1Kept : Type 0 where
  pub compile : (p : List ℕ) (old new : Room) (r : Answered Drawn) → Compiles p old new r
      → Refuses (CompileRefusals p old) (compiled_of r) × ((x : Refusal) → FirstDue (CompileRefusals p old) x → AllZero old new)
  pub whole : (w : Table) (t : List ℕ) (r : Answered Bool) → whole_of r ≡ whole_answer w t → Refuses (MatchRefusals w t []) (whole_of r)
  pub longest : (w : Table) (t : List ℕ) (s : ℕ) (r : Answered (std.Option ℕ)) → longest_of r ≡ longest_answer w t s → Refuses (MatchRefusals w t (PastEnd t s ∷ [])) (longest_of r)
  pub first : (w : Table) (t : List ℕ) (r : Answered (std.Option (ℕ × ℕ))) → first_of r ≡ first_answer w t → Refuses (MatchRefusals w t []) (first_of r)
  pub first_part : (w : Table) (t r : Bor (List ℕ)) (number : ℕ) → HandsBack t r number (part_answer w t.now)
      → RefusesBy 2 (MatchRefusals w t.now []) number × ((x : Refusal) → FirstDue (MatchRefusals w t.now []) x → HandsBack t r number (part_of t.now (refused x)))
  pub starts : (w : Table) (t list new : List ℕ) (r : Answered ℕ) → listed_of r new ≡ starts_answer w t list
      → Refuses (MatchRefusals w t (FewPlaces w t list ∷ [])) (starts_of r) × ((x : Refusal) → FirstDue (MatchRefusals w t (FewPlaces w t list ∷ [])) x → new ≡ list)

-- 2: what the matchers hand back over a table of the pattern p, for any text within the limit, is what the meaning gives
pub record MatchersKept (p : List ℕ) (w : Table) (t : List ℕ) : Type 0 where
  pub whole : (r : Answered Bool) → whole_of r ≡ whole_answer w t → (a : Bool) × (whole_of r ≡ given a) × IsWhole (PatternMatches p t) (length t) a
  pub longest : (s : ℕ) → s ≤ length t → (r : Answered (std.Option ℕ)) → longest_of r ≡ longest_answer w t s
      → (a : Option ℕ) × (longest_of r ≡ given a) × IsLongest (PatternMatches p t) s a
  pub first : (r : Answered (std.Option (ℕ × ℕ))) → first_of r ≡ first_answer w t → (a : Option (ℕ × ℕ)) × (first_of r ≡ given a) × IsFirst (PatternMatches p t) a
  pub first_part : (text r : Bor (List ℕ)) (number : ℕ) → text.now ≡ t → HandsBack text r number (part_answer w t)
      → (a : Option (ℕ × ℕ)) × HandsBack text r number (part_of t (given a)) × IsFirst (PatternMatches p t) a
  pub starts : (list new : List ℕ) (r : Answered ℕ) → listed_of r new ≡ starts_answer w t list → (xs : List ℕ) × IsStarts (PatternMatches p t) xs
      × (length xs ≤ length list → listed_of r new ≡ listed_in list (given xs))
      × (length list < length xs → listed_of r new ≡ listed_in list (refused (few_places xs)))

pub record FunctionsKeep : Type 0 where
  pub one : Demand1Kept
  pub two : (p : List ℕ) (old new : Room) (d : Drawn) → Compiles p old new (Ok d) → Demand2 p (lent new d.rows d.head.0)
  pub two-matchers : (p : List ℕ) (old new : Room) (d : Drawn) → Compiles p old new (Ok d)
      → (t : List ℕ) → Bytes t → length t ≤ text_most → MatchersKept p (lent new d.rows d.head.0) t
  -- 3: the table is the smallest there is, and the only one in its numbering; and two patterns that compile have equal tables, number
  -- for number, exactly when they match the same stretches of all texts
  pub three : (p : List ℕ) (old new : Room) (d : Drawn) → Compiles p old new (Ok d) → Demand3 (drawing new d.rows d.head.0)
  pub three-same : (p q : List ℕ) (old new old' new' : Room) (d e : Drawn) → Compiles p old new (Ok d) → Compiles q old' new' (Ok e)
      → (drawing new d.rows d.head.0 ≡ drawing new' e.rows e.head.0) ↔ SamePatterns p q
