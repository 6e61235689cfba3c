-- The three demands of what C and Rust link. Each record takes what was handed in, handed back and left, and its promise as the
-- export's contract states it.
use Rattle.std.specs.Prelude.{◌≡◌, ◌↔◌, Bool, true, List, [], ◌∷◌, ◌++◌, ℕ, ◌≤◌, ◌<◌, length, drop}
use Rattle.std.proofs.Math.Option.{none, some}
use Rattle.rules.specs.Sizes.{text_most}
use Rattle.rules.specs.Meaning.{IsLongest, IsFirst, IsStarts}
use Rattle.rules.specs.Table.{Table, WellFormed, well_formed}
use Rattle.rules.specs.Drawing.{Bytes}
use Rattle.rules.specs.Answers.{Refusal, refusal, refused, given, FirstDue}
use Rattle.rules.specs.Listing as rule
use Rattle.rules.specs.Compile.{Room, CompileRefusals, compile}
use Rattle.rules.specs.Matchers.{NotFormed, PastEnd, FewPlaces, MatchRefusals, whole_answer, longest_answer, first_answer, starts_answer}
use Rattle.rules.specs.Demands.{RefusesBy, AllZero, PatternMatches, lent, drawing, Demand2, Demand3, SamePatterns}
use Rattle.writing.specs.Texts.{shown_in}
use Rattle.listing.specs.Lines.{listing_of}
use Rattle.codes.specs.Codes.{whole_code, longest_code, longest_end, first_code, first_start, first_end, starts_code, starts_count, compile_code, compile_rows, compile_head, compile_place, text_code}

-- jorvimest_compile, with what stood in the lent numbers and what then stands there
pub record CompileCall (p : List ℕ) (old new : Room) (code rows head place : ℕ) : Type 0 where
  pub rows₀ : ℕ
  pub head₀ : ℕ
  pub place₀ : ℕ
  pub code_is : code ≡ compile_code (compile p old).answer
  pub rows_is : rows ≡ compile_rows rows₀ (compile p old).answer
  pub head-is : head ≡ compile_head head₀ (compile p old).answer
  pub place_is : place ≡ compile_place place₀ (compile p old).answer
  pub room-is : new ≡ (compile p old).room

-- a number from 1 on is the refusal that is due, and then its place is put and all lent room is 0; at 0 the table stands in the room
pub record CompileKept (p : List ℕ) (old new : Room) (code rows head place : ℕ) : Type 0 where
  pub refuses : RefusesBy 1 (CompileRefusals p old) code
  pub placed : (x : Refusal) → FirstDue (CompileRefusals p old) x → place ≡ x.place
  pub zero : (x : Refusal) → FirstDue (CompileRefusals p old) x → AllZero old new
  pub right : code ≡ 0 → Demand2 p (lent new rows head)
  pub smallest : code ≡ 0 → Demand3 (drawing new rows head)

-- the matchers over a table of the pattern p, as numbers: 0 for a match, 1 for none
pub record MatchedBy (p : List ℕ) (w : Table) (t : List ℕ) : Type 0 where
  pub whole : (code : ℕ) → code ≡ whole_code (whole_answer w t) → (code ≤ 1) × ((code ≡ 0) ↔ PatternMatches p t 0 (length t))
  pub longest : (s code end end₀ : ℕ) → s ≤ length t → code ≡ longest_code (longest_answer w t s) → end ≡ longest_end end₀ (longest_answer w t s)
      → (code ≤ 1) × (code ≡ 0 → IsLongest (PatternMatches p t) s (some end)) × (code ≡ 1 → IsLongest (PatternMatches p t) s none)
  pub first : (code start end start₀ end₀ : ℕ) → code ≡ first_code (first_answer w t) → start ≡ first_start start₀ (first_answer w t) → end ≡ first_end end₀ (first_answer w t)
      → (code ≤ 1) × (code ≡ 0 → IsFirst (PatternMatches p t) (some (start, end))) × (code ≡ 1 → IsFirst (PatternMatches p t) none)
  pub starts : (code count count₀ : ℕ) (list new : List ℕ) → code ≡ starts_code (starts_answer w t list).answer → count ≡ starts_count count₀ (starts_answer w t list).answer
      → new ≡ (starts_answer w t list).list → (xs : List ℕ) × IsStarts (PatternMatches p t) xs × (count ≡ length xs)
      × (length xs ≤ length list → (code ≡ 0) × (new ≡ xs ++ drop (length xs) list))
      × (length list < length xs → (code ≡ 15) × (new ≡ list))

pub record ExportsKeep : Type 0 where
  pub compile : (p : List ℕ) (old new : Room) (code rows head place : ℕ) → CompileCall p old new code rows head place → CompileKept p old new code rows head place
  pub same : (p q : List ℕ) (old new old' new' : Room) (code rows head place code' rows' head' place' : ℕ)
      → CompileCall p old new code rows head place → CompileCall q old' new' code' rows' head' place' → code ≡ 0 → code' ≡ 0
      → (drawing new rows head ≡ drawing new' rows' head') ↔ SamePatterns p q
  pub well-formed : (w : Table) (r : Bool) → r ≡ well_formed w → (r ≡ true) ↔ WellFormed w
  pub whole : (w : Table) (t : List ℕ) (code : ℕ) → code ≡ whole_code (whole_answer w t) → RefusesBy 2 (MatchRefusals w t []) code
  pub longest : (w : Table) (t : List ℕ) (s code : ℕ) → code ≡ longest_code (longest_answer w t s) → RefusesBy 2 (MatchRefusals w t (PastEnd t s ∷ [])) code
  pub first : (w : Table) (t : List ℕ) (code : ℕ) → code ≡ first_code (first_answer w t) → RefusesBy 2 (MatchRefusals w t []) code
  pub starts : (w : Table) (t list new : List ℕ) (code : ℕ) → code ≡ starts_code (starts_answer w t list).answer → new ≡ (starts_answer w t list).list
      → RefusesBy 1 (MatchRefusals w t (FewPlaces w t list ∷ [])) code × ((x : Refusal) → FirstDue (MatchRefusals w t (FewPlaces w t list ∷ [])) x → new ≡ list)
  pub listing : (w : Table) (old new : List ℕ) (code : ℕ) → code ≡ text_code (shown_in old (listing_of w)).answer → new ≡ (shown_in old (listing_of w)).buffer
      → RefusesBy 2 (NotFormed w ∷ []) code × ((WellFormed w → ⊥) → new ≡ old)
  pub refusal-line : (number place : ℕ) (old : List ℕ) (code : ℕ) → code ≡ text_code (shown_in old (given (rule.listing (refused (refusal number place))))).answer → code ≤ 1
  pub matched : (p : List ℕ) (old new : Room) (code rows head place : ℕ) → CompileCall p old new code rows head place → code ≡ 0
      → (t : List ℕ) → Bytes t → length t ≤ text_most → MatchedBy p (lent new rows head) t
