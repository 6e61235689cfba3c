-- The entry points' answers from what was written.
use mathlib.Core.Path.{◌≡◌, sym, ap, ap₂, ◌∙◌}
use mathlib.Core.Bool.{Bool, true, false}
use mathlib.Core.List.{List, ◌++◌}
use Prim.Native.Nat.{ℕ, ◌≤◌}
use native.Mathlib.Omega.{arith}
use borrow.Author.Tests.{le-leb}
use lib.Dec.{leb}
use lib.ListN.{length, take, drop, length-append}
use lib.Seq.{length-sets, take_all, take-append_seam}
use Rattle.rules.specs.Answers.{Answer, given}
use Rattle.rules.specs.Table.{Table, well_formed}
use Rattle.kinds.specs.declared.Refusal.{Refusal}
use Rattle.kinds.specs.declared.Refusal.TheVariants.{NotFormed}
use Rattle.std.specs.Prelude.{Result, Ok, Err}
use Rattle.answers.specs.declared.Written.{Written}
use Rattle.writing.specs.Writing.{Room, Writes, Puts}
use Rattle.writing.specs.declared.Page.{Page}
use Rattle.answers.specs.Answers.{written_of, text_of}
use Rattle.writing.specs.Texts.{Shown, shown, shown_in, if_formed}
use Rattle.writing.proofs.Cases.{if-true, if-false}
use Rattle.writing.proofs.Writings.{from_start}

-- of a text that is written from the buffer's start on
module _ {start end : Page} (r : Written) {text : List ℕ} (at : start.at ≡ 0) (room : Room 0 text) (w : Puts start text end) (e : written_of r ≡ (leb end.at (length end.out.now), end.at)) where
  writes : Writes start.out.now 0 text end.out.now end.at
  writes = rw at at (w.writes (omega (arith, at)))

  -- its length fits the answer
  pub length-is : end.at ≡ length text
  length-is = omega (arith, writes.next)

  pub written-shown : shown (Ok r) end.out.now ≡ shown_in start.out.now (given text)
  unfolding shown_in
  written-shown =
      ap₂ {C = Shown} (λ (a : Answer (Bool × ℕ)) (b : List ℕ). record { answer = a; buffer = b })
      (ap given e ∙ ap₂ {C = Answer (Bool × ℕ)} (λ (k m : ℕ). given (leb k m, k)) length-is room-is)
      (writes.buffer ∙ from_start text start.out.now)
    where
      room-is : length end.out.now ≡ length start.out.now
      room-is = ap length writes.buffer ∙ length-sets start.out.now 0 text

  -- of a table that is well formed
  pub formed-shown : (table : Table) → well_formed table ≡ true → shown (Ok r) end.out.now ≡ shown_in start.out.now (if_formed table text)
  unfolding if_formed
  formed-shown table f = written-shown ∙ sym (ap (shown_in start.out.now) (if-true _ _ f))

-- of one that is not
pub unformed-shown : (w : Table) (old text : List ℕ) → well_formed w ≡ false → shown (Err NotFormed) old ≡ shown_in old (if_formed w text)
unfolding if_formed shown_in
unformed-shown w old text f = sym (ap (shown_in old) (if-false _ _ f))

-- ---- the other way: a text that fits the buffer stands there whole, and its length is a count of the buffer's bytes

module _ (old new text : List ℕ) (fits : length text ≤ length old) (r : Result Written Refusal) (e : shown r new ≡ shown_in old (given text)) where
  answer-is : text_of r ≡ given (true, length text)
  unfolding shown_in
  answer-is = ap (λ (o : Shown). o.answer) e ∙ ap (λ (b : Bool). given (b, length text)) (le-leb (length text) (length old) fits)

  buffer-is : new ≡ text ++ drop (length text) old
  unfolding shown_in
  buffer-is = ap (λ (o : Shown). o.buffer) e ∙ ap (λ (l : List ℕ). l ++ drop (length text) old) (take_all (length old) text fits)

  pub whole-written : {n : ℕ} → ((m : ℕ) → text_of r ≡ given (true, m) → n ≡ m) → (take n new ≡ text) × ((n ≤ length new) × (n ≡ length (take n new)))
  whole-written {n} is =
      let count : n ≡ length text = is (length text) answer-is in
      let front : take n new ≡ text = ap₂ {C = List ℕ} take count buffer-is ∙ take-append_seam text (drop (length text) old) in
      (front, (omega (arith, ap length buffer-is, length-append text (drop (length text) old)), count ∙ ap length (sym front)))
