-- What C and Rust link keeps the demands: `exports-keep`.
use mathlib.Core.Path.{◌≡◌, refl, sym, ap, ◌∙◌, subst, subst⁻¹}
use mathlib.Core.Logic.{◌↔◌, inl, inr}
use mathlib.Core.Bool.{Bool, true, false}
use mathlib.Core.List.{List, [], ◌∷◌, ◌++◌}
use mathlib.Core.Option.{Option, none, some}
use Prim.Native.Nat.{ℕ, ◌≤◌, ◌<◌}
use native.Mathlib.Omega.{arith}
use native.Mathlib.Decide.{dec_lt}
use lib.Dec.{leb}
use lib.ListN.{length, drop}
use Rattle.rules.specs.Meaning.{IsWhole, IsLongest, IsFirst, IsStarts}
use Rattle.rules.specs.Table.{Table, WellFormed, well_formed}
use Rattle.rules.specs.Turned.{Fault, two, two_brace, three, four, five, six, seven, eight, nine}
use Rattle.rules.specs.Answers.{Refusal, refusal, Answer, refused, given, FirstDue}
use Rattle.rules.specs.Listing as rule
use Rattle.rules.specs.Compile.{Room, CompileRefusals, compile}
use Rattle.rules.specs.Matchers.{NotFormed, PastEnd, FewPlaces, MatchRefusals, Listed, listed_in, whole_answer, longest_answer, first_answer, starts_answer}
use Rattle.rules.specs.Demands.{RefusesBy, AllZero, PatternMatches, MatchersRight, lent, Gives}
use Rattle.rules.proofs.Tests.{is_false}
use Rattle.rules.proofs.TableLaws.{well-formed-test}
use Rattle.rules.proofs.Demands.{demands, number-due}
use Rattle.writing.specs.Texts.{shown_in, if_formed}
use Rattle.listing.specs.Lines.{listing_of}
use Rattle.codes.specs.Codes.{whole_code, longest_code, longest_end, first_code, first_start, first_end, starts_code, starts_count, compile_code, compile_rows, compile_head, compile_place, text_code}
use Rattle.demands.specs.Exports.{CompileCall, CompileKept, MatchedBy, ExportsKeep}

-- ---- numbers below those of refusals

whole-low : (a : Bool) → whole_code (given a) < 2
whole-low true = omega arith
whole-low false = omega arith

longest-low : (a : Option ℕ) → longest_code (given a) < 2
longest-low none = omega arith
longest-low (some e) = omega arith

first-low : (a : Option (ℕ × ℕ)) → first_code (given a) < 2
first-low none = omega arith
first-low (some x) = omega arith

text-low : (a : Bool × ℕ) → text_code (given a) < 2
text-low (true, n) = omega arith
text-low (false, n) = omega arith

refuses-by : {k c d : ℕ} (Cs : List (Refusal → Type 0)) → c ≡ d → RefusesBy k Cs d → RefusesBy k Cs c
refuses-by {k} Cs e h = subst⁻¹ (RefusesBy k Cs) e h

-- ---- compiling

-- every refusal of compiling has a number from 1 on
fault-number : {p s : List ℕ} {n : ℕ} → Fault p n s → 0 < n
fault-number (two a b c) = omega arith
fault-number (two_brace a b c) = omega arith
fault-number (three a b) = omega arith
fault-number (four a b) = omega arith
fault-number (five a b) = omega arith
fault-number (six a b) = omega arith
fault-number (seven a b) = omega arith
fault-number (eight a b) = omega arith
fault-number (nine a b) = omega arith

numbered : {r : Refusal} {n i : ℕ} → r ≡ refusal n i → 0 < n → 0 < r.number
numbered e h = subst⁻¹ (λ (r : Refusal). 0 < r.number) e h

due-number : (p : List ℕ) (l : Room) (r : Refusal) → FirstDue (CompileRefusals p l) r → 0 < r.number
due-number p l r (inl c) = numbered c.1 (omega arith)
due-number p l r (inr (n, inl c)) = numbered c.3 (fault-number c.2.fault)
due-number p l r (inr (n, inr (m, inl c))) = numbered c.3 (omega arith)
due-number p l r (inr (n, inr (m, inr (k, inl c)))) = numbered c.3 (omega arith)
due-number p l r (inr (n, inr (m, inr (k, inr c)))) = absurd c.1

-- so 0 is the number of a table only
table-at-0 : (p : List ℕ) (l : Room) (a : Answer (ℕ × ℕ)) → (compile p l).answer ≡ a → compile_code a ≡ 0 → (x : ℕ × ℕ) × (a ≡ given x)
table-at-0 p l (given x) e z = (x, refl)
table-at-0 p l (refused r) e z = absurd (omega (arith, due-number p l r ((demands.one.compile-refuses p l r).0 e)))

module _ {p : List ℕ} {old new : Room} {code rows head place : ℕ} (c : CompileCall p old new code rows head place) where
  gives : code ≡ 0 → Gives p old new rows head
  gives z = go (table-at-0 p old (compile p old).answer refl (sym c.code_is ∙ z))
    where
      go : (x : ℕ × ℕ) × ((compile p old).answer ≡ given x) → Gives p old new rows head
      go (x, e) = record {
        answer = e ∙ ap {B = Answer (ℕ × ℕ)} given (λ i. (sym (c.rows_is ∙ ap (compile_rows c.rows₀) e) i, sym (c.head-is ∙ ap (compile_head c.head₀) e) i));
        room = sym c.room-is;
      }

  compile-kept : CompileKept p old new code rows head place
  compile-kept = record {
    refuses = refuses-by (CompileRefusals p old) c.code_is
        (number-due 1 (CompileRefusals p old) (compile p old).answer (demands.one.compile-refuses p old) compile_code (λ r. refl) (λ x. omega arith));
    placed = λ x d. c.place_is ∙ ap (compile_place c.place₀) ((demands.one.compile-refuses p old x).1 d);
    zero = λ x d. subst (AllZero old) (sym c.room-is) (demands.one.compile-zero p old x d);
    right = λ z. demands.two p old new rows head (gives z);
    smallest = λ z. demands.three p old new rows head (gives z);
  }

-- ---- matching, over a table of the pattern p

module _ (p : List ℕ) (w : Table) (t : List ℕ) (m : MatchersRight p w t) where
  abbrev M : ℕ → ℕ → Type 0
  M = PatternMatches p t

  whole_by : (code : ℕ) → code ≡ whole_code (whole_answer w t) → (code ≤ 1) × ((code ≡ 0) ↔ M 0 (length t))
  whole_by code e = go m.whole.0 (e ∙ ap whole_code m.whole.1) m.whole.2
    where
      go : (a : Bool) → code ≡ whole_code (given a) → IsWhole M (length t) a → (code ≤ 1) × ((code ≡ 0) ↔ M 0 (length t))
      go true e h = (omega arith, (λ z. h.0 tt, λ x. e))
      go false e h = (omega arith, (λ z. absurd (omega arith), λ x. absurd (h.1 x)))

  longest-by : (s code end end₀ : ℕ) → s ≤ length t → code ≡ longest_code (longest_answer w t s) → end ≡ longest_end end₀ (longest_answer w t s)
      → (code ≤ 1) × (code ≡ 0 → IsLongest M s (some end)) × (code ≡ 1 → IsLongest M s none)
  longest-by s code end end₀ l e f = let x = m.longest s l in go x.0 (e ∙ ap longest_code x.1) (f ∙ ap (longest_end end₀) x.1) x.2
    where
      go : (a : Option ℕ) → code ≡ longest_code (given a) → end ≡ longest_end end₀ (given a) → IsLongest M s a
          → (code ≤ 1) × (code ≡ 0 → IsLongest M s (some end)) × (code ≡ 1 → IsLongest M s none)
      go none e f h = (omega arith, (λ z. absurd (omega arith)), λ z. h)
      go (some d) e f h = (omega arith, (λ z. subst⁻¹ (λ (n : ℕ). IsLongest M s (some n)) f h), λ z. absurd (omega arith))

  first_by : (code start end start₀ end₀ : ℕ) → code ≡ first_code (first_answer w t) → start ≡ first_start start₀ (first_answer w t) → end ≡ first_end end₀ (first_answer w t)
      → (code ≤ 1) × (code ≡ 0 → IsFirst M (some (start, end))) × (code ≡ 1 → IsFirst M none)
  first_by code start end start₀ end₀ e f g =
      let x = m.first in go x.0 (e ∙ ap first_code x.1) (f ∙ ap (first_start start₀) x.1) (g ∙ ap (first_end end₀) x.1) x.2
    where
      go : (a : Option (ℕ × ℕ)) → code ≡ first_code (given a) → start ≡ first_start start₀ (given a) → end ≡ first_end end₀ (given a) → IsFirst M a
          → (code ≤ 1) × (code ≡ 0 → IsFirst M (some (start, end))) × (code ≡ 1 → IsFirst M none)
      go none e f g h = (omega arith, (λ z. absurd (omega arith)), λ z. h)
      go (some x) e f g h = (omega arith, (λ z. subst⁻¹ {A = ℕ × ℕ} (λ y. IsFirst M (some y)) (λ i. (f i, g i)) h), λ z. absurd (omega arith))

  starts_by : (code count count₀ : ℕ) (list new : List ℕ) → code ≡ starts_code (starts_answer w t list).answer → count ≡ starts_count count₀ (starts_answer w t list).answer
      → new ≡ (starts_answer w t list).list → (xs : List ℕ) × IsStarts M xs × (count ≡ length xs)
      × (length xs ≤ length list → (code ≡ 0) × (new ≡ xs ++ drop (length xs) list)) × (length list < length xs → (code ≡ 15) × (new ≡ list))
  unfolding listed_in
  starts_by code count count₀ list new e f g =
      let x = m.starts list in (
        x.0,
        x.1,
        counted x.0 (dec_lt (length list) (length x.0)) (λ few. (to (x.3 few)).1) (λ fit. (to (x.2 fit)).1),
        (λ fit. let y = to (x.2 fit) in (y.0, y.2)),
        λ few. let y = to (x.3 few) in (y.0, y.2),
      )
    where
      to : {o : Listed} → starts_answer w t list ≡ o → (code ≡ starts_code o.answer) × (count ≡ starts_count count₀ o.answer) × (new ≡ o.list)
      to q = (e ∙ ap (λ (o : Listed). starts_code o.answer) q, f ∙ ap (λ (o : Listed). starts_count count₀ o.answer) q, g ∙ ap (λ (o : Listed). o.list) q)

      counted : (xs : List ℕ) → Dec (length list < length xs) → (length list < length xs → count ≡ length xs) → (length xs ≤ length list → count ≡ length xs) → count ≡ length xs
      counted xs (yes few) h k = h few
      counted xs (no fit) h k = k (omega arith)

  matched-by : MatchedBy p w t
  matched-by = record { whole = whole_by; longest = longest-by; first = first_by; starts = starts_by }

-- ---- texts

listing-kept : (w : Table) (old new : List ℕ) (code : ℕ) → code ≡ text_code (shown_in old (listing_of w)).answer → new ≡ (shown_in old (listing_of w)).buffer
    → RefusesBy 2 (NotFormed w ∷ []) code × ((WellFormed w → ⊥) → new ≡ old)
unfolding shown_in if_formed
listing-kept w old new code e f = go (well_formed w) (well-formed-test w) e f
  where
    none-due : (WellFormed w) → (r : Refusal) → FirstDue (NotFormed w ∷ []) r → ⊥
    none-due h r (inl c) = c.0 h
    none-due h r (inr c) = c.1

    go : (b : Bool) → (b ≡ true) ↔ WellFormed w → code ≡ text_code (shown_in old (elim b [ true ↦ given (rule.listing (given w)) | false ↦ refused (refusal 13 0) ])).answer
        → new ≡ (shown_in old (elim b [ true ↦ given (rule.listing (given w)) | false ↦ refused (refusal 13 0) ])).buffer
        → RefusesBy 2 (NotFormed w ∷ []) code × ((WellFormed w → ⊥) → new ≡ old)
    go true t e f = (
      λ n k. ((λ z. absurd (omega (arith, text-low (leb (length (rule.listing (given w))) (length old), length (rule.listing (given w)))))), λ (r, d, q). absurd (none-due (t.0 refl) r d)),
      λ no. absurd (no (t.0 refl)),
    )
    go false t e f = (
      λ n k. ((λ z. (refusal 13 0, inl ((λ h. is_false true (sym (t.1 h)) tt), refl), sym e ∙ z)), λ (r, d, q). e ∙ number r d ∙ q),
      λ no. f,
    )
      where
        number : (r : Refusal) → FirstDue (NotFormed w ∷ []) r → 13 ≡ r.number
        number r (inl c) = sym (ap (λ (x : Refusal). x.number) c.1)
        number r (inr c) = absurd c.1

line_kept : (number place : ℕ) (old : List ℕ) (code : ℕ) → code ≡ text_code (shown_in old (given (rule.listing (refused (refusal number place))))).answer → code ≤ 1
unfolding shown_in
line_kept number place old code e = omega (arith, text-low (leb (length (rule.listing (refused (refusal number place)))) (length old), length (rule.listing (refused (refusal number place)))))

pub exports-keep : ExportsKeep
exports-keep = record {
  compile = λ p old new code rows head place c. compile-kept c;
  same = λ p q old new old' new' code rows head place code' rows' head' place' c d z z'. demands.three-same p q old new old' new' rows head rows' head' (gives c z) (gives d z');
  well-formed = λ w r e. (λ h. (well-formed-test w).0 (sym e ∙ h), λ h. e ∙ (well-formed-test w).1 h);
  whole = λ w t code e. refuses-by (MatchRefusals w t []) e
      (number-due 2 (MatchRefusals w t []) (whole_answer w t) (demands.one.whole-refuses w t) whole_code (λ r. refl) whole-low);
  longest = λ w t s code e. refuses-by (MatchRefusals w t (PastEnd t s ∷ [])) e
      (number-due 2 (MatchRefusals w t (PastEnd t s ∷ [])) (longest_answer w t s) (demands.one.longest-refuses w t s) longest_code (λ r. refl) longest-low);
  first = λ w t code e. refuses-by (MatchRefusals w t []) e
      (number-due 2 (MatchRefusals w t []) (first_answer w t) (demands.one.first-refuses w t) first_code (λ r. refl) first-low);
  starts = λ w t list new code e f. (
    refuses-by (MatchRefusals w t (FewPlaces w t list ∷ [])) e
        (number-due 1 (MatchRefusals w t (FewPlaces w t list ∷ [])) (starts_answer w t list).answer (demands.one.starts-refuses w t list) starts_code (λ r. refl) (λ n. omega arith)),
    λ x d. f ∙ demands.one.starts-kept w t list x d,
  );
  listing = listing-kept;
  refusal-line = line_kept;
  matched = λ p old new code rows head place c z t b l. matched-by p (lent new rows head) t ((demands.two p old new rows head (gives c z)).matchers t b l);
}
