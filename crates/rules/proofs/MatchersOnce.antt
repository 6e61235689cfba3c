-- The matchers: what is computed fits what is asked, no second answer does, and refusals are given exactly when they are due.
use mathlib.Core.Path.{◌≡◌, refl, sym, ap, ◌∙◌}
use mathlib.Core.Logic.{inl, inr, ◌↔◌}
use mathlib.Core.Bool.{Bool, true, false}
use mathlib.Core.List.{List, [], ◌∷◌}
use mathlib.Core.Option.{Option}
use Prim.Native.Nat.{ℕ, ◌<◌}
use native.Mathlib.Decide.{dec_lt}
use lib.Dec.{T, ltb}
use lib.ListN.{length}
use Rattle.rules.specs.Sizes.{text_most}
use Rattle.rules.specs.Meaning.{IsWhole, IsLongest, IsFirst, IsStarts}
use Rattle.rules.specs.Table.{Table, Takes, WellFormed, well_formed, whole, longest, first, starts}
use Rattle.rules.specs.Answers.{Refusal, refusal, Answer, refused, given, Due, FirstDue}
use Rattle.rules.specs.Matchers.{NotFormed, LongText, PastEnd, few_places, FewPlaces, MatchRefusals, Wholes, Longests, Firsts, Part, part_of, Parts, Listed, listed_in, Starts, checked, whole_answer, longest_answer, first_answer, part_answer, starts_found, starts_answer}
use Rattle.rules.proofs.Tests.{is_false, lt_test}
use Rattle.rules.proofs.TableLaws.{well-formed-test}
use Rattle.rules.proofs.Answers.{whole-only, longest-only, first-only, starts-only, whole_is, longest-is, starts_is, first-is}
use Rattle.rules.proofs.Refusals.{Decided, AllDecided, below-decided, due-once, due-exactly, tested}

-- ---- each condition is decided

module _ (w : Table) (t : List ℕ) where
  formed-decided : Decided (NotFormed w)
  formed-decided = go (well_formed w) (well-formed-test w)
    where
      go : (b : Bool) → (b ≡ true) ↔ WellFormed w → Decided (NotFormed w)
      go true f = inr (λ q c. c.0 (f.0 refl))
      go false f = inl (refusal 13 0, (λ g. is_false true (sym (f.1 g)) tt, refl))

  text-decided : Decided (LongText t)
  text-decided = below-decided text_most (length t) (refusal 12 0)

  places-decided : (list : List ℕ) → Decided (FewPlaces w t list)
  places-decided list = go (dec_lt (length list) (length (starts w t)))
    where
      go : Dec (length list < length (starts w t)) → Decided (FewPlaces w t list)
      go (yes l) = inl (few_places (starts w t), (starts w t, starts_is w t, l, refl))
      go (no l) = inr (λ q c. l (rw (starts-only (starts w t) c.0 (starts_is w t) c.1) c.2))

  -- ---- what is computed fits

  -- 13, then 12, then what is due after them
  checks : {A : Type 0} (P : A → Type 0) (Cs : List (Refusal → Type 0)) (x : Answer A) → Due Cs P x → Due (MatchRefusals w t Cs) P (checked w t x)
  unfolding checked
  checks {A} P Cs x h = go (well_formed w) (well-formed-test w)
    where
      rest : Due (LongText t ∷ Cs) P (elim (ltb text_most (length t)) [ true ↦ refused (refusal 12 0) | false ↦ x ])
      rest = tested P (LongText t) Cs (refusal 12 0) (ltb text_most (length t)) (λ q c. ((lt_test text_most (length t)).1 c.0, c.1)) (λ l. ((lt_test text_most (length t)).0 l, refl)) x (λ n. h)

      go : (b : Bool) → (b ≡ true) ↔ WellFormed w
          → Due (MatchRefusals w t Cs) P (elim b [ false ↦ refused (refusal 13 0) | true ↦ elim (ltb text_most (length t)) [ true ↦ refused (refusal 12 0) | false ↦ x ] ])
      go true f = (λ q c. absurd (c.0 (f.0 refl)), λ n. rest)
      go false f = (λ q c. ap {B = Answer A} refused (sym c.1), λ n. absurd (n (refusal 13 0) (λ g. is_false true (sym (f.1 g)) tt, refl)))

  pub whole-fits : Wholes w t (whole_answer w t)
  unfolding whole_answer
  whole-fits = checks (IsWhole (Takes w t) (length t)) [] (given (whole w t)) (whole_is w t)

  pub longest-fits : (s : ℕ) → Longests w t s (longest_answer w t s)
  unfolding longest_answer
  longest-fits s = checks (IsLongest (Takes w t) s) (PastEnd t s ∷ []) _
      (tested (IsLongest (Takes w t) s) (PastEnd t s) [] (refusal 14 0) (ltb (length t) s) (λ q c. ((lt_test (length t) s).1 c.0, c.1)) (λ l. ((lt_test (length t) s).0 l, refl)) (given (longest w t s)) (λ n. longest-is w t s))

  pub first_fits : Firsts w t (first_answer w t)
  unfolding first_answer
  first_fits = checks (IsFirst (Takes w t)) [] (given (first w t)) (first-is w t)

  pub part-fits : Parts w t (part_answer w t)
  unfolding part_answer
  part-fits = record { found = first_answer w t; firsts = first_fits; result = refl }

  starts-due : (list : List ℕ) → Due (MatchRefusals w t (FewPlaces w t list ∷ [])) (IsStarts (Takes w t)) (starts_found w t list)
  unfolding starts_found
  starts-due list = checks (IsStarts (Takes w t)) (FewPlaces w t list ∷ []) _
      (tested (IsStarts (Takes w t)) (FewPlaces w t list) [] (few_places (starts w t)) (ltb (length list) (length (starts w t))) only holds (given (starts w t)) (λ n. starts_is w t))
    where
      only : (q : Refusal) → FewPlaces w t list q → T (ltb (length list) (length (starts w t))) × (q ≡ few_places (starts w t))
      only q c = let e : c.0 ≡ starts w t = starts-only c.0 (starts w t) c.1 (starts_is w t) in
          ((lt_test (length list) (length (starts w t))).1 (rw e at c.2), c.3 ∙ ap few_places e)

      holds : T (ltb (length list) (length (starts w t))) → FewPlaces w t list (few_places (starts w t))
      holds l = (starts w t, starts_is w t, (lt_test (length list) (length (starts w t))).0 l, refl)

  pub starts-fits : (list : List ℕ) → Starts w t list (starts_answer w t list)
  unfolding starts_answer
  starts-fits list = record { found = starts_found w t list; due = starts-due list; result = refl }

  -- ---- every condition is decided

  match-decided : AllDecided (MatchRefusals w t [])
  match-decided = (formed-decided, (text-decided, tt))

  longest-decided : (s : ℕ) → AllDecided (MatchRefusals w t (PastEnd t s ∷ []))
  longest-decided s = (formed-decided, (text-decided, (below-decided (length t) s (refusal 14 0), tt)))

  starts-decided : (list : List ℕ) → AllDecided (MatchRefusals w t (FewPlaces w t list ∷ []))
  starts-decided list = (formed-decided, (text-decided, (places-decided list, tt)))

  -- ---- no second answer fits

  pub whole-once : (x y : Answer Bool) → Wholes w t x → Wholes w t y → x ≡ y
  whole-once = due-once (IsWhole (Takes w t) (length t)) (MatchRefusals w t []) match-decided (whole-only (Takes w t) (length t))

  pub longest-once : (s : ℕ) (x y : Answer (Option ℕ)) → Longests w t s x → Longests w t s y → x ≡ y
  longest-once s = due-once (IsLongest (Takes w t) s) (MatchRefusals w t (PastEnd t s ∷ [])) (longest-decided s) (longest-only (Takes w t) s)

  pub first-once : (x y : Answer (Option (ℕ × ℕ))) → Firsts w t x → Firsts w t y → x ≡ y
  first-once = due-once (IsFirst (Takes w t)) (MatchRefusals w t []) match-decided (first-only (Takes w t))

  pub part-once : (x y : Part) → Parts w t x → Parts w t y → x ≡ y
  part-once x y a b = a.result ∙ ap (part_of t) (first-once a.found b.found a.firsts b.firsts) ∙ sym b.result

  pub starts-once : (list : List ℕ) (x y : Listed) → Starts w t list x → Starts w t list y → x ≡ y
  starts-once list x y a b =
      a.result ∙ ap (listed_in list) (due-once (IsStarts (Takes w t)) (MatchRefusals w t (FewPlaces w t list ∷ [])) (starts-decided list) starts-only a.found b.found a.due b.due) ∙ sym b.result

  -- ---- a refusal is given exactly when it is due

  pub whole-refuses : (r : Refusal) → (whole_answer w t ≡ refused r) ↔ FirstDue (MatchRefusals w t []) r
  whole-refuses = due-exactly (IsWhole (Takes w t) (length t)) (MatchRefusals w t []) match-decided (whole_answer w t) whole-fits

  pub longest-refuses : (s : ℕ) (r : Refusal) → (longest_answer w t s ≡ refused r) ↔ FirstDue (MatchRefusals w t (PastEnd t s ∷ [])) r
  longest-refuses s = due-exactly (IsLongest (Takes w t) s) (MatchRefusals w t (PastEnd t s ∷ [])) (longest-decided s) (longest_answer w t s) (longest-fits s)

  pub first-refuses : (r : Refusal) → (first_answer w t ≡ refused r) ↔ FirstDue (MatchRefusals w t []) r
  first-refuses = due-exactly (IsFirst (Takes w t)) (MatchRefusals w t []) match-decided (first_answer w t) first_fits

  pub starts-refuses : (list : List ℕ) (r : Refusal) → (starts_found w t list ≡ refused r) ↔ FirstDue (MatchRefusals w t (FewPlaces w t list ∷ [])) r
  starts-refuses list = due-exactly (IsStarts (Takes w t)) (MatchRefusals w t (FewPlaces w t list ∷ [])) (starts-decided list) (starts_found w t list) (starts-due list)
