-- What first finds lies in the text, and the part of it is handed back.
use mathlib.Core.Path.{◌≡◌, refl, ap, sym, subst, ◌∙◌}
use mathlib.Core.Bool.{Bool, true, false}
use mathlib.Core.List.{List, [], ◌∷◌}
use mathlib.Core.Option.{Option, none, some, some-injective, none-ne-some}
use Prim.Native.Nat.{ℕ, zero, suc, ◌+◌, ◌-◌, ◌≤◌, ◌<◌}
use native.Mathlib.Omega.{arith}
use lib.ListN.{length, take, drop}
use lib.Seq.{slice, take-nil}
use lib.Dec.{ltb}
use denote.Ref.{Bor}
use Rattle.rules.specs.Sizes.{text_most}
use Rattle.rules.specs.Tools.{up_from, kept, last, or_else}
use Rattle.rules.specs.Table.{Table, takes, longest, starts, first, well_formed}
use Rattle.rules.specs.Matchers.{Part, checked, first_answer}
use Rattle.std.specs.Prelude as std
use Rattle.rules.specs.Answers.{Answer, refusal, refused, given}
use Rattle.answers.specs.Answers.{first_of}
use Rattle.passing.specs.Run.{found_of}
use Rattle.first.specs.Parts.{HandsBack}
use Rattle.ahead.proofs.PlaceLaws.{last_cons}

last_within : (f : ℕ → Bool) (c a e : ℕ) → last (kept f (up_from a c)) ≡ some e → (a ≤ e) × (e < a + c)
last_within f zero a e h = absurd (none-ne-some e h)
last_within f (suc c) a e h = go (f a) (last (kept f (up_from (suc a) c))) refl (last_within f c (suc a) e) h
  where
    go : (b : Bool) (x : Option ℕ) → last (kept f (up_from (suc a) c)) ≡ x → (last (kept f (up_from (suc a) c)) ≡ some e → (suc a ≤ e) × (e < suc a + c))
        → last (elim b [ true ↦ a ∷ kept f (up_from (suc a) c) | false ↦ kept f (up_from (suc a) c) ]) ≡ some e → (a ≤ e) × (e < a + suc c)
    go true none l ih h =
        let z : a ≡ e = some-injective a e (sym (last_cons a (kept f (up_from (suc a) c)) ∙ ap (λ (x : Option ℕ). or_else x (some a)) l) ∙ h) in
        (omega arith, omega arith)
    go true (some x) l ih h =
        let r = ih (l ∙ sym (last_cons a (kept f (up_from (suc a) c)) ∙ ap (λ (x : Option ℕ). or_else x (some a)) l) ∙ h) in
        (omega (arith, r.0), omega (arith, r.1))
    go false x l ih h = let r = ih h in (omega (arith, r.0), omega (arith, r.1))

first-within : (w : Table) (t : List ℕ) (s e : ℕ) → first w t ≡ some (s, e) → (s ≤ e) × (e ≤ length t)
unfolding first longest
first-within w t s e h = go (starts w t) h
  where
    on : (x : ℕ) (o : Option ℕ) → longest w t x ≡ o → ◌≡◌ {A = Option (ℕ × ℕ)} (elim o [ none ↦ none | some y ↦ some (x, y) ]) (some (s, e)) → (s ≤ e) × (e ≤ length t)
    on x none f h = absurd (none-ne-some (s, e) h)
    on x (some y) f h =
        let z : ◌≡◌ {A = ℕ × ℕ} (x, y) (s, e) = some-injective (x, y) (s, e) h in
        let r = last_within (takes w t x) (1 + length t - x) x y f in
        (omega (arith, r.0, ap (λ (p : ℕ × ℕ). p.0) z, ap (λ (p : ℕ × ℕ). p.1) z), omega (arith, r.0, r.1, ap (λ (p : ℕ × ℕ). p.1) z))

    go : (l : List ℕ) → ◌≡◌ {A = Option (ℕ × ℕ)} (elim l [ [] ↦ none | x ∷ xs ↦ elim (longest w t x) [ none ↦ none | some y ↦ some (x, y) ] ]) (some (s, e)) → (s ≤ e) × (e ≤ length t)
    go [] h = absurd (none-ne-some (s, e) h)
    go (x ∷ xs) h = on x (longest w t x) refl h

-- what is answered is first
given_first : (w : Table) (t : List ℕ) (x : Option (ℕ × ℕ)) → first_answer w t ≡ given x → first w t ≡ x
unfolding first_answer checked
given_first w t x h = go (well_formed w) (ltb text_most (length t)) h
  where
    go : (b l : Bool)
        → ◌≡◌ {A = Answer (Option (ℕ × ℕ))} (elim b [ false ↦ refused (refusal 13 0) | true ↦ elim l [ true ↦ refused (refusal 12 0) | false ↦ given (first w t) ] ]) (given x)
        → first w t ≡ x
    go false l e = cc
    go true true e = cc
    go true false e = cc

pub answer-within : (w : Table) (t : List ℕ) (s e : ℕ) → first_answer w t ≡ given (some (s, e)) → (s ≤ e) × (e ≤ length t)
answer-within w t s e h = first-within w t s e (given_first w t (some (s, e)) h)

-- the part of a list from s to e, cut off at either end first
pub cut : (s e : ℕ) (l : List ℕ) → take (e - s) (drop s l) ≡ slice s e l
cut zero e l = let z : e - 0 ≡ e = omega arith in ap (λ (n : ℕ). take n l) z
cut (suc s) zero l = let z : 0 - suc s ≡ 0 = omega arith in ap (λ (n : ℕ). take n (drop (suc s) l)) z
cut (suc s) (suc e) [] = take-nil (suc e - suc s)
cut (suc s) (suc e) (x ∷ l) = let z : suc e - suc s ≡ e - s = omega arith in ap (λ (n : ℕ). take n (drop s l)) z ∙ cut s e l

-- a part that is known is the one to hand back
pub hands-back : {t r : Bor (List ℕ)} {n : ℕ} {o o' : Part} → o ≡ o' → HandsBack t r n o' → HandsBack t r n o
hands-back {t} {r} {n} e h = subst (HandsBack t r n) (sym e) h

pub first_given : (x : std.Option (ℕ × ℕ)) → first_of (std.Ok x) ≡ given (found_of x)
first_given (std.Some x) = refl
first_given std.None = refl
