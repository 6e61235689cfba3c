-- The functions that run keep the demands: `functions-keep`.
use mathlib.Core.Path.{◌≡◌, sym, ap, ◌∙◌, subst}
use mathlib.Core.List.{List, [], ◌∷◌}
use Prim.Native.Nat.{ℕ}
use denote.Ref.{Bor}
use Rattle.rules.specs.Table.{Table}
use Rattle.rules.specs.Answers.{Refusal, Answer, refused, FirstDue}
use Rattle.rules.specs.Compile.{Room, CompileRefusals}
use Rattle.rules.specs.Matchers.{PastEnd, FewPlaces, MatchRefusals, Part, part_of, Listed, part_answer, starts_answer}
use Rattle.rules.specs.Demands.{Refuses, RefusesBy, AllZero, lent, MatchersRight, Gives}
use Rattle.rules.proofs.Demands.{demands}
use Rattle.std.specs.Prelude.{Ok}
use Rattle.first.specs.Parts.{HandsBack}
use Rattle.answers.specs.Answers.{starts_of, listed_of, compiled_of}
use Rattle.compile.specs.Outcomes.{Compiles}
use Rattle.answers.specs.declared.Drawn.{Drawn}
use Rattle.demands.specs.Functions.{Answered, MatchersKept, FunctionsKeep}

-- ---- 1

-- an answer that is what is computed is refused when that is
refuses-too : {A : Type 0} (Cs : List (Refusal → Type 0)) {x y : Answer A} → x ≡ y → Refuses Cs y → Refuses Cs x
refuses-too {A} Cs e h = subst {A = Answer A} (λ a. Refuses Cs a) (sym e) h

compile-kept : (p : List ℕ) (old new : Room) (r : Answered Drawn) → Compiles p old new r
    → Refuses (CompileRefusals p old) (compiled_of r) × ((x : Refusal) → FirstDue (CompileRefusals p old) x → AllZero old new)
compile-kept p old new r c = (
  refuses-too (CompileRefusals p old) c.answer (demands.one.compile-refuses p old),
  λ x d. subst (AllZero old) (sym c.room) (demands.one.compile-zero p old x d),
)

-- a part that is handed back as o says is handed back as an equal one says
handed-as : {t r : Bor (List ℕ)} {number : ℕ} {o q : Part} → o ≡ q → HandsBack t r number o → HandsBack t r number q
handed-as {t} {r} {number} e h = subst (HandsBack t r number) e h

part-kept : (w : Table) (t r : Bor (List ℕ)) (number : ℕ) → HandsBack t r number (part_answer w t.now)
    → RefusesBy 2 (MatchRefusals w t.now []) number × ((x : Refusal) → FirstDue (MatchRefusals w t.now []) x → HandsBack t r number (part_of t.now (refused x)))
unfolding part_of
part-kept w t r number h = (
  subst (RefusesBy 2 (MatchRefusals w t.now [])) (sym h.outcome) (demands.one.part-refuses w t.now),
  λ x d. handed-as (demands.one.part-empty w t.now x d) h,
)

starts-kept : (w : Table) (t list new : List ℕ) (r : Answered ℕ) → listed_of r new ≡ starts_answer w t list
    → Refuses (MatchRefusals w t (FewPlaces w t list ∷ [])) (starts_of r) × ((x : Refusal) → FirstDue (MatchRefusals w t (FewPlaces w t list ∷ [])) x → new ≡ list)
starts-kept w t list new r h = (
  refuses-too (MatchRefusals w t (FewPlaces w t list ∷ [])) (ap (λ (o : Listed). o.answer) h) (demands.one.starts-refuses w t list),
  λ x d. ap (λ (o : Listed). o.list) h ∙ demands.one.starts-kept w t list x d,
)

-- ---- 2 and 3

gives : {p : List ℕ} {old new : Room} {d : Drawn} → Compiles p old new (Ok d) → Gives p old new d.rows d.head.0
gives c = record { answer = sym c.answer; room = sym c.room }

matchers-kept : (p : List ℕ) (w : Table) (t : List ℕ) → MatchersRight p w t → MatchersKept p w t
matchers-kept p w t m = record {
  whole = λ r e. (m.whole.0, e ∙ m.whole.1, m.whole.2);
  longest = λ s l r e. let x = m.longest s l in (x.0, e ∙ x.1, x.2);
  first = λ r e. (m.first.0, e ∙ m.first.1, m.first.2);
  first_part = λ text r number e h. (m.part.0, handed-as m.part.1 h, m.part.2);
  starts = λ list new r e. let x = m.starts list in (x.0, x.1, (λ fit. e ∙ x.2 fit), λ few. e ∙ x.3 few);
}

pub functions-keep : FunctionsKeep
functions-keep = record {
  one = record {
    compile = compile-kept;
    whole = λ w t r e. refuses-too (MatchRefusals w t []) e (demands.one.whole-refuses w t);
    longest = λ w t s r e. refuses-too (MatchRefusals w t (PastEnd t s ∷ [])) e (demands.one.longest-refuses w t s);
    first = λ w t r e. refuses-too (MatchRefusals w t []) e (demands.one.first-refuses w t);
    first_part = part-kept;
    starts = starts-kept;
  };
  two = λ p old new d c. demands.two p old new d.rows d.head.0 (gives c);
  two-matchers = λ p old new d c t b l. matchers-kept p (lent new d.rows d.head.0) t ((demands.two p old new d.rows d.head.0 (gives c)).matchers t b l);
  three = λ p old new d c. demands.three p old new d.rows d.head.0 (gives c);
  three-same = λ p q old new old' new' d e c f. demands.three-same p q old new old' new' d.rows d.head.0 e.rows e.head.0 (gives c) (gives f);
}
