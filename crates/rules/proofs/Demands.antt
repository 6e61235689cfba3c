-- The demands are kept: `demands`.
use mathlib.Core.Path.{◌≡◌, refl, sym, ap, ap₂, ◌∙◌, subst}
use mathlib.Core.Logic.{◌↔◌}
use mathlib.Core.Bool.{Bool, true, false}
use mathlib.Core.List.{List, [], ◌∷◌}
use mathlib.Core.Option.{Option, none, some}
use Prim.Native.Nat.{ℕ, ◌*◌, ◌-◌, ◌≤◌, ◌<◌}
use native.Mathlib.Omega.{arith}
use lib.Dec.{T, ltb}
use lib.ListN.{length, take, replicate}
use lib.Seq.{take_at}
use borrow.Author.Tests.{le-ltb, lt-ltb}
use Rattle.rules.specs.Sizes.{text_most}
use Rattle.rules.specs.Table.{Table, takes, WellFormed, well_formed, whole, longest, first, starts}
use Rattle.rules.specs.Drawing.{Bytes, OnStretches, Exact}
use Rattle.rules.specs.Answers.{Refusal, Answer, refused, given, FirstDue}
use Rattle.rules.specs.Compile.{Room, CompileRefusals, over, leaves, drawn, compile}
use Rattle.rules.specs.Matchers.{FewPlaces, few_places, MatchRefusals, part_of, listed_in, whole_answer, first_answer, part_answer, starts_found, starts_answer}
use Rattle.rules.specs.Demands.{PatternMatch, PatternMatches, AnswersBy, Refuses, RefusesBy, AllZero, MatchersRight, lent, drawing, Gives, Demand1, Demand2, Demand3, SamePatterns, Demands}
use Rattle.rules.proofs.TableLaws.{well-formed-test, checked-past, longest-start}
use Rattle.rules.proofs.LentTable.{longer, longer-formed, longer-takes}
use Rattle.rules.proofs.Drawings.{answers_by}
use Rattle.rules.proofs.MatchersOnce.{whole-refuses, longest-refuses, first-refuses, starts-refuses}
use Rattle.rules.proofs.CompileOnce.{drawn-refuses, drawn-exact, drawn-formed, drawn-right, drawn-only, drawn-same}

-- ---- 1

-- the number of an answer that is refused exactly when a refusal is due; other answers have numbers below k
pub number-due : {A : Type 0} (k : ℕ) (Cs : List (Refusal → Type 0)) (x : Answer A) → Refuses Cs x → (f : Answer A → ℕ)
    → ((r : Refusal) → f (refused r) ≡ r.number) → ((a : A) → f (given a) < k) → RefusesBy k Cs (f x)
number-due {A} k Cs x due f number low n kn = (go x refl, λ (r, d, e). ap f ((due r).1 d) ∙ number r ∙ e)
  where
    go : (y : Answer A) → x ≡ y → f x ≡ n → (r : Refusal) × FirstDue Cs r × (r.number ≡ n)
    go (refused r) e h = (r, (due r).0 e, sym (number r) ∙ sym (ap f e) ∙ h)
    go (given a) e h = absurd (let z : f x ≡ f (given a) = ap f e in omega (arith, low a))

is_given : {A : Type 0} → Answer A → ℕ
is_given (refused r) = 0
is_given (given x) = 1

same-refusal : (p : List ℕ) (l : Room) (r : Refusal) → ((compile p l).answer ≡ refused r) ↔ (drawn p l ≡ refused r)
unfolding compile leaves is_given
same-refusal p l r = go (drawn p l)
  where
    out : Answer (ℕ × ℕ) → Answer Table
    out (refused q) = refused q
    out (given y) = refused r

    go : (a : Answer Table) → ((leaves l a).answer ≡ refused r) ↔ (a ≡ refused r)
    go (refused q) = (λ e. ap out e, λ e. ap (λ (b : Answer Table). (leaves l b).answer) e)
    go (given w) = (λ e. absurd (let z = ap is_given e in omega arith), λ e. ap (λ (b : Answer Table). (leaves l b).answer) e)

compile-refuses : (p : List ℕ) (l : Room) → Refuses (CompileRefusals p l) (compile p l).answer
compile-refuses p l r = (λ e. (drawn-refuses p l r).0 ((same-refusal p l r).0 e), λ d. (same-refusal p l r).1 ((drawn-refuses p l r).1 d))

zeros : (xs : List ℕ) → over [] xs ≡ replicate (length xs) 0
zeros xs = ap (λ (n : ℕ). replicate n 0) none-taken
  where
    none-taken : length xs - 0 ≡ length xs
    none-taken = omega arith

compile-zero : (p : List ℕ) (l : Room) (r : Refusal) → FirstDue (CompileRefusals p l) r → AllZero l (compile p l).room
unfolding compile leaves
compile-zero p l r d = subst (λ (a : Answer Table). AllZero l (leaves l a).room) (sym ((drawn-refuses p l r).1 d))
    (record { cells = zeros l.cells; marks = zeros l.marks; sets = zeros l.sets })

module _ (w : Table) (t : List ℕ) where
  part-refuses : RefusesBy 2 (MatchRefusals w t []) (part_answer w t).number
  unfolding part_answer part_of
  part-refuses = number-due 2 (MatchRefusals w t []) (first_answer w t) (first-refuses w t) (λ x. (part_of t x).number) (λ r. refl) low
    where
      low : (a : Option (ℕ × ℕ)) → (part_of t (given a)).number < 2
      low none = omega arith
      low (some x) = omega arith

  part-empty : (r : Refusal) → FirstDue (MatchRefusals w t []) r → part_answer w t ≡ record { number = r.number; place = 0; part = [] }
  unfolding part_answer part_of
  part-empty r d = ap (part_of t) ((first-refuses w t r).1 d)

  -- what is found, as it is listed: a refusal is one either way
  listed-refusal : (list : List ℕ) (r : Refusal) (x : Answer (List ℕ)) → ((listed_in list x).answer ≡ refused r) ↔ (x ≡ refused r)
  unfolding listed_in is_given
  listed-refusal list r (refused q) = (λ e. ap out e, λ e. ap (λ (y : Answer (List ℕ)). (listed_in list y).answer) e)
    where
      out : Answer ℕ → Answer (List ℕ)
      out (refused q) = refused q
      out (given n) = given []
  listed-refusal list r (given xs) = (λ e. absurd (let z = ap is_given e in omega arith), λ e. ap (λ (y : Answer (List ℕ)). (listed_in list y).answer) e)

  starts-refused : (list : List ℕ) → Refuses (MatchRefusals w t (FewPlaces w t list ∷ [])) (starts_answer w t list).answer
  unfolding starts_answer
  starts-refused list r = let x = listed-refusal list r (starts_found w t list) in
      (λ e. (starts-refuses w t list r).0 (x.0 e), λ d. x.1 ((starts-refuses w t list r).1 d))

  starts-kept : (list : List ℕ) (r : Refusal) → FirstDue (MatchRefusals w t (FewPlaces w t list ∷ [])) r → (starts_answer w t list).list ≡ list
  unfolding starts_answer listed_in
  starts-kept list r d = ap (λ (x : Answer (List ℕ)). (listed_in list x).list) ((starts-refuses w t list r).1 d)

demand-1 : Demand1
demand-1 = record {
  compile-refuses = compile-refuses;
  compile-zero = compile-zero;
  whole-refuses = whole-refuses;
  longest-refuses = longest-refuses;
  first-refuses = first-refuses;
  part-refuses = part-refuses;
  part-empty = part-empty;
  starts-refuses = starts-refused;
  starts-kept = starts-kept;
}

-- ---- what was drawn stands at the front of the room, and zeros past it

record Stood (p : List ℕ) (l new : Room) (rows head : ℕ) : Type 0 where
  table : Table
  drew : drawn p l ≡ given table
  count : rows ≡ table.count
  first : head ≡ table.head
  cells : new.cells ≡ over table.cells l.cells
  marks : new.marks ≡ over table.marks l.marks

sizes : Answer (ℕ × ℕ) → ℕ × ℕ
sizes (refused r) = (0, 0)
sizes (given x) = x

module _ {p : List ℕ} {l new : Room} {rows head : ℕ} (g : Gives p l new rows head) where
  stood : Stood p l new rows head
  unfolding compile leaves is_given sizes
  stood = go (drawn p l) refl g.answer g.room
    where
      go : (a : Answer Table) → drawn p l ≡ a → (leaves l a).answer ≡ given (rows, head) → (leaves l a).room ≡ new → Stood p l new rows head
      go (refused r) e x y = absurd (let z = ap is_given x in omega arith)
      go (given w) e x y = record {
        table = w;
        drew = e;
        count = sym (ap (λ (a : Answer (ℕ × ℕ)). (sizes a).0) x);
        first = sym (ap (λ (a : Answer (ℕ × ℕ)). (sizes a).1) x);
        cells = sym (ap (λ (l : Room). l.cells) y);
        marks = sym (ap (λ (l : Room). l.marks) y);
      }

  -- ---- 2

  abbrev W : Table
  W = lent new rows head

  is-longer : (P : Table → Type 0) → ((w : Table) → drawn p l ≡ given w → (f : WellFormed w) (ms cs : List ℕ) → P (longer f ms cs)) → P W
  is-longer P h =
      let S : Stood p l new rows head = stood in
      subst P (sym (λ i. record { count = S.count i; head = S.first i; marks = S.marks i; cells = S.cells i }))
      (h S.table S.drew (drawn-formed p l S.table S.drew) _ _)

  lent-formed : WellFormed W
  lent-formed = is-longer WellFormed (λ w e f ms cs. longer-formed f ms cs)

  lent-right : OnStretches (λ t s e. T (takes W t s e) ↔ PatternMatch p t s e)
  lent-right = is-longer (λ v. OnStretches (λ t s e. T (takes v t s e) ↔ PatternMatch p t s e))
      (λ w e f ms cs t h i j ij lj. subst (λ (b : Bool). T b ↔ PatternMatch p t i j) (sym (longer-takes f ms cs t h i j)) (drawn-right p l w e t h i j ij lj))

  lent-matched : (t : List ℕ) → Bytes t → length t ≤ text_most → MatchersRight p W t
  unfolding whole_answer first_answer part_answer starts_answer starts_found
  lent-matched t h lt =
      let a : AnswersBy (PatternMatches p t) W t = answers_by (PatternMatch p t) W t (lent-right t h) in
      let e : well_formed W ≡ true = (well-formed-test W).1 lent-formed in
      record {
        whole = (whole W t, checked-past W t _ e lt, a.whole-right);
        longest = λ s ls. (longest W t s, longest-start W t s e lt false (le-ltb (length t) s ls), a.longest-right s);
        first = (first W t, checked-past W t _ e lt, a.first-right);
        part = (first W t, ap (part_of t) (checked-past W t _ e lt), a.first-right);
        starts = λ list.
            let found : Bool → Answer (List ℕ) = λ b. elim b [ true ↦ refused (few_places (starts W t)) | false ↦ given (starts W t) ] in
            let x : starts_found W t list ≡ found (ltb (length list) (length (starts W t))) = checked-past W t _ e lt in (
              starts W t,
              a.starts-right,
              (λ fit. ap (listed_in list) (x ∙ ap found (le-ltb (length list) (length (starts W t)) fit))),
              λ few. ap (listed_in list) (x ∙ ap found (lt-ltb (length list) (length (starts W t)) few)),
            );
      }

  demand-2 : Demand2 p W
  demand-2 = record { well-formed = lent-formed; right = lent-right; matchers = lent-matched }

  -- ---- 3

  -- the room without what is past the table is what was drawn
  pub is-drawn : (w : Table) × (drawn p l ≡ given w) × (drawing new rows head ≡ w)
  is-drawn =
      let S : Stood p l new rows head = stood in
      let own : Exact S.table = drawn-exact p l S.table S.drew in (
        S.table,
        S.drew,
        λ i. record {
          count = S.count i;
          head = S.first i;
          marks = (ap₂ {C = List ℕ} (λ (n : ℕ) (l : List ℕ). take n l) S.count S.marks ∙ take_at S.table.marks _ S.table.count own.marks-exact) i;
          cells = (ap₂ {C = List ℕ} (λ (n : ℕ) (l : List ℕ). take (256 * n) l) S.count S.cells ∙ take_at S.table.cells _ (256 * S.table.count) own.cells-exact) i;
        },
      )

  demand-3 : Demand3 (drawing new rows head)
  demand-3 = let x = is-drawn in subst Demand3 (sym x.2) (drawn-only p l x.0 x.1)

demand-3-same : (p q : List ℕ) (l new l' new' : Room) (rows head rows' head' : ℕ) → Gives p l new rows head → Gives q l' new' rows' head'
    → (drawing new rows head ≡ drawing new' rows' head') ↔ SamePatterns p q
demand-3-same p q l new l' new' rows head rows' head' c d =
    let x = is-drawn c in let y = is-drawn d in
    let z = drawn-same p q l l' x.0 y.0 x.1 y.1 in
    (λ e. z.0 (sym x.2 ∙ e ∙ y.2), λ h. x.2 ∙ z.1 h ∙ sym y.2)

pub demands : Demands
demands = record {
  one = demand-1;
  two = λ p l new rows head. demand-2;
  three = λ p l new rows head. demand-3;
  three-same = demand-3-same;
}
