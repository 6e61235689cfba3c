-- First, place by place: what the list comes to as a start joins it, as its rows go on by a byte, and at the text's end.
use mathlib.Core.Path.{◌≡◌, refl, ap, sym, subst, ◌∙◌}
use mathlib.Core.Bool.{Bool, true, false}
use mathlib.Core.List.{List}
use mathlib.Core.Option.{Option, some}
use Prim.Native.Nat.{ℕ, suc, ◌+◌, ◌-◌, ◌≤◌, ◌<◌}
use native.Mathlib.Numerals.{add-one}
use native.Mathlib.Omega.{arith}
use lib.ListN.{length, get_or}
use Rattle.rules.specs.Table.{Table, cell, begins, fits}
use Rattle.std.specs.Prelude as std
use Rattle.std.specs.Option.{is_some}
use Rattle.passing.specs.declared.Entry.{Entry}
use Rattle.passing.specs.declared.RowList.{RowList}
use Rattle.ahead.specs.Ahead.{mark, Stuck}
use Rattle.passing.specs.Run.{found_of, or_match, entry_at, first_of_list, first_from, otherwise, outcome, Kept, Joined, Opened, Carried, Advanced}
use Rattle.passing.proofs.FirstLaws.{first-at}
use Rattle.passing.proofs.ListLaws.{match-later, match-here, match-stuck, match-end, otherwise-end}
use Rattle.passing.proofs.KeptLaws.{kept_none}

-- the match that is found plays no part in how the list is kept
kept_best : {count stamp : ℕ} {l : RowList} {b : std.Option (ℕ × ℕ)} → Kept count l stamp → Kept count (record { entries = l.entries; len = l.len; stamps = l.stamps; best = b }) stamp
kept_best k = record { entries_long = k.entries_long; stamps_long = k.stamps_long; below = k.below; stamped = k.stamped; listed = k.listed; apart = k.apart; old = k.old }

module _ (w : Table) (t : List ℕ) where
  -- no start has joined yet
  pub outcome_none : (l : RowList) (s : ℕ) → l.len ≡ 0 → l.best ≡ std.None → first_from w t s ≡ outcome w t l s s
  unfolding outcome first_of_list
  outcome_none l s z e =
      sym (ap (λ (k : ℕ). first_of_list w t s l.entries 0 k (otherwise w t l.best s)) z ∙ ap (λ (b : std.Option (ℕ × ℕ)). otherwise w t b s) e)

  -- ---- a start joins

  pub opened-shut : {l : RowList} {p : ℕ} → Kept w.count l (p + 1) → is_some l.best ≡ true → Opened w t l l p
  unfolding outcome
  opened-shut {l} {p} k e = record {
    kept = k;
    same = ap (first_of_list w t p l.entries 0 l.len) (shut l.best e (p + 1) ∙ sym (shut l.best e p));
    over = λ _. shut l.best e (p + 1);
  }
    where
      shut : (b : std.Option (ℕ × ℕ)) → is_some b ≡ true → (n : ℕ) → otherwise w t b n ≡ found_of b
      shut (std.Some x) e n = refl
      shut std.None e n = cc

  pub opened-new : {l m : RowList} {p q : ℕ} → Joined w.count l m q p (p + 1) → is_some l.best ≡ false → p ≤ length t → q ≡ begins w p → Opened w t l m p
  unfolding outcome
  opened-new {l} {m} {p} {q} j e h f = record {
    kept = j.kept;
    same = j.same w t p (otherwise w t m.best (p + 1)) ∙ ap (first_of_list w t p l.entries 0 l.len) joins;
    over = λ z. absurd (omega (arith, j.some));
  }
    where
      opens : (b : std.Option (ℕ × ℕ)) → is_some b ≡ false → or_match w t p q p (otherwise w t b (p + 1)) ≡ otherwise w t b p
      opens (std.Some x) e = cc
      opens std.None e = ap (λ (q : ℕ). or_match w t p q p (first_from w t (p + 1))) f ∙ sym (first-at w t p h)

      joins : or_match w t p q p (otherwise w t m.best (p + 1)) ≡ otherwise w t l.best p
      joins = ap (λ (b : std.Option (ℕ × ℕ)). or_match w t p q p (otherwise w t b (p + 1))) j.best ∙ opens l.best e

  -- nothing is left in the list
  pub opened-over : {l m : RowList} {p : ℕ} {x : Option (ℕ × ℕ)} → Opened w t l m p → x ≡ outcome w t l p p → m.len ≡ 0 → found_of m.best ≡ x
  unfolding outcome first_of_list
  opened-over {l} {m} {p} o e z =
      sym (e ∙ sym o.same ∙ ap (λ (n : ℕ). first_of_list w t p m.entries 0 n (otherwise w t m.best (p + 1))) z ∙ o.over z)

  -- ---- a row goes on

  pub carried-dead : {l : RowList} {e : Entry} {p q d : ℕ} → Kept w.count l (p + 2) → Stuck w d → ((i : ℕ) → get_or t i 0 < 256)
      → q ≡ cell w e.row.0 (get_or t p 0) → q ≡ d → Carried w t l l e p
  carried-dead {l} {e} {p} {q} {d} k s b h f = record {
    kept = k;
    few = omega arith;
    best = refl;
    same = λ c. sym (ap (first_of_list w t (p + 1) l.entries 0 l.len) (ap (λ (r : ℕ). or_match w t (p + 1) r e.from c) (sym h ∙ f) ∙ match-stuck w t s b (p + 1) e.from c));
    rest = λ i l. refl;
  }

  pub carried-joined : {l m : RowList} {e : Entry} {p q : ℕ} → Joined w.count l m q e.from (p + 2) → q ≡ cell w e.row.0 (get_or t p 0) → Carried w t l m e p
  carried-joined {l} {m} {e} {p} j h = record {
    kept = j.kept;
    few = j.few;
    best = j.best;
    same = λ c. j.same w t (p + 1) c ∙ ap (λ (r : ℕ). first_of_list w t (p + 1) l.entries 0 l.len (or_match w t (p + 1) r e.from c)) h;
    rest = j.rest;
  }

  -- ---- the rows of the list go on

  module _ (old : RowList) (p : ℕ) where
    next-stamp : p + 2 ≡ p + 1 + 1
    next-stamp = omega arith

    -- i of the old entries have gone on, and some of those are in the list
    pub record Running (l : RowList) (i : ℕ) : Type 0 where
      pub kept : Kept w.count l (p + 2)
      pub few : l.len ≤ i
      pub within : i ≤ old.len
      pub best : l.best ≡ old.best
      pub same : (c : Option (ℕ × ℕ)) → first_of_list w t (p + 1) l.entries 0 l.len (first_of_list w t p old.entries i (old.len - i) c) ≡ first_of_list w t p old.entries 0 old.len c
      pub rest : (j : ℕ) → i ≤ j → entry_at l.entries j ≡ entry_at old.entries j

    pub running_none : Kept w.count old (p + 1) → Running (record { entries = old.entries; len = 0; stamps = old.stamps; best = old.best }) 0
    unfolding first_of_list
    running_none k = record {
      kept = kept_none _ refl k.entries_long k.stamps_long (λ q l. omega (arith, k.old q l));
      few = omega arith;
      within = omega arith;
      best = refl;
      same = λ c. let e : old.len - 0 ≡ old.len = omega arith in ap (λ (n : ℕ). first_of_list w t p old.entries 0 n c) e;
      rest = λ j l. refl;
    }

    module _ {l m : RowList} {i : ℕ} {e : Entry} (run : Running l i) (more : i < old.len) (inside : p < length t) (is : e ≡ entry_at l.entries i) (on : Carried w t l m e p) where
      -- the entry at i, and those after it
      entry : (c : Option (ℕ × ℕ)) → first_of_list w t p old.entries i (old.len - i) c ≡ or_match w t p e.row.0 e.from (first_of_list w t p old.entries (i + 1) (old.len - (i + 1)) c)
      unfolding first_of_list
      entry c =
          let left : old.len - i ≡ suc (old.len - (i + 1)) = omega arith in
          ap (λ (k : ℕ). first_of_list w t p old.entries i k c) left
          ∙ ap (λ (k : ℕ). or_match w t p (entry_at old.entries i).row.0 (entry_at old.entries i).from (first_of_list w t p old.entries k (old.len - (i + 1)) c)) (sym (add-one i))
          ∙ sym (ap (λ (e : Entry). or_match w t p e.row.0 e.from (first_of_list w t p old.entries (i + 1) (old.len - (i + 1)) c)) (is ∙ run.rest i (omega arith)))

      pub running_more : fits (mark w e.row.0) false ≡ false → Running m (i + 1)
      running_more miss = record {
        kept = on.kept;
        few = omega (arith, on.few, run.few);
        within = omega arith;
        best = on.best ∙ run.best;
        same = λ c.
            on.same (first_of_list w t p old.entries (i + 1) (old.len - (i + 1)) c)
            ∙ ap (first_of_list w t (p + 1) l.entries 0 l.len) (sym (entry c ∙ match-later w t inside e.row.0 e.from (first_of_list w t p old.entries (i + 1) (old.len - (i + 1)) c) miss))
            ∙ run.same c;
        rest = λ j a. on.rest j (omega (arith, run.few)) ∙ run.rest j (omega arith);
      }

      -- a match ends here
      pub running-hit : fits (mark w e.row.0) false ≡ true → Advanced w t old (record { entries = m.entries; len = m.len; stamps = m.stamps; best = std.Some (e.from, p) }) p
      unfolding outcome
      running-hit hit =
          let after : Option (ℕ × ℕ) = otherwise w t old.best (p + 1) in record {
            kept = kept_best (subst (Kept w.count m) next-stamp on.kept);
            same =
                on.same (some (e.from, p))
                ∙ ap (first_of_list w t (p + 1) l.entries 0 l.len) (sym (entry after ∙ match-here w t inside e.row.0 e.from (first_of_list w t p old.entries (i + 1) (old.len - (i + 1)) after) hit))
                ∙ run.same after;
          }

    pub running-all : {l : RowList} {i : ℕ} → Running l i → old.len ≤ i → Advanced w t old l p
    unfolding outcome first_of_list
    running-all {l} {i} run h =
        let none_left : 0 ≡ old.len - i = omega (arith, run.within) in record {
          kept = subst (Kept w.count l) next-stamp run.kept;
          same =
              ap (λ (b : std.Option (ℕ × ℕ)). first_of_list w t (p + 1) l.entries 0 l.len (otherwise w t b (p + 1))) run.best
              ∙ ap (λ (k : ℕ). first_of_list w t (p + 1) l.entries 0 l.len (first_of_list w t p old.entries i k (otherwise w t old.best (p + 1)))) none_left
              ∙ run.same (otherwise w t old.best (p + 1));
        }

  -- ---- at the text's end

  module _ (l : RowList) where
    -- what is found if no entry makes a match
    abbrev no_entry : Option (ℕ × ℕ)
    no_entry = otherwise w t l.best (length t + 1)

    -- the entries before i make no match
    pub record Closing (i : ℕ) : Type 0 where
      pub within : i ≤ l.len
      pub same : first_of_list w t (length t) l.entries i (l.len - i) no_entry ≡ outcome w t l (length t + 1) (length t)

    pub closing_none : Closing 0
    unfolding outcome
    closing_none = record { within = omega arith; same = let e : l.len - 0 ≡ l.len = omega arith in ap (λ (n : ℕ). first_of_list w t (length t) l.entries 0 n no_entry) e }

    module _ {i : ℕ} (c : Closing i) where
      closes : i < l.len → (b : Bool) → fits (mark w (entry_at l.entries i).row.0) true ≡ b
          → first_of_list w t (length t) l.entries i (l.len - i) no_entry
          ≡ elim b [ true ↦ some ((entry_at l.entries i).from, length t) | false ↦ first_of_list w t (length t) l.entries (i + 1) (l.len - (i + 1)) no_entry ]
      unfolding first_of_list
      closes h b e =
          let left : l.len - i ≡ suc (l.len - (i + 1)) = omega arith in
          ap (λ (k : ℕ). first_of_list w t (length t) l.entries i k no_entry) left
          ∙ ap (λ (k : ℕ). or_match w t (length t) (entry_at l.entries i).row.0 (entry_at l.entries i).from (first_of_list w t (length t) l.entries k (l.len - (i + 1)) no_entry)) (sym (add-one i))
          ∙ match-end w t (entry_at l.entries i).row.0 (entry_at l.entries i).from (first_of_list w t (length t) l.entries (i + 1) (l.len - (i + 1)) no_entry) b e

      pub closing_more : i < l.len → {e : Entry} → e ≡ entry_at l.entries i → fits (mark w e.row.0) true ≡ false → Closing (i + 1)
      closing_more h is f = record { within = omega arith; same = sym (closes h false (sym (ap (λ (e : Entry). fits (mark w e.row.0) true) is) ∙ f)) ∙ c.same }

      pub closing-hit : i < l.len → {e : Entry} → e ≡ entry_at l.entries i → fits (mark w e.row.0) true ≡ true → some (e.from, length t) ≡ outcome w t l (length t + 1) (length t)
      closing-hit h is f =
          ap (λ (e : Entry). some (e.from, length t)) is ∙ sym (closes h true (sym (ap (λ (e : Entry). fits (mark w e.row.0) true) is) ∙ f)) ∙ c.same

      pub closing-all : l.len ≤ i → found_of l.best ≡ outcome w t l (length t + 1) (length t)
      unfolding first_of_list
      closing-all h =
          let none_left : 0 ≡ l.len - i = omega arith in
          sym (otherwise-end w t l.best) ∙ ap (λ (k : ℕ). first_of_list w t (length t) l.entries i k no_entry) none_left ∙ c.same
