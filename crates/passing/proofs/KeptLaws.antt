-- How the list of first is kept: a row joins it once, and there is always a place for it.
use mathlib.Core.Path.{◌≡◌, refl, ap, sym, ◌∙◌}
use mathlib.Core.List.{List}
use mathlib.Core.Option.{Option}
use Prim.Native.Nat.{ℕ, ◌+◌, ◌-◌, ◌≤◌, ◌<◌}
use native.Mathlib.Numerals.{add-one}
use native.Mathlib.Nat.{zero-add}
use native.Mathlib.Decide.{dec_lt, ℕ_discrete}
use native.Mathlib.Omega.{arith}
use lib.ListN.{length, get_or, set, length-set}
use lib.Seq.{get_or-set_same, get_or-set_other}
use borrow.Author.Count.{below_more}
use Rattle.rules.specs.Table.{Table}
use Rattle.rules.proofs.Pigeon.{pigeon, pigeon-but}
use Rattle.kinds.specs.declared.Row.{Row}
use Rattle.passing.specs.declared.Entry.{Entry}
use Rattle.passing.specs.declared.RowList.{RowList}
use Rattle.passing.specs.Run.{or_match, entry_at, first_of_list, Kept, Joined}
use Rattle.passing.proofs.ListLaws.{list-snoc, list-cong, list-again}

-- an empty list, where the stamp is new
pub kept_none : {count stamp : ℕ} (l : RowList) → l.len ≡ 0 → count ≤ length l.entries → count ≤ length l.stamps → ((q : ℕ) → q < count → get_or l.stamps q 0 < stamp) → Kept count l stamp
kept_none l z a b h = record {
  entries_long = a;
  stamps_long = b;
  below = λ i l. absurd (omega arith);
  stamped = λ i l. absurd (omega arith);
  listed = λ q l e. absurd (omega (arith, h q l));
  apart = λ i j a b e. absurd (omega arith);
  old = λ q l. omega (arith, h q l);
}

module _ {count stamp : ℕ} {l : RowList} (k : Kept count l stamp) where
  distinct : (i j : ℕ) → i < l.len → j < l.len → (entry_at l.entries i).row.0 ≡ (entry_at l.entries j).row.0 → i ≡ j
  distinct i j a b e = go (dec_lt i j) (dec_lt j i)
    where
      go : Dec (i < j) → Dec (j < i) → i ≡ j
      go (yes l) d = absurd (k.apart i j l b e)
      go (no l) (yes m) = absurd (k.apart j i m a (sym e))
      go (no l) (no m) = omega arith

  pub kept_few : l.len ≤ count
  kept_few = pigeon l.len count (λ i. (entry_at l.entries i).row.0) k.below distinct

  module _ {q : ℕ} (inside : q < count) where
    pub joined_old : (from : ℕ) → get_or l.stamps q 0 ≡ stamp → Joined count l l q from stamp
    joined_old from e = let x = k.listed q inside e in record {
      kept = k;
      some = omega (arith, x.1);
      few = omega arith;
      best = refl;
      same = λ w t p c. list-again w t p l.entries l.len x.0 from c x.1 ∙ ap (λ (r : ℕ). first_of_list w t p l.entries 0 l.len (or_match w t p r from c)) x.2;
      rest = λ i l. refl;
    }

    module _ (new : get_or l.stamps q 0 ≡ stamp → ⊥) where
      other : (i : ℕ) → i < l.len → (entry_at l.entries i).row.0 ≡ q → ⊥
      other i m e = new (ap (λ (r : ℕ). get_or l.stamps r 0) (sym e) ∙ k.stamped i m)

      pub kept_room : l.len < count
      kept_room = omega (arith, pigeon-but l.len (count - 1) (λ i. (entry_at l.entries i).row.0) q (omega arith) other (λ i l. omega (arith, k.below i l)) distinct)

module _ {count stamp : ℕ} {l : RowList} (k : Kept count l stamp) {row : Row} (inside : row.0 < count) (new : get_or l.stamps row.0 0 ≡ stamp → ⊥) (from : ℕ) where
  abbrev entry : Entry
  entry = record { row = row; from = from }

  abbrev joined : RowList
  joined = record { entries = set l.entries l.len entry; len = l.len + 1; stamps = set l.stamps row.0 stamp; best = l.best }

  entry_old : (i : ℕ) → (i ≡ l.len → ⊥) → entry_at joined.entries i ≡ entry_at l.entries i
  entry_old i n = get_or-set_other l.entries l.len i entry _ n

  entry_new : entry_at joined.entries l.len ≡ entry
  entry_new = get_or-set_same l.entries l.len entry _ (omega (arith, kept_room k inside new))

  row_old : (i : ℕ) → i < l.len → (entry_at joined.entries i).row.0 ≡ (entry_at l.entries i).row.0
  row_old i a = ap (λ (e : Entry). e.row.0) (entry_old i (λ e. omega arith))

  row_new : (entry_at joined.entries l.len).row.0 ≡ row.0
  row_new = ap (λ (e : Entry). e.row.0) entry_new

  stamp_new : get_or joined.stamps row.0 0 ≡ stamp
  stamp_new = get_or-set_same l.stamps row.0 stamp 0 (omega arith)

  listed : (r : ℕ) → r < count → get_or joined.stamps r 0 ≡ stamp → Dec (r ≡ row.0) → (i : ℕ) × (i < l.len + 1) × ((entry_at joined.entries i).row.0 ≡ r)
  listed r a e (yes z) = (l.len, omega arith, row_new ∙ sym z)
  listed r a e (no z) =
      let x = k.listed r a (sym (get_or-set_other l.stamps row.0 r stamp 0 z) ∙ e) in
      (x.0, omega (arith, x.1), row_old x.0 x.1 ∙ x.2)

  old : (r : ℕ) → r < count → Dec (r ≡ row.0) → get_or joined.stamps r 0 ≤ stamp
  old r a (yes z) = omega (arith, ap (λ (r : ℕ). get_or joined.stamps r 0) z, stamp_new)
  old r a (no z) = omega (arith, get_or-set_other l.stamps row.0 r stamp 0 z, k.old r a)

  kept_more : Kept count joined stamp
  kept_more = record {
    entries_long = omega (arith, length-set l.entries l.len entry);
    stamps_long = omega (arith, length-set l.stamps row.0 stamp);
    below = below_more (λ (i : ℕ). (entry_at joined.entries i).row.0 < count) l.len (λ i a. omega (arith, row_old i a, k.below i a)) (omega (arith, row_new));
    stamped = below_more (λ (i : ℕ). get_or joined.stamps (entry_at joined.entries i).row.0 0 ≡ stamp) l.len
        (λ i a. ap (λ (r : ℕ). get_or joined.stamps r 0) (row_old i a) ∙ get_or-set_other l.stamps row.0 (entry_at l.entries i).row.0 stamp 0 (other k inside new i a) ∙ k.stamped i a)
        (ap (λ (r : ℕ). get_or joined.stamps r 0) row_new ∙ stamp_new);
    listed = λ r a e. listed r a e (ℕ_discrete r row.0);
    apart = λ i j a b. below_more (λ (j : ℕ). (i : ℕ) → i < j → (entry_at joined.entries i).row.0 ≡ (entry_at joined.entries j).row.0 → ⊥) l.len
        (λ j b i a e. k.apart i j a b (sym (row_old i (omega arith)) ∙ e ∙ row_old j b))
        (λ i a e. other k inside new i a (sym (row_old i a) ∙ e ∙ row_new)) j b i a;
    old = λ r a. old r a (ℕ_discrete r row.0);
  }

  -- the list with one entry more
  snoc : (w : Table) (t : List ℕ) (p : ℕ) (c : Option (ℕ × ℕ)) → first_of_list w t p joined.entries 0 (l.len + 1) c ≡ first_of_list w t p l.entries 0 l.len (or_match w t p row.0 from c)
  snoc w t p c =
      ap (λ (n : ℕ). first_of_list w t p joined.entries 0 n c) (add-one l.len)
      ∙ list-snoc w t p joined.entries l.len 0 c
      ∙ ap (λ (n : ℕ). first_of_list w t p joined.entries 0 l.len (or_match w t p (entry_at joined.entries n).row.0 (entry_at joined.entries n).from c)) (zero-add l.len)
      ∙ ap (λ (e : Entry). first_of_list w t p joined.entries 0 l.len (or_match w t p e.row.0 e.from c)) entry_new
      ∙ list-cong w t p joined.entries l.entries l.len 0 (or_match w t p row.0 from c) (λ j a b. entry_old j (λ e. omega arith))

  pub joined_new : Joined count l joined row.0 from stamp
  joined_new = record {
    kept = kept_more;
    some = omega arith;
    few = omega arith;
    best = refl;
    same = snoc;
    rest = λ i a. entry_old i (λ e. omega arith);
  }
