-- First, read in one pass with a list of rows: what an entry of the list leads to, and how the list is kept.
use Rattle.std.specs.Prelude.{◌≡◌, List, [], ◌∷◌, ℕ, zero, suc, ◌+◌, ◌≤◌, ◌<◌, length, get_or, drop}
use Rattle.std.specs.Prelude as std
use Rattle.std.proofs.Math.Option.{Option, none, some}
use Rattle.rules.specs.Tools.{if_some}
use Rattle.rules.specs.Table.{Table, cell, longest}
use Rattle.passing.specs.declared.Entry.{Entry}
use Rattle.passing.specs.declared.RowList.{RowList}
use Rattle.ahead.specs.Ahead.{last_end, starts_from}

abbrev pub found_of : std.Option (ℕ × ℕ) → Option (ℕ × ℕ)
found_of (std.Some x) = some x
found_of std.None = none

-- the match of a start that has led to row q at the place p; else c
abbrev pub or_match : Table → List ℕ → ℕ → ℕ → ℕ → Option (ℕ × ℕ) → Option (ℕ × ℕ)
or_match w t p q s c = if_some (last_end w q p (drop p t)) (λ e. some (s, e)) c

-- the entry at a place
abbrev pub entry_at : List Entry → ℕ → Entry
entry_at l i = get_or l i (record { row = record { 0 = 0 }; from = 0 })

-- of the k entries from place i on, the first that has a match; else c
unfoldable pub first_of_list : Table → List ℕ → ℕ → List Entry → ℕ → ℕ → Option (ℕ × ℕ) → Option (ℕ × ℕ)
first_of_list w t p l i zero c = c
first_of_list w t p l i (suc k) c = or_match w t p (entry_at l i).row.0 (entry_at l i).from (first_of_list w t p l (suc i) k c)

-- first, of the starts from s on
unfoldable pub first_from : Table → List ℕ → ℕ → Option (ℕ × ℕ)
first_from w t s = elim (starts_from w t s) [ [] ↦ none | s ∷ ss ↦ elim (longest w t s) [ none ↦ none | some e ↦ some (s, e) ] ]

-- what is found if no entry has a match: what was found before, or else first of the starts from s on
abbrev pub otherwise : Table → List ℕ → std.Option (ℕ × ℕ) → ℕ → Option (ℕ × ℕ)
otherwise w t (std.Some x) k = some x
otherwise w t std.None k = first_from w t k

-- the list cut off after n entries
abbrev pub cut : RowList → ℕ → RowList
cut l n = record { entries = l.entries; len = n; stamps = l.stamps; best = l.best }

-- what is found from the place p on, where the starts below s have joined the list
unfoldable pub outcome : Table → List ℕ → RowList → ℕ → ℕ → Option (ℕ × ℕ)
outcome w t l s p = first_of_list w t p l.entries 0 l.len (otherwise w t l.best s)

-- the rows of the list are rows, no two the same, and just they have the stamp
pub record Kept (count : ℕ) (l : RowList) (stamp : ℕ) : Type 0 where
  pub entries_long : count ≤ length l.entries
  pub stamps_long : count ≤ length l.stamps
  pub below : (i : ℕ) → i < l.len → (entry_at l.entries i).row.0 < count
  pub stamped : (i : ℕ) → i < l.len → get_or l.stamps (entry_at l.entries i).row.0 0 ≡ stamp
  pub listed : (q : ℕ) → q < count → get_or l.stamps q 0 ≡ stamp → (i : ℕ) × (i < l.len) × ((entry_at l.entries i).row.0 ≡ q)
  pub apart : (i j : ℕ) → i < j → j < l.len → (entry_at l.entries i).row.0 ≡ (entry_at l.entries j).row.0 → ⊥
  pub old : (q : ℕ) → q < count → get_or l.stamps q 0 ≤ stamp

-- the row q with its start has joined the list l, which is then m
pub record Joined (count : ℕ) (l m : RowList) (q from stamp : ℕ) : Type 0 where
  pub kept : Kept count m stamp
  pub some : 0 < m.len
  pub few : m.len ≤ l.len + 1
  pub best : m.best ≡ l.best
  pub same : (w : Table) (t : List ℕ) (p : ℕ) (c : Option (ℕ × ℕ)) → first_of_list w t p m.entries 0 m.len c ≡ first_of_list w t p l.entries 0 l.len (or_match w t p q from c)
  pub rest : (i : ℕ) → l.len < i → entry_at m.entries i ≡ entry_at l.entries i

-- the start p has joined the list, if it was still open
pub record Opened (w : Table) (t : List ℕ) (l m : RowList) (p : ℕ) : Type 0 where
  pub kept : Kept w.count m (p + 1)
  pub same : outcome w t m (p + 1) p ≡ outcome w t l p p
  pub over : m.len ≡ 0 → otherwise w t m.best (p + 1) ≡ found_of m.best

-- the row that an entry's row goes to on the byte at p has joined the list
pub record Carried (w : Table) (t : List ℕ) (l m : RowList) (e : Entry) (p : ℕ) : Type 0 where
  pub kept : Kept w.count m (p + 2)
  pub few : m.len ≤ l.len + 1
  pub best : m.best ≡ l.best
  pub same : (c : Option (ℕ × ℕ)) → first_of_list w t (p + 1) m.entries 0 m.len c ≡ first_of_list w t (p + 1) l.entries 0 l.len (or_match w t (p + 1) (cell w e.row.0 (get_or t p 0)) e.from c)
  pub rest : (i : ℕ) → l.len < i → entry_at m.entries i ≡ entry_at l.entries i

-- the rows of the list have gone on by the byte at p
pub record Advanced (w : Table) (t : List ℕ) (l m : RowList) (p : ℕ) : Type 0 where
  pub kept : Kept w.count m (p + 1 + 1)
  pub same : outcome w t m (p + 1) (p + 1) ≡ outcome w t l (p + 1) p
