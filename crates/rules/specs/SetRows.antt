-- "Nodes and sets": set rows, S, and a row's mark.
use Rattle.std.specs.Prelude.{◌≡◌, Bool, true, false, ◌&&◌, List, [], ◌∷◌, ◌++◌, map, ℕ, zero, suc, ◌^◌, ◌<◌, ltb, eqb, length, get_or}
use Rattle.std.specs.Bool.{beq}
use Rattle.rules.specs.Tools.{has, with, all_bytes, any}
use Rattle.rules.specs.Tree.{Tree}
use Rattle.rules.specs.Nodes.{Kind, empty, on_head, on_tail, on_bytes, Edge, Frag, size, frag}

-- ---- which edges are crossed

-- empty edges; head edges where h says so, tail edges where t does
abbrev pub crosses : Bool → Bool → Kind → Bool
crosses h t empty = true
crosses h t on_head = h
crosses h t on_tail = t
crosses h t (on_bytes B) = false

abbrev pub on_empty : Kind → Bool
on_empty = crosses false false

abbrev pub or_head : Kind → Bool
or_head = crosses true false

abbrev pub on_byte : ℕ → Kind → Bool
on_byte b empty = false
on_byte b on_head = false
on_byte b on_tail = false
on_byte b (on_bytes B) = has B b

-- ---- closing a set of nodes

-- acc with the targets of the edges that c crosses from nodes of m
abbrev pub across : (Kind → Bool) → List Edge → ℕ → ℕ → ℕ
across c [] m acc = acc
across c (x ∷ xs) m acc = elim (c x.on && has m x.from) [ true ↦ across c xs m (with acc x.to) | false ↦ across c xs m acc ]

-- m closed under the edges that c crosses, in at most n rounds
abbrev pub closed : (Kind → Bool) → List Edge → ℕ → ℕ → ℕ
closed c es zero m = m
closed c es (suc n) m =
    let m' : ℕ = across c es m m in
    elim (eqb m' m) [ true ↦ m | false ↦ closed c es n m' ]

-- ---- set rows

-- a set row: its nodes, and whether it is the head row, which always counts as a row of its own
pub record SetRow : Type 0 where
  pub is_head : Bool
  pub nodes : ℕ

abbrev pub same_row : SetRow → SetRow → Bool
same_row r q = beq r.is_head q.is_head && eqb r.nodes q.nodes

-- the nodes of a tree, numbered from 0 on: node 0 is the start node
pub record Machine : Type 0 where
  pub count : ℕ
  pub final : ℕ
  pub links : List Edge

unfoldable pub machine : Tree → Machine
machine X = let F : Frag = frag X in record { count = size F; final = F.last; links = F.edges 0 }

-- m closed under the edges that c crosses: each round but the last makes the number greater, and it stays below 2 ^ count
abbrev pub closure : Machine → (Kind → Bool) → ℕ → ℕ
closure w c m = closed c w.links (2 ^ w.count) m

unfoldable pub inside : Machine → SetRow
inside w = record { is_head = false; nodes = closure w on_empty 1 }

unfoldable pub head_row : Machine → SetRow
head_row w = record { is_head = true; nodes = closure w or_head 1 }

-- the row that a row goes to on a byte
unfoldable pub next : Machine → SetRow → ℕ → SetRow
next w r b = record { is_head = false; nodes = closure w on_empty (across (on_byte b) w.links r.nodes 0) }

-- the nodes reached when tail edges, and for the head row also head edges, are crossed too
abbrev pub at_the_end : Machine → SetRow → ℕ
at_the_end w r = closure w (crosses r.is_head true) r.nodes

unfoldable pub mark_of : Machine → SetRow → ℕ
mark_of w r = elim (has r.nodes w.final) [ true ↦ 3 | false ↦ elim (has (at_the_end w r) w.final) [ true ↦ 2 | false ↦ 0 ] ]

-- ---- the rows that are reached from these two, both included

pub data RowReached (w : Machine) : SetRow → Type 0 where
  at-inside : RowReached w (inside w)
  at_head : RowReached w (head_row w)
  on-byte : (r : SetRow) (b : ℕ) → b < 256 → RowReached w r → RowReached w (next w r b)

abbrev pub row_at : List SetRow → ℕ → SetRow
row_at rs i = get_or rs i (record { is_head = false; nodes = 0 })

abbrev pub RowIn : SetRow → List SetRow → Type 0
RowIn r rs = (q : ℕ) × (q < length rs) × (row_at rs q ≡ r)

-- the list has each row that is reached, once, and no other
pub record AllRows (w : Machine) (rs : List SetRow) : Type 0 where
  pub once : (p q : ℕ) → p < length rs → q < length rs → row_at rs p ≡ row_at rs q → p ≡ q
  pub reached : (p : ℕ) → p < length rs → RowReached w (row_at rs p)
  pub complete : (r : SetRow) → RowReached w r → RowIn r rs

-- ---- computed, in the order of the numbering

-- the rows of new that are not yet in old, each appended once
abbrev pub append_new : List SetRow → List SetRow → List SetRow
append_new old [] = old
append_new old (r ∷ new) = elim (any (same_row r) old) [ true ↦ append_new old new | false ↦ append_new (old ++ (r ∷ [])) new ]

-- the list gone through from row i on, at most n rows of it: each row's targets are appended
abbrev pub listed : ℕ → (SetRow → List SetRow) → ℕ → List SetRow → List SetRow
listed zero f i rs = rs
listed (suc n) f i rs =
    elim (ltb i (length rs)) [ true ↦ listed n f (suc i) (append_new rs (f (row_at rs i))) | false ↦ rs ]

unfoldable pub targets : Machine → SetRow → List SetRow
targets w r = map (next w r) all_bytes

-- there are at most 2 ^ (1 + count) rows
unfoldable pub set_rows : Machine → List SetRow
set_rows w = listed (2 ^ suc w.count) (targets w) 0 (inside w ∷ head_row w ∷ [])

-- S
unfoldable pub row_count : Tree → ℕ
row_count X = length (set_rows (machine X))
