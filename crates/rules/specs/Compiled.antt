-- The drawing, computed: set rows that nothing tells apart are merged.
use Rattle.std.specs.Prelude.{true, false, List, [], ◌∷◌, map, ℕ, zero, suc, ◌*◌, eqb, length, get_or}
use Rattle.rules.specs.Tools.{up_from, all_bytes, place, kept, flat, same}
use Rattle.rules.specs.Tree.{Tree}
use Rattle.rules.specs.SetRows.{SetRow, Machine, machine, same_row, next, mark_of, set_rows}
use Rattle.rules.specs.Table.{Table}

-- the place of each list's first equal
abbrev pub leasts : List (List ℕ) → List ℕ
leasts signs = map (λ s. place (same s) signs) signs

-- Classes of rows: a class is named by its least row. At first the classes are those of one mark. In a round
-- two rows stay together if they were, and on each byte go to rows that were together. Rounds go on until nothing changes.
abbrev pub signs : List ℕ → List (List ℕ) → List ℕ → List (List ℕ)
signs c [] ks = []
signs c (r ∷ rs) [] = []
signs c (r ∷ rs) (k ∷ ks) = (k ∷ map (λ q. get_or c q 0) r) ∷ signs c rs ks

abbrev pub round : List (List ℕ) → List ℕ → List ℕ
round rs c = leasts (signs c rs c)

-- at most n rounds
abbrev pub settled : ℕ → List (List ℕ) → List ℕ → List ℕ
settled zero rs c = c
settled (suc n) rs c =
    let c' : List ℕ = round rs c in
    elim (same c' c) [ true ↦ c | false ↦ settled n rs c' ]

unfoldable pub classes : List (List ℕ) → List ℕ → List ℕ
classes rs ms = settled (length rs * length rs) rs (leasts (map (λ m. m ∷ []) ms))

-- the set rows' cells, as places in their list
unfoldable pub cells_of : Machine → List SetRow → List (List ℕ)
cells_of w rs = map (λ r. map (λ b. place (same_row (next w r b)) rs) all_bytes) rs

-- the least row of each class is kept, and takes the next number
unfoldable pub merged : List (List ℕ) → List ℕ → Table
merged rs ms =
    let c : List ℕ = classes rs ms in
    let keep : List ℕ = kept (λ q. eqb (get_or c q 0) q) (up_from 0 (length rs)) in
    let number : ℕ → ℕ = λ q. place (eqb (get_or c q 0)) keep in
    record {
      count = length keep;
      head = number 1;
      marks = map (λ q. get_or ms q 0) keep;
      cells = flat (map (λ q. map number (get_or rs q [])) keep);
    }

unfoldable pub compiled : Tree → Table
compiled X =
    let w : Machine = machine X in
    let rs : List SetRow = set_rows w in
    merged (cells_of w rs) (map (mark_of w) rs)
