-- "The numbered table": a table, when it is well formed, and its rule.
use Rattle.std.specs.Prelude.{◌≡◌, ◌⊎◌, Bool, ◌&&◌, ◌||◌, List, [], ◌∷◌, ℕ, zero, suc, ◌+◌, ◌-◌, ◌*◌, ◌≤◌, ◌<◌, T, leb, ltb, eqb, length, get_or, take}
use Rattle.std.proofs.Math.Option.{Option, none, some}
use Rattle.std.proofs.Math.Seq.{slice}
use Rattle.rules.specs.Tools.{up_from, all, any, kept, last, same}
use Rattle.rules.specs.Sizes.{rows_most}

-- R, the head row, and the lent marks and cells, which may go on past the R rows
pub record Table : Type 0 where
  pub count : ℕ
  pub head : ℕ
  pub marks : List ℕ
  pub cells : List ℕ

-- ---- the table's rule

-- the row that row q goes to on the byte b
abbrev pub cell : Table → ℕ → ℕ → ℕ
cell w q b = get_or w.cells (256 * q + b) 0

abbrev pub after : Table → ℕ → List ℕ → ℕ
after w q [] = q
after w q (b ∷ bs) = after w (cell w q b) bs

-- the head row is where reading begins at position 0, row 0 where it begins inside a text
abbrev pub begins : Table → ℕ → ℕ
begins w zero = w.head
begins w (suc s) = 0

-- a mark of 3 makes a match, a mark of 2 does at the text's end
abbrev pub fits : ℕ → Bool → Bool
fits m at_end = eqb m 3 || (eqb m 2 && at_end)

unfoldable pub takes : Table → List ℕ → ℕ → ℕ → Bool
takes w t s e = fits (get_or w.marks (after w (begins w s) (slice s e t)) 0) (eqb e (length t))

-- a stretch of the text that the table takes
abbrev pub Takes : Table → List ℕ → ℕ → ℕ → Type 0
Takes w t s e = (s ≤ e) × (e ≤ length t) × T (takes w t s e)

-- ---- well formed, in the first R rows

abbrev pub Mark : ℕ → Type 0
Mark m = (m ≡ 0) ⊎ (m ≡ 2) ⊎ (m ≡ 3)

abbrev pub is_mark : ℕ → Bool
is_mark m = eqb m 0 || (eqb m 2 || eqb m 3)

-- well formed, of any number of rows
pub record Formed (w : Table) : Type 0 where
  pub some-row : 1 ≤ w.count
  pub marks-long : w.count ≤ length w.marks
  pub cells-long : 256 * w.count ≤ length w.cells
  pub head-row : w.head < w.count
  pub cells-rows : (i : ℕ) → i < 256 * w.count → get_or w.cells i 0 < w.count
  pub marks-good : (q : ℕ) → q < w.count → Mark (get_or w.marks q 0)

-- what refusal 13 asks
pub record WellFormed (w : Table) : Type 0 where
  pub formed : Formed w
  pub few-rows : w.count ≤ rows_most

-- the same as a test
unfoldable pub well_formed : Table → Bool
well_formed w =
    leb 1 w.count && (leb w.count rows_most && (leb w.count (length w.marks) && (leb (256 * w.count) (length w.cells) && (ltb w.head w.count
    && (all (λ c. ltb c w.count) (take (256 * w.count) w.cells) && all is_mark (take w.count w.marks))))))

-- ---- the same, number for number

unfoldable pub same_table : Table → Table → Bool
same_table w v = eqb w.count v.count && (eqb w.head v.head && (same w.marks v.marks && same w.cells v.cells))

-- ---- the four answers by the table's rule, computed

unfoldable pub whole : Table → List ℕ → Bool
whole w t = takes w t 0 (length t)

-- the places from s to the text's end
abbrev pub places : List ℕ → ℕ → List ℕ
places t s = up_from s (1 + length t - s)

unfoldable pub longest : Table → List ℕ → ℕ → Option ℕ
longest w t s = last (kept (takes w t s) (places t s))

unfoldable pub starts : Table → List ℕ → List ℕ
starts w t = kept (λ s. any (takes w t s) (places t s)) (places t 0)

unfoldable pub first : Table → List ℕ → Option (ℕ × ℕ)
first w t = elim (starts w t) [ [] ↦ none | s ∷ ss ↦ elim (longest w t s) [ none ↦ none | some e ↦ some (s, e) ] ]
