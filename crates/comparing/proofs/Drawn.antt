-- What compiling hands back and leaves is what is drawn, whatever stood in the room that was lent for 1,024 rows.
use mathlib.Core.Path.{◌≡◌, sym, ap, ap₂, ◌∙◌}
use mathlib.Core.Bool.{true, false}
use mathlib.Core.List.{List}
use Prim.Native.Nat.{ℕ, ◌-◌, ◌*◌, ◌/◌, ◌≤◌, min}
use lib.Dec.{ltb}
use lib.ListN.{length, take, replicate, length-replicate}
use Rattle.rules.specs.Sizes.{pattern_most, nodes_most, rows_most, words_a_row}
use Rattle.rules.specs.Nodes.{node_count}
use Rattle.rules.specs.SetRows.{row_count}
use Rattle.rules.specs.Compiled.{compiled}
use Rattle.rules.specs.Reader.{got, bad, read}
use Rattle.rules.specs.Answers.{refusal, refused, given}
use Rattle.rules.specs.Compile.{Room, rows_for, limited, drawn}
use Rattle.rules.specs.Demands.{Gives}
use Rattle.rules.proofs.CompileOnce.{drawn-refuses}
use Rattle.rules.proofs.Demands.{demands, is-drawn}
use Rattle.kinds.specs.Refusals.{refusal_of}
use Rattle.compile.specs.Outcomes.{Compiles}
use Rattle.std.specs.Prelude.{Result, Ok, Err}
use Rattle.kinds.specs.declared.Refusal.{Refusal}
use Rattle.answers.specs.declared.Drawn.{Drawn}
use Rattle.comparing.specs.Comparison.{full_room}
use Rattle.comparing.specs.Lent.{LentRoom}

module _ {p : List ℕ} {old new : Room} {r : Result Drawn Refusal} (k : Compiles p old new r) where
  gives : {d : Drawn} → r ≡ Ok d → Gives p old new d.rows d.head.0
  gives e = let h = rw e at k in record { answer = sym h.answer; room = sym h.room }

  pub table-drawn : {d : Drawn} → r ≡ Ok d → given (record { count = d.rows; head = d.head.0; marks = take d.rows new.marks; cells = take (256 * d.rows) new.cells }) ≡ drawn p old
  table-drawn e = let x = is-drawn (gives e) in ap given x.2 ∙ sym x.1

  pub table-formed : {d : Drawn} → r ≡ Ok d → (d.rows ≤ length new.marks) × (256 * d.rows ≤ length new.cells)
  table-formed {d} e = let f = (demands.two p old new d.rows d.head.0 (gives e)).well-formed.formed in (f.marks-long, f.cells-long)

  pub refusal-drawn : {q : Refusal} → r ≡ Err q → refused (refusal_of q) ≡ drawn p old
  refusal-drawn {q} e = let h = rw e at k in sym ((drawn-refuses p old (refusal_of q)).1 ((demands.one.compile-refuses p old (refusal_of q)).0 (sym h.answer)))

-- ---- only the number of rows for which there is room counts

drawn-alike : (p : List ℕ) (l m : Room) → rows_for l ≡ rows_for m → drawn p l ≡ drawn p m
unfolding drawn limited
drawn-alike p l m e =
    ap (λ (k : ℕ).
    elim (ltb pattern_most (length p)) [
      | true ↦ refused (refusal 1 pattern_most)
      | false ↦ elim (read p) [
        | bad n s ↦ refused (refusal n (length p - length s))
        | got X ↦ elim (ltb nodes_most (node_count X)) [
          | true ↦ refused (refusal 10 0)
          | false ↦ elim (ltb k (row_count X)) [ true ↦ refused (refusal 11 0) | false ↦ given (compiled X) ]
        ]
      ]
    ]) e

zeros : (n : ℕ) → n ≡ length {A = ℕ} (replicate n 0)
zeros n = sym (length-replicate {0} {A = ℕ} n 0)

pub drawn-all : (p cells marks sets : List ℕ) → LentRoom cells marks sets → drawn p (record { cells = cells; marks = marks; sets = sets }) ≡ drawn p full_room
unfolding rows_for
drawn-all p cells marks sets h =
    drawn-alike p _ _
    (ap₂ {C = ℕ} (λ (c k : ℕ). min rows_most (min (c / 256) k)) (h.cells-many ∙ zeros (256 * rows_most))
    (ap₂ {C = ℕ} (λ (m s : ℕ). min m (s / words_a_row)) (h.marks-many ∙ zeros rows_most) (h.sets-many ∙ zeros (words_a_row * rows_most))))
