-- What every matcher asks first: what is turned away, and what has passed.
use mathlib.Core.Path.{◌≡◌, ap₂, sym, ◌∙◌}
use mathlib.Core.Bool.{Bool, true, false}
use mathlib.Core.List.{List}
use Prim.Native.Nat.{ℕ}
use lib.Dec.{ltb}
use lib.ListN.{length}
use Rattle.rules.specs.Sizes.{text_most}
use Rattle.rules.specs.Table.{Table, WellFormed, well_formed}
use Rattle.rules.specs.Answers.{refusal, Answer, refused, given}
use Rattle.rules.specs.Matchers.{checked}
use Rattle.rules.proofs.TableLaws.{well-formed-test, checked-past}
use Rattle.kinds.specs.declared.Refusal.{Refusal}
use Rattle.kinds.specs.Refusals.{refusal_of}
use Rattle.table.specs.Lent.{lent_table}
use Rattle.table.specs.Checks.{IsTurnedAway, Passed}
use Rattle.table.specs.declared.Lent.{Lent}
use Rattle.table.specs.declared.checks.Checked.{Checked}

-- whatever is asked, the refusal is the same
pub turned_away : {A : Type 0} (w : Table) (t : List ℕ) (r : Refusal) (a : Answer A) → IsTurnedAway w t r → refused (refusal_of r) ≡ checked w t a
unfolding checked
turned_away {A} w t r a e = go (well_formed w) (ltb text_most (length t)) e
  where
    go : (b l : Bool)
        → ◌≡◌ {A = Answer Bool} (elim b [ false ↦ refused (refusal 13 0) | true ↦ elim l [ true ↦ refused (refusal 12 0) | false ↦ given true ] ]) (refused (refusal_of r))
        → ◌≡◌ {A = Answer A} (refused (refusal_of r)) (elim b [ false ↦ refused (refusal 13 0) | true ↦ elim l [ true ↦ refused (refusal 12 0) | false ↦ a ] ])
    go false l e = cc
    go true true e = cc
    go true false e = cc

module _ {w : Table} {t : List ℕ} (p : Passed w t) where
  pub well : WellFormed w
  well = (well-formed-test w).0 p.formed

  -- what is asked is answered
  passed : {A : Type 0} (a : Answer A) → checked w t a ≡ a
  passed a = checked-past w t a p.formed p.short

-- what is computed of them is what is answered
pub answered : {A : Type 0} (c : Checked) {l : Lent} {t : List ℕ} → (c.table ≡ l) × (c.text.now ≡ t) → (f : Table → List ℕ → Answer A)
    → f (lent_table c.table) c.text.now ≡ checked (lent_table l) t (f (lent_table l) t)
answered {A} c same f =
    sym (passed c.passed (f (lent_table c.table) c.text.now))
    ∙ ap₂ (λ (l : Lent) (t : List ℕ). checked (lent_table l) t (f (lent_table l) t)) same.0 same.1
