-- A tree's compiled table is its drawing, and no other table is.
use mathlib.Core.Path.{◌≡◌, sym, subst}
use mathlib.Core.Logic.{◌↔◌}
use mathlib.Core.List.{List}
use mathlib.Core.Option.{Option, none, some}
use Prim.Native.Nat.{ℕ, ◌≤◌}
use native.Mathlib.Omega.{arith}
use lib.Dec.{T, eqb}
use lib.ListN.{length}
use lib.Seq.{slice}
use Rattle.rules.specs.Tree.{Tree}
use Rattle.rules.specs.Meaning.{Match, IsLongest, IsFirst, IsStarts}
use Rattle.rules.specs.SetRows.{machine, mark_of}
use Rattle.rules.specs.Table.{Table, fits, takes, Takes, Formed, longest, first, starts}
use Rattle.rules.specs.Drawing.{Right, Alike, SameMatches, Smallest, Merged, Numbered, Exact, Drawing}
use Rattle.rules.specs.Compiled.{compiled}
use Rattle.rules.specs.Demands.{TableRight, AnswersBy, AnswersRight, OneTable}
use Rattle.rules.proofs.Answers.{whole_is, longest-is, starts_is, first-is}
use Rattle.rules.proofs.CompiledTable.{G, mark-reached}
use Rattle.rules.proofs.MergedTable.{merged-good, merged-exact, merged-apart, merged-numbered}
use Rattle.rules.proofs.RowsRight.{row_after, begin_row, set-rows-right}
use Rattle.rules.proofs.Unique.{smallest, smallest-merged, equal}

-- ---- demand 2, of a tree

pub table-right : TableRight
unfolding takes
table-right X t h s e se le =
    let rows_right : T (fits (mark_of (machine X) (row_after (machine X) (begin_row (machine X) s) (slice s e t))) (eqb e (length t))) ↔ Match t X s e = set-rows-right X t s e se le in
    (λ x. rows_right.0 (subst (λ (m : ℕ). T (fits m (eqb e (length t)))) (mark-reached X t h s e) x), λ m. subst (λ (m : ℕ). T (fits m (eqb e (length t)))) (sym (mark-reached X t h s e)) (rows_right.1 m))

-- rules that say the same have the same answers
module _ (M N : ℕ → ℕ → Type 0) (to : (s e : ℕ) → M s e → N s e) (fro : (s e : ℕ) → N s e → M s e) where
  longest-too : (s : ℕ) (o : Option ℕ) → IsLongest M s o → IsLongest N s o
  longest-too s none h = λ e x. h e (fro s e x)
  longest-too s (some e) h = (to s e h.0, λ d x. h.1 d (fro s d x))

  first-too : (o : Option (ℕ × ℕ)) → IsFirst M o → IsFirst N o
  first-too none h = λ s e x. h s e (fro s e x)
  first-too (some x) h = (longest-too x.0 (some x.1) h.0, λ s e y. h.1 s e (fro s e y))

  starts-too : (xs : List ℕ) → IsStarts M xs → IsStarts N xs
  starts-too xs h = record {
    sound = λ i l. let x : (e : ℕ) × M _ e = h.sound i l in (x.0, to _ x.0 x.1);
    complete = λ s e x. h.complete s e (fro s e x);
    ascending = h.ascending;
  }

-- so a table that takes what a rule says has the rule's answers
pub answers_by : (M : ℕ → ℕ → Type 0) (w : Table) (t : List ℕ) → ((s e : ℕ) → s ≤ e → e ≤ length t → T (takes w t s e) ↔ M s e)
    → AnswersBy (λ s e. (s ≤ e) × (e ≤ length t) × M s e) w t
answers_by M w t h = record {
  whole-right = (λ b. to 0 (length t) ((whole_is w t).0 b), λ m. (whole_is w t).1 (fro 0 (length t) m));
  longest-right = λ s. longest-too (Takes w t) N to fro s (longest w t s) (longest-is w t s);
  first-right = first-too (Takes w t) N to fro (first w t) (first-is w t);
  starts-right = starts-too (Takes w t) N to fro (starts w t) (starts_is w t);
}
  where
    N : ℕ → ℕ → Type 0
    N s e = (s ≤ e) × (e ≤ length t) × M s e

    to : (s e : ℕ) → Takes w t s e → N s e
    to s e x = (x.0, x.1, (h s e x.0 x.1).0 x.2)

    fro : (s e : ℕ) → N s e → Takes w t s e
    fro s e x = (x.0, x.1, (h s e x.0 x.1).1 x.2)

pub answers-right : AnswersRight
answers-right X t h = answers_by (Match t X) (compiled X) t (table-right X t h)

-- ---- demand 3, of a tree

module _ (X : Tree) where
  pub formed : Formed (compiled X)
  unfolding compiled
  formed = merged-good (G X)

  exact : Exact (compiled X)
  unfolding compiled
  exact = merged-exact (G X)

  -- no further bytes and end position tell two of its rows apart
  pub rows-merged : Merged (compiled X)
  unfolding compiled
  rows-merged = merged-apart (G X)

  numbered : Numbered (compiled X)
  unfolding compiled
  numbered = merged-numbered (G X)

  pub table-smallest : Smallest (compiled X)
  table-smallest = smallest (compiled X) formed numbered rows-merged

  pub drawing : Drawing X (compiled X)
  drawing = record { right = table-right X; formed = formed; exact = exact; smallest = table-smallest; numbered = numbered }

-- tables that are right for one tree take the same stretches; trees for which one table is right match the same
both_right : (X : Tree) (w v : Table) → Right w X → Right v X → Alike w v
both_right X w v x y t h s e se le = (λ z. (y t h s e se le).1 ((x t h s e se le).0 z), λ z. (x t h s e se le).1 ((y t h s e se le).0 z))

one-meaning : (X Y : Tree) (w : Table) → Right w X → Right w Y → SameMatches X Y
one-meaning X Y w x y t h s e se le = (λ z. (y t h s e se le).0 ((x t h s e se le).1 z), λ z. (x t h s e se le).0 ((y t h s e se le).1 z))

right-too : (X Y : Tree) (w : Table) → Right w X → SameMatches X Y → Right w Y
right-too X Y w x f t h s e se le = (λ z. (f t h s e se le).0 ((x t h s e se le).0 z), λ z. (x t h s e se le).1 ((f t h s e se le).1 z))

-- a numbered table no two of whose rows go alike is it, if it takes the same stretches
merged-once : (X : Tree) (w : Table) → Formed w → Exact w → Numbered w → Merged w → Alike w (compiled X) → w ≡ compiled X
merged-once X w good own n d like = equal w (compiled X) good (formed X) n (numbered X) d (rows-merged X) like own (exact X)

-- a table in the same numbering that takes the same stretches with no more rows is it
only_one : (X : Tree) (w : Table) → Formed w → Exact w → Numbered w → Alike w (compiled X) → w.count ≤ (compiled X).count → w ≡ compiled X
only_one X w good own n like few = merged-once X w good own n (smallest-merged (compiled X) w (formed X) (numbered X) (rows-merged X) good like few) like

-- so it is the only one in its numbering
pub table-only : (X : Tree) (w : Table) → Formed w → Exact w → Numbered w → Alike w (compiled X) → w.count ≡ (compiled X).count → w ≡ compiled X
table-only X w good own n like e = only_one X w good own n like (omega arith)

-- and no second table is the drawing of a tree
pub drawing-once : (X : Tree) (w : Table) → Drawing X w → w ≡ compiled X
drawing-once X w p = only_one X w p.formed p.exact p.numbered (both_right X w (compiled X) p.right (table-right X))
    (p.smallest (compiled X) (formed X) (both_right X (compiled X) w (table-right X) p.right))

pub one_table : OneTable
one_table X Y = (
  λ e. one-meaning X Y (compiled X) (table-right X) (subst (λ (w : Table). Right w Y) (sym e) (table-right Y)),
  λ f. merged-once Y (compiled X) (formed X) (exact X) (numbered X) (rows-merged X) (both_right Y (compiled X) (compiled Y) (right-too X Y (compiled X) (table-right X) f) (table-right Y)),
)
