-- What each stage hands on, to what is drawn.
use mathlib.Core.Path.{◌≡◌, refl, ap, ◌∙◌, subst, sym}
use mathlib.Core.List.{List}
use Prim.Native.Nat.{ℕ, ◌<◌}
use lib.ListN.{length, take}
use Rattle.rules.specs.Sizes.{nodes_most}
use Rattle.rules.specs.Tree.{Tree}
use Rattle.rules.specs.Nodes.{node_count}
use Rattle.rules.specs.Answers.{Answer, refused}
use Rattle.rules.specs.Table.{Table}
use Rattle.rules.specs.Compiled.{merged, compiled}
use Rattle.rules.specs.Compile.{Room, limited}
use borrow.Author.Rules.{rules}
use Rattle.std.specs.Option.{ok_or}
use Rattle.std.specs.Prelude.{Option, Some, None, Result, Ok, Err}
use Rattle.kinds.specs.Refusals.{refusal_of}
use Rattle.kinds.specs.declared.Refusal.{Refusal}
use Rattle.kinds.specs.declared.Refusal.TheVariants.{ManyNodes, ManyRows}
use Rattle.reader.specs.Reading.{answer, ProgramOf}
use Rattle.entries.specs.declared.Entry.{Entry}
use Rattle.rows.specs.Rows.{SameRoom, SomeEntries, ListsOf}
use Rattle.grid.specs.Rows.{rows_of}
use Rattle.merge.specs.Merge.{Lent, Stands}
use Rattle.compile.specs.Outcomes.{DrewAs, DrewNodes, SomeProgram, DrewProgram, Drew}
use Rattle.answers.specs.declared.Drawn.{Drawn}
use Rattle.compile.proofs.FirstNodes.{few-nodes}
use Rattle.compile.proofs.RowsFront.{rows-lent, rows_fit, table-front}
use Rattle.compile.proofs.Limits.{many-nodes, many-rows, few-rows, not-read, tree-read}

-- what `?` hands back, of an option that had nothing
pub refused-at : {A : Type 0} {r : Result Drawn Refusal} {x e : Refusal} (o : Option A) → (y : Refusal) × (r ≡ Err y) × (y ≡ x) → Err x ≡ ok_or o e → r ≡ Err e
refused-at None (y, is, e) q = is ∙ ap Err (e ∙ search rules)
refused-at (Some a) (y, is, e) q = absurd (search rules)

same-room : {l : Room} → SameRoom l l
same-room = record { cells = refl; marks = refl; sets = refl }

-- ---- reading

pub pattern-refused : (p : List ℕ) {old : Room} {r : Refusal} → answer p ≡ refused (refusal_of r) → Drew p old old (Err r)
pattern-refused p {old} e = record { room = same-room; drew = not-read p old e }

module _ {p words : List ℕ} {n : ℕ} (P : ProgramOf p words n) where
  pub program-whole : SomeProgram words n
  program-whole = record { part = record { tree = P.tree; start = 0; is = P.program }; within = P.fits; short = P.short }

  pub program-drawn : {old new : Room} {r : Result Drawn Refusal} → DrewProgram words n old new r → Drew p old new r
  unfolding program-whole
  program-drawn {old} {new} {r} d = subst (λ (a : Answer Table). DrewAs a old new r) (sym (tree-read p old P.is)) (d program-whole.part)

-- ---- building nodes

pub nodes-refused : (X : Tree) {old : Room} → nodes_most < node_count X → DrewAs (limited old X) old old (Err ManyNodes)
nodes-refused X {old} h = record { room = same-room; drew = many-nodes old X h }

-- ---- listing rows and merging them

module _ (p : List ℕ) (l : List Entry) {old new : Room} where
  pub rows-refused : ListsOf p l old new None → DrewNodes p l old new (Err ManyRows)
  rows-refused L X N = record { room = L.room; drew = many-rows old X (few-nodes N) (L.rows X N) }

  module _ {n : ℕ} (L : ListsOf p l old new (Some n)) where
    pub rows-mergeable : SomeEntries p l → Lent new.cells new.marks new.sets n
    rows-mergeable s = rows-lent s.0 L.room (L.rows s.0 s.1)

    pub rows-drawn : {left : Room} {d : Drawn}
        → ((length left.cells ≡ length new.cells) × ((length left.marks ≡ length new.marks) × (length left.sets ≡ length new.sets)))
        × Stands (merged (rows_of new.cells n) (take n new.marks)) left.cells left.marks d.rows d.head.0
        → DrewNodes p l old left (Ok d)
    rows-drawn {left} m X N =
        let s : SameRoom new left = record { cells = m.0.0; marks = m.0.1.0; sets = m.0.1.1 } in
        record {
          room = record { cells = s.cells ∙ L.room.cells; marks = s.marks ∙ L.room.marks; sets = s.sets ∙ L.room.sets };
          drew = (compiled X, few-rows old X (few-nodes N) (rows_fit X L.room (L.rows X N)), table-front X L.room (L.rows X N) s m.1);
        }
