-- The answer that is due, by what each stage finds.
use mathlib.Core.Path.{◌≡◌, refl, ap, ap₂, ◌∙◌}
use mathlib.Core.Bool.{Bool, true, false}
use mathlib.Core.List.{List}
use Prim.Native.Nat.{ℕ, ◌-◌, ◌≤◌, ◌<◌}
use lib.Dec.{ltb}
use lib.ListN.{length}
use borrow.Author.Tests.{lt-ltb, le-ltb}
use Rattle.rules.specs.Sizes.{pattern_most, nodes_most}
use Rattle.rules.specs.Tree.{Tree}
use Rattle.rules.specs.Nodes.{node_count}
use Rattle.rules.specs.SetRows.{row_count}
use Rattle.rules.specs.Table.{Table}
use Rattle.rules.specs.Reader.{Reading, got, bad, read}
use Rattle.rules.specs.Answers.{Refusal, refusal, Answer, refused, given}
use Rattle.rules.specs.Compiled.{compiled}
use Rattle.rules.specs.Compile.{Room, rows_for, limited, drawn}
use Rattle.reader.specs.Reading.{of_reading, unless_long, answer}

-- ---- of a tree

module _ (l : Room) (X : Tree) where
  -- by whether there are too many nodes, and too many rows
  by_limits : Bool → Bool → Answer Table
  by_limits nodes rows = elim nodes [ true ↦ refused (refusal 10 0) | false ↦ elim rows [ true ↦ refused (refusal 11 0) | false ↦ given (compiled X) ] ]

  pub many-nodes : nodes_most < node_count X → limited l X ≡ refused (refusal 10 0)
  unfolding limited by_limits
  many-nodes h = ap (λ (b : Bool). by_limits b (ltb (rows_for l) (row_count X))) (lt-ltb nodes_most (node_count X) h)

  pub many-rows : node_count X ≤ nodes_most → rows_for l < row_count X → limited l X ≡ refused (refusal 11 0)
  unfolding limited by_limits
  many-rows h k = ap₂ by_limits (le-ltb nodes_most (node_count X) h) (lt-ltb (rows_for l) (row_count X) k)

  pub few-rows : node_count X ≤ nodes_most → row_count X ≤ rows_for l → limited l X ≡ given (compiled X)
  unfolding limited by_limits
  few-rows h k = ap₂ by_limits (le-ltb nodes_most (node_count X) h) (le-ltb (rows_for l) (row_count X) k)

-- ---- of a pattern

-- what is drawn of what was read
abbrev limited_answer : Room → Answer Tree → Answer Table
limited_answer l (refused r) = refused r
limited_answer l (given X) = limited l X

module _ (p : List ℕ) (l : Room) where
  drawn-read : drawn p l ≡ limited_answer l (answer p)
  unfolding drawn answer
  drawn-read = go (ltb pattern_most (length p)) (read p)
    where
      go : (long : Bool) (x : Reading)
          → ◌≡◌ {A = Answer Table} (elim long [ true ↦ refused (refusal 1 pattern_most) | false ↦ elim x [ bad n s ↦ refused (refusal n (length p - length s)) | got X ↦ limited l X ] ])
          (limited_answer l (unless_long long (of_reading p x)))
      go true x = refl
      go false (got X) = refl
      go false (bad n s) = refl

  pub not-read : {r : Refusal} → answer p ≡ refused r → drawn p l ≡ refused r
  not-read e = drawn-read ∙ ap (limited_answer l) e

  pub tree-read : {X : Tree} → answer p ≡ given X → drawn p l ≡ limited l X
  tree-read e = drawn-read ∙ ap (limited_answer l) e
