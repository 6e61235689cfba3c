-- A text is always written, and how long it gets.
use mathlib.Core.Path.{◌≡◌, refl}
use mathlib.Core.List.{List}
use Prim.Native.Nat.{ℕ, ◌≤◌}
use native.Mathlib.Omega.{arith}
use lib.ListN.{length}
use Rattle.rules.specs.Sizes.{listing_rows}
use Rattle.rules.specs.Table.{Table}
use Rattle.rules.specs.Answers.{Answer, refused, given}
use Rattle.rules.specs.Compile.{Room, leaves, drawn, compile}
use Rattle.rules.specs.Listing.{listing, without_line_end, room_for}
use Rattle.rules.proofs.TableLaws.{well-formed-test}
use Rattle.rules.proofs.LentTable.{longer-formed}
use Rattle.rules.proofs.CompileOnce.{drawn-formed}
use Rattle.writing.specs.Texts.{if_formed}
use Rattle.writing.proofs.Cases.{if-true}
use Rattle.lines.proofs.LineLaws.{refusal-line-most}
use Rattle.listing.specs.Programs.{outcome_text}
use Rattle.listing.proofs.Printed.{rows-most, room-rows}
use Rattle.dot.specs.Dot.{dot, dot_of}
use Rattle.dot.proofs.Lengths.{dot-most}
use Rattle.draw.specs.Graphs.{graph_of, graph_most}

pub record Given (a : Answer (List ℕ)) : Type 0 where
  pub text : List ℕ
  pub is : a ≡ given text
  pub short : length text ≤ graph_most

pub graph-given : (input : List ℕ) → Given (graph_of input)
unfolding graph_of compile outcome_text leaves if_formed
graph-given input = go (drawn p l) refl
  where
    p : List ℕ
    p = without_line_end input

    l : Room
    l = room_for listing_rows

    go : (d : Answer Table) → drawn p l ≡ d → Given (outcome_text dot_of (leaves l d))
    go (refused r) e = record { text = listing (refused r); is = refl; short = omega (arith, refusal-line-most p l r e) }
    go (given w) e =
        let f = longer-formed (drawn-formed p l w e) _ _ in
        record { text = dot _; is = if-true _ _ ((well-formed-test _).1 f); short = omega (arith, dot-most f, rows-most p l w e, room-rows) }
