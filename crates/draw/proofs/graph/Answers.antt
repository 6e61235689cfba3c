use mathlib.Core.Path.{◌≡◌, ap, ◌∙◌}
use mathlib.Core.List.{List}
use Prim.Native.Nat.{ℕ}
use Rattle.rules.specs.Sizes.{listing_rows}
use Rattle.rules.specs.Compile.{Room, Outcome, compile}
use Rattle.rules.specs.Listing.{without_line_end, room_for}
use Rattle.writing.specs.Texts.{Shown, shown_in}
use Rattle.listing.specs.Programs.{outcome_text}
use Rattle.compile.specs.Outcomes.{outcome_of, Compiles}
use Rattle.std.specs.Prelude.{Result}
use Rattle.kinds.specs.declared.Refusal.{Refusal}
use Rattle.answers.specs.declared.Drawn.{Drawn}
use Rattle.compile.proofs.OutcomesOnce.{outcome-is}
use Rattle.dot.specs.Dot.{dot_of}
use Rattle.draw.specs.Graphs.{graph_of}
use Rattle.draw.proofs.graph.Goals as goal

-- what is shown of what was compiled is the graph
made-graph : (input old : List ℕ) {p : List ℕ} {left : Room} {r : Result Drawn Refusal} {x : Shown} → Compiles p (room_for listing_rows) left r → p ≡ without_line_end input
    → x ≡ shown_in old (outcome_text dot_of (outcome_of r left)) → x ≡ shown_in old (graph_of input)
unfolding graph_of
made-graph input old k e h =
    h ∙ ap (λ (o : Outcome). shown_in old (outcome_text dot_of o)) (outcome-is k ∙ ap (λ (q : List ℕ). compile q (room_for listing_rows)) e)

pub returns-in-Ok : goal.returns-in-Ok
unfolding outcome_text
returns-in-Ok c =
    made-graph c.args.input.now c.args.out.now (rw c.in-Ok.is at c.compile.ensures) c.pattern_of-pattern.ensures.bytes c.write_dot.ensures

pub returns-in-Err : goal.returns-in-Err
unfolding outcome_text
returns-in-Err c =
    made-graph c.args.input.now c.args.out.now (rw c.in-Err.is at c.compile.ensures) c.pattern_of-pattern.ensures.bytes c.write_refusal.ensures
