use borrow.Author.Rules.{rules}
use mathlib.Core.Path.{◌≡◌, ap, ◌∙◌}
use mathlib.Core.List.{List, map}
use Prim.Native.Nat.{◌+◌, ◌*◌, ◌<◌}
use native.Mathlib.Omega.{arith}
use Rattle.std.proofs.lemmas.List.Elements.{All-head, All-tail}
use Rattle.rules.specs.Tools.{flat}
use Rattle.rules.specs.Listing.{Run, runs}
use Rattle.table.specs.Lent.{lent_table}
use Rattle.writing.specs.RunsLeft.{runs_left}
use Rattle.writing.proofs.Writings.{left-all, left_less, left-none}
use Rattle.writing.proofs.RunLaws.{runs_all}
use Rattle.writing.proofs.RowLaws.{part, part_slice, part_at, part_length}
use Rattle.dot.specs.Dot.{arrow_unless_trap}
use Rattle.dot.proofs.put_ways.Goals as goal

pub loop-run-init : goal.loop-run-init
loop-run-init c =
    let q = c.args.q.0 in
    let w = lent_table c.args.table.now in
    let e : runs_left c.into_iter-run-iterator.result ≡ runs (part q w.cells) = search rules in (
      left-all (ap (λ (rs : List Run). flat (map (arrow_unless_trap w q) rs)) (e ∙ ap runs (part_slice (256 * q) (256 * q + 256) w.cells))),
      rw e
          (runs_all (λ n. n < w.count) (part q w.cells)
          (λ i h. let near : i < 256 = omega (arith, part_length q w.cells (omega arith)) in rw part_at (c.requires.formed.cells-rows (256 * q + i) (omega arith)))),
    )

pub put_way-requires-clause-row : goal.put_way-requires-clause-row
put_way-requires-clause-row c = All-head (λ (r : Run). r.to < c.args.table.now.rows) _ _ (rw c.in-Some.ensures.steps at c.loop-run.invariant.1)

pub loop-run-preserved : goal.loop-run-preserved
loop-run-preserved c = (
  left_less c.loop-run.invariant.0 (ap (λ (rs : List Run). flat (map (arrow_unless_trap (lent_table c.args.table.now) c.args.q.0) rs)) c.in-Some.ensures.steps) c.put_way.ensures,
  All-tail (λ (r : Run). r.to < c.args.table.now.rows) _ _ (rw c.in-Some.ensures.steps at c.loop-run.invariant.1),
)

pub returns : goal.returns
returns c = left-none c.loop-run.invariant.0 (ap (λ (rs : List Run). flat (map (arrow_unless_trap (lent_table c.args.table.now) c.args.q.0) rs)) c.in-None.ensures.steps.0)
