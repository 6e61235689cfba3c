use mathlib.Core.Path.{sym}
use lib.Seq.{length-take-le}
use Rattle.std.proofs.lemmas.Result.{err_from_is_err_and}
use Rattle.spine.specs.Parts.{Part}
use Rattle.nodes.specs.Built.{HoldTree}
use Rattle.compile.proofs.FirstNodes.{fits, first-nodes}
use Rattle.compile.proofs.StageLaws.{refused-at, nodes-refused}
use Rattle.compile.proofs.Room.draw_program.Goals as goal
use Rattle.compile.proofs.Room.draw_program.Goals.{In_ok-count}

-- `draw_program`: the nodes are too many, or stand at the front of the array.
held : (b : In_ok-count) (h : Part b.args.program.now b.args.len) → HoldTree b.args.program.now h.tree b.build.new.nodes b.in_ok-count.count
held b h = rw b.in_ok-count.ensures.ok_part at (b.build.ensures h)

pub returns-in_err-count-clause-drew : goal.returns-in_err-count-clause-drew
returns-in_err-count-clause-drew c h =
    let told = c.in_err-count.ensures in
    rw (refused-at c.build.result (err_from_is_err_and c.from_residual.result c.from_residual.ensures.1) told.value) (nodes-refused h.tree (rw told.ok_part at (c.build.ensures h)))

pub slice_bounds-nodes-end : goal.slice_bounds-nodes-end
slice_bounds-nodes-end c = fits (held (goal.at.slice_bounds-nodes-end c).In_ok-count c.requires.0.part)

pub slice_bounds-draw_nodes-end : goal.slice_bounds-draw_nodes-end
slice_bounds-draw_nodes-end c = sym (length-take-le c.in_ok-count.count _ (fits (held (goal.at.slice_bounds-draw_nodes-end c).In_ok-count c.requires.0.part)))

pub draw_nodes-requires : goal.draw_nodes-requires
draw_nodes-requires c = (c.requires.0.part.tree, first-nodes (held (goal.at.draw_nodes-requires c).In_ok-count c.requires.0.part))

pub returns-clause-drew : goal.returns-clause-drew
returns-clause-drew c h = c.draw_nodes.ensures.drew h.tree (first-nodes (held (goal.at.returns-clause-drew c).In_ok-count h))
