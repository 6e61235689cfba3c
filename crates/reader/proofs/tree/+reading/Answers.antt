use mathlib.Core.Path.{sym, ◌∙◌}
use native.Mathlib.Omega.{arith}
use Rattle.rules.specs.Tree.{nothing, in_row, either, repeated}
use Rattle.signs.specs.Answers.{repeat_of}
use Rattle.signs.specs.declared.sign.Sign.TheVariants.{OpensGroup, Bar}
use Rattle.program.specs.declared.Op.TheVariants.{InRow, Either}
use Rattle.reader.proofs.TokenLaws.{token_end, token_at, on_within, close_here}
use Rattle.program.proofs.ProgramKeeps.{wrote_one, wrote-sign, wrote-pair, kept-below}
use Rattle.reader.proofs.DoneLaws.{passed}
use Rattle.reader.proofs.SaysLaws.{atom-deep, group-refused, group-unclosed, group-closed, piece-once, piece-signed, piece-brace, branch-empty, branch-on, pieces-stop, pieces-refused, pieces-on, pattern-on, branches-end, branches-out, branches-stray, branches-refused, branches-on}
use Rattle.reader.proofs.tree.+reading.Goals as goal

pub read_atom-returns-then-groups-ge-GROUPS_MOST : goal.read_atom-returns-then-groups-ge-GROUPS_MOST
read_atom-returns-then-groups-ge-GROUPS_MOST t c =
    let o = token_at c.args.p.now c.args.at OpensGroup (omega arith) (rw c.in-OpensGroup.is at c.from.ensures) in
    atom-deep o c.if-groups-ge-GROUPS_MOST.true (omega arith)

pub read_atom-returns-in_err-next-in-OpensGroup : goal.read_atom-returns-in_err-next-in-OpensGroup
read_atom-returns-in_err-next-in-OpensGroup t c =
    let o = token_at c.args.p.now c.args.at OpensGroup (omega arith) (rw c.in-OpensGroup.is at c.from.ensures) in
    rw (passed c.from_residual.result c.from_residual.ensures.1) (group-refused o c.if-groups-ge-GROUPS_MOST.false c.in_err-next-in-OpensGroup.ensures)

pub read_atom-returns-then-p-next : goal.read_atom-returns-then-p-next
read_atom-returns-then-p-next t c = let d = c.in_ok-next-in-OpensGroup.ensures in
    let o = token_at c.args.p.now c.args.at OpensGroup (omega arith) (rw c.in-OpensGroup.is at c.from.ensures) in
    group-unclosed o c.if-groups-ge-GROUPS_MOST.false d.says c.if-p-next.true d.high

pub read_atom-returns-else-p-next : goal.read_atom-returns-else-p-next
read_atom-returns-else-p-next t c = let d = c.in_ok-next-in-OpensGroup.ensures in
    let o = token_at c.args.p.now c.args.at OpensGroup (omega arith) (rw c.in-OpensGroup.is at c.from.ensures) in
    record {
      tree = d.tree;
      says = group-closed o c.if-groups-ge-GROUPS_MOST.false d.says c.if-p-next.false;
      wrote = d.wrote;
      kept = d.kept;
      longer = omega arith;
      low = omega arith;
      high = omega arith;
      room = omega arith;
    }

pub read_atom-returns-in_default : goal.read_atom-returns-in_default
read_atom-returns-in_default t c = c.read_single.ensures c.args.groups

pub read_branch-returns-then-stops_at : goal.read_branch-returns-then-stops_at
read_branch-returns-then-stops_at t c = rw c.one.ensures.is (record {
  tree = nothing;
  says = branch-empty (sym c.if-stops_at.ensures);
  wrote = wrote_one c.one.ensures.puts;
  kept = c.one.ensures.puts.kept;
  longer = omega arith;
  low = omega arith;
  high = omega arith;
  room = omega arith;
})

pub read_branch-read_piece-requires : goal.read_branch-read_piece-requires
read_branch-read_piece-requires t c = let i = on_within c.args.p.now c.args.from (sym c.if-stops_at.ensures) in omega arith

pub read_branch-read_piece-requires-in-reading : goal.read_branch-read_piece-requires-in-reading
read_branch-read_piece-requires-in-reading t c = let i = on_within c.args.p.now c.reading.at (sym c.if-stops_at-2.ensures) in omega (arith, c.read_piece.auto)

pub read_branch-returns-in_err-next : goal.read_branch-returns-in_err-next
read_branch-returns-in_err-next t c = let d = c.in_ok-at.ensures in
    let g = c.reading.invariant.5 d.tree d.wrote in
    let b = pieces-refused (sym c.if-stops_at-2.ensures) c.in_err-next.ensures in
    rw (passed _ c.from_residual-in_err-next.ensures.1) (branch-on (sym c.if-stops_at.ensures) d.says (g.back _ b))

pub read_branch-reading-preserved : goal.read_branch-reading-preserved
read_branch-reading-preserved t c = let d = c.in_ok-next.ensures in
    let k = c.in_ok-next.end in
    let l = c.read_piece-in-reading.new.program in let new = c.put.new.program in (
      omega arith,
      omega arith,
      omega arith,
      omega (arith, c.read_piece-in-reading.auto, c.put.auto),
      omega arith,
      λ X w. let g = c.reading.invariant.5 X w in
          record {
            tree = in_row g.tree d.tree;
            wrote = wrote-pair l new c.args.start k InRow g.tree d.tree c.reading.program c.reading.n g.wrote d.kept d.wrote c.put.ensures;
            kept = kept-below l new c.args.start k c.put.ensures.kept (omega arith) ∙ kept-below c.reading.program l c.args.start c.reading.n d.kept (omega arith) ∙ g.kept;
            back = λ r h. g.back r (pieces-on (sym c.if-stops_at-2.ensures) d.says h);
          },
    )

pub read_branch-returns : goal.read_branch-returns
read_branch-returns t c = let d = c.in_ok-at.ensures in
    let g = c.reading.invariant.5 d.tree d.wrote in
    record {
      tree = g.tree;
      says = branch-on (sym c.if-stops_at.ensures) d.says (g.back _ (pieces-stop (sym c.if-stops_at-2.ensures)));
      wrote = g.wrote;
      kept = g.kept ∙ d.kept;
      longer = omega arith;
      low = omega arith;
      high = omega arith;
      room = omega arith;
    }

pub read_branches-returns-in_err-next-in-Bar : goal.read_branches-returns-in_err-next-in-Bar
read_branches-returns-in_err-next-in-Bar t c = let d = c.in_ok-at.ensures in
    let g = c.reading.invariant.5 d.tree d.wrote in
    let h = c.in-Some.ensures.lookup.3 in
    let o = token_at c.args.p.now c.reading.at Bar h.0 (rw (c.in-Bar.is, h.1 0) at c.from.ensures) in
    rw (passed _ c.from_residual-in_err-next-in-Bar.ensures.1) (pattern-on d.says (g.back _ (branches-refused o c.in_err-next-in-Bar.ensures)))

pub read_branches-reading-preserved : goal.read_branches-reading-preserved
read_branches-reading-preserved t c = let d = c.in_ok-next-in-Bar.ensures in
    let k = c.in_ok-next-in-Bar.end in
    let l = c.read_branch-in-Bar.new.program in let new = c.put.new.program in
    let h = c.in-Some.ensures.lookup.3 in
    let o = token_at c.args.p.now c.reading.at Bar h.0 (rw (c.in-Bar.is, h.1 0) at c.from.ensures) in (
      omega arith,
      omega arith,
      omega arith,
      omega (arith, c.read_branch-in-Bar.auto, c.put.auto),
      omega arith,
      λ X w. let g = c.reading.invariant.5 X w in
          record {
            tree = either g.tree d.tree;
            wrote = wrote-pair l new c.args.start k Either g.tree d.tree c.reading.program c.reading.n g.wrote d.kept d.wrote c.put.ensures;
            kept = kept-below l new c.args.start k c.put.ensures.kept (omega arith) ∙ kept-below c.reading.program l c.args.start c.reading.n d.kept (omega arith) ∙ g.kept;
            back = λ r h. g.back r (branches-on o d.says h);
          },
    )

pub read_branches-returns-in_default : goal.read_branches-returns-in_default
read_branches-returns-in_default t c = let d = c.in_ok-at.ensures in
    let g = c.reading.invariant.5 d.tree d.wrote in
    record {
      tree = g.tree;
      says = pattern-on d.says (g.back _ (branches-end (token_end c.args.p.now c.reading.at c.in_default.ensures.lookup.3)));
      wrote = g.wrote;
      kept = g.kept ∙ d.kept;
      longer = omega arith;
      low = omega arith;
      high = omega arith;
      room = omega arith;
    }

pub read_branches-returns-in_default-from : goal.read_branches-returns-in_default-from
read_branches-returns-in_default-from t c = let d = c.in_ok-at.ensures in
    let g = c.reading.invariant.5 d.tree d.wrote in
    let h = c.in-Some.ensures.lookup.3 in
    let o = close_here c.args.p.now c.reading.at c.from.result h.0 (rw (h.1 0) at c.from.ensures) c.in_default-from.not-Bar in
    pattern-on d.says (g.back _ (branches-stray o c.if-groups-eq0.true (omega arith)))

pub read_branches-returns-in_default-2 : goal.read_branches-returns-in_default-2
read_branches-returns-in_default-2 t c = let d = c.in_ok-at.ensures in
    let g = c.reading.invariant.5 d.tree d.wrote in
    let h = c.in-Some.ensures.lookup.3 in
    let o = close_here c.args.p.now c.reading.at c.from.result h.0 (rw (h.1 0) at c.from.ensures) c.in_default-from.not-Bar in
    record {
      tree = g.tree;
      says = pattern-on d.says (g.back _ (branches-out o (omega arith)));
      wrote = g.wrote;
      kept = g.kept ∙ d.kept;
      longer = omega arith;
      low = omega arith;
      high = omega arith;
      room = omega arith;
    }

pub read_piece-returns-in_err-after_atom : goal.read_piece-returns-in_err-after_atom
read_piece-returns-in_err-after_atom t c = let d = c.in_ok-next.ensures in let a = c.in_err-after_atom.ensures in
    rw (passed _ c.from_residual-in_err-after_atom.ensures.1, a.1) (piece-brace d.says a.0 d.high)

pub read_piece-returns-in-None : goal.read_piece-returns-in-None
read_piece-returns-in-None t c = let d = c.in_ok-next.ensures in
    record {
      tree = d.tree;
      says = piece-once d.says (rw c.in-None.is at c.in_ok-after_atom.ensures);
      wrote = d.wrote;
      kept = d.kept;
      longer = omega arith;
      low = omega arith;
      high = omega arith;
      room = omega arith;
    }

pub read_piece-returns-in-Some : goal.read_piece-returns-in-Some
read_piece-returns-in-Some t c = let d = c.in_ok-next.ensures in
    let a = rw c.in-Some.is at c.in_ok-after_atom.ensures in
    let k = c.in_ok-next.end in
    rw c.one.ensures.is (record {
      tree = repeated (repeat_of c.in-Some.sign) d.tree;
      says = piece-signed d.says a.0;
      wrote = wrote-sign c.read_atom.new.program c.one.new.program c.args.n k d.tree c.in-Some.sign d.wrote c.one.ensures.puts;
      kept = kept-below c.read_atom.new.program c.one.new.program c.args.n k c.one.ensures.puts.kept (omega arith) ∙ d.kept;
      longer = omega arith;
      low = omega arith;
      high = omega arith;
      room = omega arith;
    })
