use native.Mathlib.Omega.{arith}
use lib.ListN.{length-set}
use Rattle.stretches.specs.Stretches.{Within}
use Rattle.stretches.proofs.StretchLaws.{room, within, fits, once-of}
use Rattle.stretches.proofs.CutLaws.{end-cut, start-cut}
use Rattle.stretches.proofs.Classes.cut.Goals as goal

pub name-requires : goal.name-requires
name-requires c =
    let S = c.requires.0 in
    let W : Within c.args.self.now.start.now c.args.self.now.end.now c.args.c c.args.at c.args.many = within S c.requires.1 c.if-at-from.false c.if-at-to.false in
    record {
      once = once-of S;
      places = (omega (arith, W.to), omega (arith, fits S W, S.order-long));
      room = (omega (arith, fits S W), grind (arith, length-set, fits S W), omega (arith, fits S W));
    }

pub name-requires-2 : goal.name-requires-2
name-requires-2 c =
    let S = c.requires.0 in
    let W : Within c.args.self.now.start.now c.args.self.now.end.now c.args.c c.args.at c.args.many = within S c.requires.1 c.if-at-from.false c.if-at-to.false in
    record {
      once = once-of S;
      places = (omega (arith, W.from), omega (arith, W.to, fits S W, S.order-long));
      room = (grind (arith, length-set, fits S W), omega (arith, fits S W), omega (arith, fits S W));
    }

pub returns-then-to-at-clause-stretches : goal.returns-then-to-at-clause-stretches
returns-then-to-at-clause-stretches c =
    let S = c.requires.0 in
    rw (c.name.ensures.unmoved.0, c.name.ensures.start, c.name.ensures.end) (end-cut S (within S c.requires.1 c.if-at-from.false c.if-at-to.false) c.name.ensures.renumbered).0

pub overflow_add-result-2 : goal.overflow_add-result-2
overflow_add-result-2 c =
    let S = c.requires.0 in
    omega (arith, room S (within S c.requires.1 c.if-at-from.false c.if-at-to.false), S.few)

pub returns-clause-stretches : goal.returns-clause-stretches
returns-clause-stretches c =
    let S = c.requires.0 in
    rw (c.name-2.ensures.unmoved.0, c.name-2.ensures.start, c.name-2.ensures.end) (start-cut S (within S c.requires.1 c.if-at-from.false c.if-at-to.false) c.name-2.ensures.renumbered).0
