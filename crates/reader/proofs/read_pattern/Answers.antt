use native.Mathlib.Omega.{arith}
use Rattle.rules.proofs.ReadOnce.{refusal-number}
use Rattle.reader.proofs.DoneLaws.{passed, whole}
use Rattle.reader.proofs.SaysLaws.{says-legal, says-turned}
use Rattle.reader.proofs.ReadingLaws.{answer-long, answer-legal, answer-turned}
use Rattle.reader.proofs.read_pattern.Goals as goal

-- `read_pattern`: too long, or what the cycle reads from the start with no group open.
pub returns-then-pattern-gt-PATTERN_MOST : goal.returns-then-pattern-gt-PATTERN_MOST
returns-then-pattern-gt-PATTERN_MOST c = answer-long c.args.pattern.now c.if-pattern-gt-PATTERN_MOST.true

pub returns-in_err-n : goal.returns-in_err-n
returns-in_err-n c =
    let t = says-turned c.args.pattern.now c.in_err-n.ensures in
    rw (passed _ c.from_residual.ensures.1, ← whole c.in_err-n.field-0.0 (refusal-number t).1) (answer-turned c.args.pattern.now c.if-pattern-gt-PATTERN_MOST.false t)

pub returns : goal.returns
returns c =
    let d = c.in_ok-n.ensures in
    let h = c.requires.enough c.if-pattern-gt-PATTERN_MOST.false in
    record {
      tree = d.tree;
      is = answer-legal c.args.pattern.now c.if-pattern-gt-PATTERN_MOST.false (says-legal c.args.pattern.now d.says);
      program = d.wrote;
      fits = omega (arith, d.room);
      short = omega (arith, d.room);
    }
