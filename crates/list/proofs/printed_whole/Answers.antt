use native.Mathlib.Omega.{arith}
use Rattle.rules.specs.Listing as rule
use Rattle.writing.proofs.Answered.{whole-written}
use Rattle.listing.proofs.Printed.{printed-most}
use Rattle.list.proofs.printed_whole.Goals as goal

pub returns : goal.returns
returns c =
    let x = whole-written c.args.out.now c.printed.new.out (rule.printed c.args.input.now) (omega (arith, printed-most c.args.input.now)) c.printed.result c.printed.ensures c.whole_length.ensures in
    record { out_after = x.0; prefix_len = x.1 }
