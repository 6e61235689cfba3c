use Prim.Native.Nat.{◌≤◌}
use native.Mathlib.Omega.{arith}
use lib.ListN.{length}
use Rattle.std.specs.Prelude.{Ok}
use Rattle.writing.proofs.Answered.{whole-written}
use Rattle.comparing.specs.Comparison.{comparison}
use Rattle.comparing.proofs.Beginnings.{comparison-most}
use Rattle.same.proofs.compared.Goals as goal

-- what is said fits the buffer, so it is written whole
pub returns : goal.returns
returns c =
    let said = comparison c.args.input.now in
    let fits : length said ≤ length c.args.out.now = omega (arith, comparison-most c.args.input.now) in
    let x = whole-written c.args.out.now c.write_comparison.new.out said fits (Ok c.write_comparison.result) c.write_comparison.ensures c.whole_length.ensures in
    record { out_after = x.0; prefix_len = x.1 }
