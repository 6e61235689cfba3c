use mathlib.Core.Path.{refl}
use Prim.Native.Nat.{ℕ}
use native.Mathlib.Omega.{arith}
use lib.ListN.{drop, length-set}
use Rattle.table.specs.Lent.{lent_table}
use Rattle.ahead.specs.Ahead.{ahead}
use Rattle.table.proofs.CheckLaws.{well}
use Rattle.ahead.proofs.AheadLaws.{flag-more, rest_all, rest-less}
use Rattle.ahead.proofs.Search.flags_before.Goals as goal

pub loop-q-init : goal.loop-q-init
loop-q-init c = record { long = refl; made = λ k l. absurd (omega arith); rest = rest_all }

pub bounds-earlier-q : goal.bounds-earlier-q
bounds-earlier-q c = let g = well c.args.self.now.passed in
    omega arith

pub loop-q-preserved : goal.loop-q-preserved
loop-q-preserved c =
    let S = c.args.self.now in
    let I = c.loop-q.invariant in
    let g = well S.passed in
    record {
      long = simp length-set I.long;
      made = flag-more (λ (k : ℕ). ahead (lent_table S.table) k (drop c.args.from S.text.now)) c.loop-q.earlier I.made (omega arith) c.look-walk.ensures.answer;
      rest = rest-less c.loop-q.earlier _ _ I.rest;
    }
