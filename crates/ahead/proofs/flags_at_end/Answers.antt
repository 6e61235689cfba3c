use mathlib.Core.Path.{refl}
use Prim.Native.Nat.{ℕ}
use mathlib.Core.Bool.{true}
use native.Mathlib.Omega.{arith}
use lib.ListN.{length-set}
use Rattle.rules.specs.Table.{fits}
use Rattle.table.specs.Lent.{lent_table}
use Rattle.ahead.specs.Ahead.{mark, ahead}
use Rattle.ahead.proofs.AheadLaws.{flag-more, rest_all, rest-less}
use Rattle.ahead.proofs.flags_at_end.Goals as goal

pub loop-q-init : goal.loop-q-init
loop-q-init c = record { long = refl; made = λ k l. absurd (omega arith); rest = rest_all }

pub bounds-table-q : goal.bounds-table-q
bounds-table-q c = let g = c.requires in
    omega arith

pub bounds-flags-q : goal.bounds-flags-q
bounds-flags-q c = let g = c.requires in
    omega arith

pub loop-q-preserved : goal.loop-q-preserved
loop-q-preserved c =
    let I = c.loop-q.invariant in
    let g = c.requires in
    record {
      long = simp length-set I.long;
      made = flag-more (λ (k : ℕ). fits (mark (lent_table c.args.table.now) k) true) c.loop-q.flags I.made (omega arith) c.ends_here.ensures;
      rest = rest-less c.loop-q.flags _ _ I.rest;
    }

pub returns : goal.returns
unfolding ahead
returns c = record { of = λ k l. c.loop-q.invariant.made k (omega arith); rest = λ k l. c.loop-q.invariant.rest k (omega arith) }
