use mathlib.Core.Path.{◌≡◌}
use lib.ListN.{length}
use Rattle.chains.specs.Lent as chains
use Rattle.round.specs.Lent.{SameLists, Filed_in, Passed_in}
use Rattle.round.proofs.sort.Given as goal

abbrev pub invariant-loop-r : goal.invariant-loop-r
invariant-loop-r l = record {
  can_next : (goal.iterator-loop-r).can_next l.r-iterator;
  is_finite : (goal.iterator-loop-r).is_finite l.r-iterator;
  rows : (l.r-iterator.set.now ≡ l.touched) × (l.r-iterator.n ≡ length l.keys.class.now);
  same_lists : SameLists l.initial.buckets l.buckets × chains.SameLists l.initial.groups l.groups;
  filed : Filed_in l.keys l.groups l.buckets l.r-iterator.from;
  passed : Passed_in l.keys l.start l.end l.groups l.buckets l.r-iterator.from;
}
