use Rattle.merge.proofs.NumberLaws.{Counting}
use Rattle.merge.proofs.numbers.give.Given as goal

abbrev pub invariant-loop-q : goal.invariant-loop-q
invariant-loop-q l = Counting l.class l.number l.k l.q
