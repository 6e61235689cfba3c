use Rattle.naming.specs.Naming.{NamedTo}
use Rattle.naming.proofs.name.Given as goal

abbrev pub invariant-loop-r : goal.invariant-loop-r
invariant-loop-r l = NamedTo l.number l.first l.class l.r
