use mathlib.Core.Path.{◌≡◌}
use lib.ListN.{drop}
use Rattle.known.specs.Known.{all_mixed}
use Rattle.known.proofs.mix_all.Given as goal

abbrev pub invariant-loop-i : goal.invariant-loop-i
invariant-loop-i l = all_mixed l.h l.i (drop l.i l.words) ≡ all_mixed 0 0 l.words
