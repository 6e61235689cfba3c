-- The number, the place and the values of each refusal.
use Rattle.std.specs.Prelude.{[], ◌∷◌}
use Rattle.rules.specs.Sizes.{pattern_most}
use Rattle.rules.specs.Answers.{refusal}
use Rattle.rules.specs.Answers as answers
use Rattle.kinds.specs.declared.Refusal.{Refusal}
use Rattle.kinds.specs.declared.Refusal.TheVariants.{TooLong, NoAtom, BadCount, BadClass, BadEscape, Stray, NoGroup, OpenGroup, DeepGroup, ManyNodes, ManyRows, LongText, NotFormed, PastEnd, FewPlaces}

abbrev pub refusal_of : Refusal → answers.Refusal
refusal_of TooLong = refusal 1 pattern_most
refusal_of (NoAtom i) = refusal 2 i
refusal_of (BadCount i) = refusal 3 i
refusal_of (BadClass i) = refusal 4 i
refusal_of (BadEscape i) = refusal 5 i
refusal_of (Stray i) = refusal 6 i
refusal_of (NoGroup i) = refusal 7 i
refusal_of (OpenGroup i) = refusal 8 i
refusal_of (DeepGroup i) = refusal 9 i
refusal_of ManyNodes = refusal 10 0
refusal_of ManyRows = refusal 11 0
refusal_of LongText = refusal 12 0
refusal_of NotFormed = refusal 13 0
refusal_of PastEnd = refusal 14 0
refusal_of (FewPlaces n) = record { number = 15; place = 0; values = n ∷ [] }
