-- No two refusals have the same number, place and values.
use mathlib.Core.Path.{◌≡◌, refl, sym, ap, ◌∙◌}
use mathlib.Core.List.{[], ◌∷◌}
use lib.ListN.{get_or}
use Rattle.rules.specs.Tools.{find}
use Rattle.rules.specs.Answers as answers
use Rattle.kinds.specs.declared.Refusal.{Refusal}
use Rattle.kinds.specs.declared.Refusal.TheVariants.{TooLong, NoAtom, BadCount, BadClass, BadEscape, Stray, NoGroup, OpenGroup, DeepGroup, ManyNodes, ManyRows, LongText, NotFormed, PastEnd, FewPlaces}
use Rattle.kinds.specs.Refusals.{refusal_of}

-- the refusal that has them
abbrev pub back : answers.Refusal → Refusal
back r =
    find (FewPlaces (get_or r.values 0 0)) r.number
    ((1, TooLong) ∷ (2, NoAtom r.place) ∷ (3, BadCount r.place) ∷ (4, BadClass r.place) ∷ (5, BadEscape r.place) ∷ (6, Stray r.place)
    ∷ (7, NoGroup r.place) ∷ (8, OpenGroup r.place) ∷ (9, DeepGroup r.place) ∷ (10, ManyNodes) ∷ (11, ManyRows) ∷ (12, LongText) ∷ (13, NotFormed)
    ∷ (14, PastEnd) ∷ [])

pub back-of : (r : Refusal) → back (refusal_of r) ≡ r
back-of TooLong = refl
back-of (NoAtom i) = refl
back-of (BadCount i) = refl
back-of (BadClass i) = refl
back-of (BadEscape i) = refl
back-of (Stray i) = refl
back-of (NoGroup i) = refl
back-of (OpenGroup i) = refl
back-of (DeepGroup i) = refl
back-of ManyNodes = refl
back-of ManyRows = refl
back-of LongText = refl
back-of NotFormed = refl
back-of PastEnd = refl
back-of (FewPlaces n) = refl

pub refusals-apart : (r s : Refusal) → refusal_of r ≡ refusal_of s → r ≡ s
refusals-apart r s e = sym (back-of r) ∙ ap back e ∙ back-of s
