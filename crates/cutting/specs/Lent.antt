-- Classes in lists that are lent, cut by groups.
use Rattle.std.specs.Prelude.{List, ℕ}
use Rattle.chains.specs.Lent.{Labelled_in}
use Rattle.chains.specs.declared.Groups.{Groups}
use Rattle.stretches.specs.declared.Classes.{Classes}
use Rattle.cutting.specs.Cutting.{CutOff, CutTo, Standing}

-- n rows in their stretches, with their places
abbrev pub Standing_in : Classes → ℕ → ℕ → Type 0
Standing_in classes n many = Standing classes.order.now classes.place.now classes.class.now classes.start.now classes.end.now n many

-- group g is cut off, whatever labels fit
abbrev pub CutOff_in : Classes → Classes → Groups → ℕ → ℕ → ℕ → ℕ → ℕ → Type 0
CutOff_in old new groups n count g many many' =
    (label : List ℕ) (rows : ℕ) → Labelled_in label old.class.now groups n rows count → CutOff label old.class.now new.class.now n g many many'

-- each of `count` groups is cut off, whatever labels fit
abbrev pub CutTo_in : Classes → Classes → Groups → ℕ → ℕ → ℕ → ℕ → Type 0
CutTo_in old new groups n count many many' =
    (label : List ℕ) (rows : ℕ) → Labelled_in label old.class.now groups n rows count → CutTo label old.class.now new.class.now n count many many'
