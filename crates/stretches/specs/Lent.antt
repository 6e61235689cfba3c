-- Classes in lists that are lent.
use Rattle.std.specs.Prelude.{◌≡◌, ℕ, replicate, length}
use Rattle.stretches.specs.Stretches.{InOrder, Placed, Swapped, Stretches, Inside, CutAt}
use Rattle.stretches.specs.declared.Classes.{Classes}

-- the lists that are lent stay the same ones
pub record SameLists (old new : Classes) : Type 0 where
  pub order : new.order.ghost_name ≡ old.order.ghost_name
  pub place : new.place.ghost_name ≡ old.place.ghost_name
  pub class : new.class.ghost_name ≡ old.class.ghost_name
  pub start : new.start.ghost_name ≡ old.start.ghost_name
  pub end : new.end.ghost_name ≡ old.end.ghost_name

-- each list has a place for each of n rows
pub record RoomFor (classes : Classes) (n : ℕ) : Type 0 where
  pub order-long : length classes.order.now ≡ n
  pub place-long : length classes.place.now ≡ n
  pub class-long : length classes.class.now ≡ n
  pub start-long : length classes.start.now ≡ n
  pub end-long : length classes.end.now ≡ n

-- rows stay where they stood
abbrev pub Unmoved : Classes → Classes → Type 0
Unmoved old new = (new.order.now ≡ old.order.now) × (new.place.now ≡ old.place.now)

-- stretches keep their ends
abbrev pub EndsKept : Classes → Classes → Type 0
EndsKept old new = (new.start.now ≡ old.start.now) × (new.end.now ≡ old.end.now)

-- rows keep their classes, and stretches their ends
abbrev pub ClassesKept : Classes → Classes → Type 0
ClassesKept old new = (new.class.now ≡ old.class.now) × (new.start.now ≡ old.start.now) × (new.end.now ≡ old.end.now)

-- n rows stand in order, each of class 0
abbrev pub LinedUp : Classes → ℕ → Type 0
LinedUp classes n = InOrder classes.order.now classes.place.now n n × (classes.class.now ≡ replicate n 0)

-- each of n rows stands at its place
abbrev pub Placed_in : Classes → ℕ → Type 0
Placed_in classes n = Placed classes.order.now classes.place.now n

-- row r went to place p
abbrev pub Swapped_in : Classes → Classes → ℕ → ℕ → ℕ → Type 0
Swapped_in old new n r p = Swapped old.order.now old.place.now new.order.now new.place.now n r p

-- n rows are of classes numbered below `many`
abbrev pub Stretches_in : Classes → ℕ → ℕ → Type 0
Stretches_in classes n many = Stretches classes.order.now classes.class.now classes.start.now classes.end.now n many

-- a place of class c's stretch, or its end
abbrev pub Inside_in : Classes → ℕ → ℕ → ℕ → Type 0
Inside_in classes c at many = Inside classes.start.now classes.end.now c at many

-- class c is cut at the place `at`
abbrev pub CutAt_in : Classes → Classes → ℕ → ℕ → ℕ → ℕ → ℕ → Type 0
CutAt_in old new n c at many many' = CutAt old.order.now old.class.now new.class.now n c at many many'
