-- From what the stages drew to the outcome of compiling.
use mathlib.Core.Path.{◌≡◌, refl, sym, ap, ap₂, ◌∙◌}
use mathlib.Core.List.{List, [], ◌++◌}
use Prim.Native.Nat.{ℕ, ◌-◌}
use lib.ListN.{length, replicate}
use Rattle.rules.specs.Table.{Table}
use Rattle.rules.specs.Answers.{Answer, refused, given}
use Rattle.rules.specs.Compile.{Room, Outcome, over, leaves, compile}
use Rattle.std.specs.Prelude.{Result, Ok, Err}
use Rattle.kinds.specs.declared.Refusal.{Refusal}
use Rattle.kinds.specs.Refusals.{refusal_of}
use Rattle.compile.specs.Outcomes.{kept, kept_rows, Compiles, Front, Drew}
use Rattle.answers.specs.declared.Drawn.{Drawn}

-- zeros up to the length of the old list
over-as : {xs ys : List ℕ} (old new : List ℕ) → xs ≡ ys → length new ≡ length old → over xs new ≡ over ys old
over-as old new e l = ap₂ {C = List ℕ} (λ (zs : List ℕ) (n : ℕ). zs ++ replicate (n - length zs) 0) e l

room_as : {a b : Room} → a.cells ≡ b.cells → a.marks ≡ b.marks → a.sets ≡ b.sets → a ≡ b
room_as p q r = λ i. record { cells = p i; marks = q i; sets = r i }

module _ {old new : Room} where
  pub outcome : (p : List ℕ) (r : Result Drawn Refusal) → Drew p old new r → Compiles p old (kept new (kept_rows r)) r
  unfolding compile leaves
  outcome p (Ok t) d =
      let w : Table = d.drew.0 in
      let f : Front w new t.rows t.head.0 = d.drew.2 in
      let is : compile p old ≡ leaves old (given w) = ap (leaves old) d.drew.1 in
      record {
        answer = ap₂ {C = Answer (ℕ × ℕ)} (λ (a b : ℕ). given (a, b)) (sym f.count) (sym f.first) ∙ sym (ap (λ (o : Outcome). o.answer) is);
        room = room_as (over-as old.cells new.cells f.cells d.room.cells) (over-as old.marks new.marks f.marks d.room.marks)
            (over-as {xs = []} old.sets new.sets refl d.room.sets) ∙ sym (ap (λ (o : Outcome). o.room) is);
      }
  outcome p (Err r) d =
      let is : compile p old ≡ leaves old (refused (refusal_of r)) = ap (leaves old) d.drew in
      record {
        answer = sym (ap (λ (o : Outcome). o.answer) is);
        room = room_as (over-as {xs = []} old.cells new.cells refl d.room.cells) (over-as {xs = []} old.marks new.marks refl d.room.marks)
            (over-as {xs = []} old.sets new.sets refl d.room.sets) ∙ sym (ap (λ (o : Outcome). o.room) is);
      }
