-- Rounds one after the other, until no class waits.
use mathlib.Core.Path.{◌≡◌, ◌∙◌}
use mathlib.Core.List.{List}
use Prim.Native.Nat.{ℕ, ◌≤◌, ◌<◌}
use native.Mathlib.Omega.{arith}
use lib.ListN.{length}
use Rattle.rules.specs.Grid.{Grid}
use Rattle.grid.specs.Rows.{rows_of}
use Rattle.chains.specs.Lent as chains
use Rattle.chains.specs.declared.Groups.{Groups}
use Rattle.stretches.specs.Lent as stretches
use Rattle.stretches.specs.declared.Classes.{Classes}
use Rattle.stretches.proofs.StretchLaws.{many-few, of_row}
use Rattle.stretches.proofs.LentLaws.{same-lists-then}
use Rattle.cutting.specs.Lent.{Standing_in}
use Rattle.waiting.proofs.WaitLaws.{Waiting, refined}
use Rattle.settling.specs.Settling.{MarksTell}
use Rattle.settling.specs.Lent.{Drawn_in, Scratch_in, Refined_in, Settled_in}
use Rattle.settling.specs.declared.Paths.{Paths}
use Rattle.settling.proofs.RoundLaws.{settled}

-- the rows are in `many` classes, of which those from `from` on wait; by whichever marks the classes were made at first
pub record Rounds (paths : Paths) (old new : Classes) (groups₀ groups : Groups) (firsts links touched : List ℕ) (many from : ℕ) : Type 0 where
  pub same-classes : stretches.SameLists old new
  pub same-groups : chains.SameLists groups₀ groups
  pub drawn : Drawn_in paths (length old.order.now)
  pub scratch : Scratch_in groups firsts links touched (length old.order.now)
  pub standing : Standing_in new (length old.order.now) many
  pub some : 0 < from
  pub few : from ≤ many
  pub waiting : (marks : List ℕ) (G : Grid (rows_of paths.cells.now (length old.order.now)) marks) → MarksTell marks old.class.now (length old.order.now)
      → Waiting paths.cells.now (length old.order.now) G from new.class.now

-- ---- one round more

module _ {paths : Paths} {old new : Classes} {groups₀ groups : Groups} {firsts links touched : List ℕ} {many from : ℕ} (R : Rounds paths old new groups₀ groups firsts links touched many from) where
  pub next-round : {new' : Classes} {groups' : Groups} {firsts' links' touched' : List ℕ} {m : ℕ} → from < many → stretches.SameLists new new' × chains.SameLists groups groups'
      → chains.RoomFor groups' (length new.order.now) → length firsts' ≡ length firsts → length links' ≡ length links → length touched' ≡ length touched
      → Standing_in new' (length new.order.now) m → Refined_in paths new new' from many × (many ≤ m)
      → Rounds paths old new' groups₀ groups' firsts' links' touched' m many
  next-round {new'} {m = m} l N X f k t S F = record {
    same-classes = same-lists-then R.same-classes N.0;
    same-groups = (N.1.0 ∙ R.same-groups.0, N.1.1 ∙ R.same-groups.1, N.1.2 ∙ R.same-groups.2);
    drawn = R.drawn;
    scratch = record {
      seen-long = X.seen-long ∙ R.standing.placed.order-long;
      prior-long = X.prior-long ∙ R.standing.placed.order-long;
      last-long = X.last-long ∙ R.standing.placed.order-long;
      firsts-long = f ∙ R.scratch.firsts-long;
      links-long = k ∙ R.scratch.links-long;
      touched-long = t ∙ R.scratch.touched-long;
    };
    standing = T;
    some = omega (arith, R.some, l);
    few = F.1;
    waiting = λ marks G M. refined paths.cells.now (length old.order.now) G R.some (R.waiting marks G M) T.stretches.class-long (rw R.standing.placed.order-long at F.0);
  }
    where
      T : Standing_in new' (length old.order.now) m
      T = rw R.standing.placed.order-long at S

  -- no class waits
  pub all_settled : many ≤ from → Settled_in paths old new (length old.order.now)
  all_settled l marks G M = settled paths.cells.now (length old.order.now) G (R.waiting marks G M)
      (λ i li. omega (arith, (of_row R.standing.placed R.standing.stretches i li).0)) (omega (arith, R.few, many-few R.standing.stretches))
