-- What a reader leaves, where an atom is one operation, and where it passes a refusal on.
use mathlib.Core.Path.{◌≡◌, refl}
use mathlib.Core.List.{List}
use Prim.Native.Nat.{ℕ, ◌+◌, ◌*◌, ◌≤◌, ◌<◌}
use native.Mathlib.Omega.{arith}
use lib.ListN.{length, take}
use Rattle.std.specs.Prelude.{Result, Err}
use Rattle.std.specs.Result.{IsErrAnd}
use Rattle.std.proofs.lemmas.Result.{err_from_is_err_and}
use Rattle.rules.specs.Tree.{Tree}
use Rattle.kinds.specs.declared.Refusal.{Refusal}
use Rattle.kinds.specs.declared.Refusal.TheVariants.{FewPlaces}
use Rattle.kinds.specs.Refusals.{refusal_of}
use Rattle.rules.specs.Answers.{refusal}
use Rattle.program.specs.Program.{Program}
use Rattle.reader.specs.Says.{Says, atom, tree}
use Rattle.reader.specs.Told.{Done}

-- an atom of k words
pub atom_done : {p old new : List ℕ} {at d n next k : ℕ} {X : Tree} → Says atom p at d (tree X next)
    → Program new X n (n + k) → take n new ≡ take n old → 0 < k → k + 2 * at < 2 * next → next ≤ length p → Done atom p at d n old new next (n + k)
atom_done {X = X} s w k l i h =
    record { tree = X; says = s; wrote = w; kept = k; longer = omega arith; low = omega arith; high = h; room = omega arith }

-- a refusal that is passed on
pub passed : {T E : Type 0} {e : E} (r : Result T E) → IsErrAnd r (λ (y : E). y ≡ e) → r ≡ Err e
passed r h = let p = err_from_is_err_and r h in rw (p.1, p.2)

-- a refusal of reading is its number and its place
pub whole : (e : Refusal) → (refusal_of e).number ≤ 9 → refusal (refusal_of e).number (refusal_of e).place ≡ refusal_of e
whole (FewPlaces n) h = absurd (omega arith)
whole _ h = refl
