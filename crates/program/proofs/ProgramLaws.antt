-- A class that is written, and the bytes of an atom.
use mathlib.Core.Path.{◌≡◌, refl, ap, ◌∙◌}
use mathlib.Core.List.{List, [], ◌∷◌, ◌++◌}
use Prim.Native.Nat.{ℕ, ◌+◌, ◌-◌, ◌≤◌}
use native.Mathlib.Omega.{arith}
use lib.ListN.{length, get_or, take}
use borrow.Rule.Slice.PartMut.{put_mid, post_of}
use Rattle.std.proofs.lemmas.List.{get_or-append_right, length-take-le}
use Rattle.std.proofs.lemmas.Slice.{take-put_mid_below}
use Rattle.bytesets.specs.ByteSets.{joined}
use Rattle.program.specs.Program.{operation_of, operation_at, bytes_of, atom_bytes, PutsClass}
use Rattle.program.specs.declared.Op.{Op}
use Rattle.program.specs.declared.Op.TheVariants.{Class}

-- the words of a class from n on
pub class_there : (old : List ℕ) (n k a b c d w : ℕ) {new : List ℕ} → n ≤ length old → new ≡ a ∷ b ∷ c ∷ d ∷ w ∷ [] → operation_of w ≡ Class → PutsClass old (put_mid n k old new) n (joined a b c d)
class_there old n k a b c d w h e o = rw e record {
  is = ap operation_of (at 4 (n + 4) refl) ∙ o;
  bytes = rw (at 0 n (omega arith), at 1 (1 + n) (omega arith), at 2 (2 + n) (omega arith), at 3 (3 + n) (omega arith));
  kept = take-put_mid_below n k old words n (omega arith) h;
}
  where
    words : List ℕ
    words = a ∷ b ∷ c ∷ d ∷ w ∷ []

    at : (j i : ℕ) → i ≡ n + j → get_or (put_mid n k old words) i 0 ≡ get_or (words ++ post_of n k old) j 0
    at j i q = let z : i - n ≡ j = omega arith in
        get_or-append_right (take n old) (words ++ post_of n k old) n i 0 (length-take-le n old h) (omega arith) ∙ ap (λ (m : ℕ). get_or (words ++ post_of n k old) m 0) z

-- ---- the bytes of an atom

pub bytes-at : (p : List ℕ) (i : ℕ) {o : Op} → operation_at p i ≡ o → atom_bytes p i ≡ bytes_of p i o
unfolding atom_bytes
bytes-at p i e = ap (λ (o : Op). bytes_of p i o) e
