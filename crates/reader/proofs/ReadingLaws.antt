-- The answer that is due, and that it is the only one.
use mathlib.Core.Path.{◌≡◌, refl, sym, ap}
use mathlib.Core.List.{List, [], ◌∷◌}
use Prim.Native.Nat.{ℕ, ◌-◌, ◌≤◌, ◌<◌}
use native.Mathlib.Decide.{dec_lt}
use native.Mathlib.Omega.{arith}
use lib.ListN.{length}
use borrow.Author.Tests.{lt-ltb, le-ltb}
use Rattle.rules.specs.Sizes.{pattern_most}
use Rattle.rules.specs.Tree.{Tree}
use Rattle.rules.specs.Grammar.{Legal}
use Rattle.rules.specs.Turned.{Turned}
use Rattle.rules.specs.Reader.{Reading, got, bad, read}
use Rattle.rules.specs.Answers.{Refusal, refusal, Answer, refused, given, Due}
use Rattle.rules.specs.Compile.{TooLong, TurnedAway}
use Rattle.rules.proofs.ScanSound.{read-got}
use Rattle.rules.proofs.ReadOnce.{read-turned}
use Rattle.reader.specs.Reading.{answer}

module _ (p : List ℕ) where
  pub answer-long : pattern_most < length p → answer p ≡ refused (refusal 1 pattern_most)
  unfolding answer
  answer-long h = rw (lt-ltb pattern_most (length p) h)

  module _ (h : length p ≤ pattern_most) where
    pub answer-legal : {X : Tree} → Legal p X → answer p ≡ given X
    unfolding answer
    answer-legal {X} l = rw (le-ltb pattern_most (length p) h, (read-got p X).1 l)

    pub answer-turned : {n i : ℕ} → Turned p n i → answer p ≡ refused (refusal n i)
    unfolding answer
    answer-turned {n} {i} t = let x = (read-turned p n i).1 t in rw (le-ltb pattern_most (length p) h, x.1) (sym (ap at_place x.2))
      where
        at_place : ℕ → Answer Tree
        at_place k = refused (refusal n k)

  -- a refusal is given just when it is due; else the tree is the one that the pattern spells
  pub answer-due : Due (TooLong p ∷ TurnedAway p ∷ []) (Legal p) (answer p)
  answer-due = (
    λ r x. rw x.1 (answer-long x.0),
    λ short. let h : length p ≤ pattern_most = fits short in (
      λ r x. rw x.3 (answer-turned h x.2),
      λ sound. spelled h sound (read p) refl,
    ),
  )
    where
      fits : ((r : Refusal) → TooLong p r → ⊥) → length p ≤ pattern_most
      fits short = go (dec_lt pattern_most (length p))
        where
          go : Dec (pattern_most < length p) → length p ≤ pattern_most
          go (yes l) = absurd (short (refusal 1 pattern_most) (l, refl))
          go (no n) = omega arith

      spelled : length p ≤ pattern_most → ((r : Refusal) → TurnedAway p r → ⊥) → (a : Reading) → read p ≡ a → Due [] (Legal p) (answer p)
      spelled h sound (got X) e = let l = (read-got p X).0 e in rw (answer-legal h l) l
      spelled h sound (bad n s) e = absurd (sound (refusal n (length p - length s)) (n, length p - length s, (read-turned p n (length p - length s)).0 (s, e, refl), refl))
