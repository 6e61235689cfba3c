-- Thompson's construction: the fragment of a tree is right for what the tree matches.
use mathlib.Core.Path.{◌≡◌, refl, subst}
use mathlib.Core.Logic.{◌↔◌}
use mathlib.Core.Bool.{true, false}
use mathlib.Core.List.{List, [], ◌∷◌, ◌++◌, append-nil}
use Prim.Native.Nat.{ℕ, zero, suc, ◌+◌, ◌-◌, ◌≤◌, min}
use native.Mathlib.Omega.{arith}
use native.Mathlib.Nat.{zero-add}
use Rattle.rules.specs.Tools.{copies}
use Rattle.rules.specs.Tree.{Repeat, star, plus, maybe, times, at_least, Tree, nothing, bytes, head, tail, in_row, either, repeated}
use Rattle.rules.specs.Meaning.{Allows, Cuts, Match}
use Rattle.rules.specs.Nodes.{empty, on_head, on_tail, on_bytes, Frag, starred, skippable, all_joined, repeatedly, frag}
use Rattle.rules.proofs.Walks.{Rel, Right, one_right, Then, joined-right, forked-right, Counted, around-right}

-- what is right for P is right for what has the same stretches
same-right : {t : List ℕ} {F : Frag} {P Q : Rel} → ((s e : ℕ) → P s e ↔ Q s e) → Right t F P → Right t F Q
same-right same r = record {
  inner = r.inner;
  sound = λ b {v} {s} {e} end w. (same s e).0 (r.sound b end w);
  complete = λ b {v} {s} {e} end q. r.complete b end ((same s e).1 q);
}

-- ---- counts

-- the sums of a count of A and a count of B
abbrev Sums : (ℕ → Type 0) → (ℕ → Type 0) → ℕ → Type 0
Sums A B k = (i : ℕ) × (j : ℕ) × A i × B j × (i + j ≡ k)

module _ (P : Rel) where
  cuts-join : (i j k s m e : ℕ) → i + j ≡ k → Cuts P i s m → Cuts P j m e → Cuts P k s e
  cuts-join zero j k s m e q c d = rw (c, ← q, zero-add) d
  cuts-join (suc i) j zero s m e q c d = absurd (omega arith)
  cuts-join (suc i) j (suc k) s m e q c d = (c.0, c.1, cuts-join i j k c.0 m e (omega arith) c.2 d)

  cuts-part : (i j k s e : ℕ) → i + j ≡ k → Cuts P k s e → Then (Cuts P i) (Cuts P j) s e
  cuts-part zero j k s e q c = (s, refl, rw (← q, zero-add) at c)
  cuts-part (suc i) j zero s e q c = absurd (omega arith)
  cuts-part (suc i) j (suc k) s e q c = let (m, front, back) = cuts-part i j k c.0 e (omega arith) c.2 in (m, (c.0, c.1, front), back)

  -- so many parts and then so many are their sum
  then-counted : (A B : ℕ → Type 0) (s e : ℕ) → Then (Counted A P) (Counted B P) s e ↔ Counted (Sums A B) P s e
  then-counted A B s e = (joins, parts)
    where
      joins : Then (Counted A P) (Counted B P) s e → Counted (Sums A B) P s e
      joins h = let (m, (i, a, c), (j, b, d)) = h in (i + j, (i, j, a, b, refl), cuts-join i j (i + j) s m e refl c d)

      parts : Counted (Sums A B) P s e → Then (Counted A P) (Counted B P) s e
      parts h = let (k, (i, j, a, b, q), c) = h in let (m, front, back) = cuts-part i j k s e q c in (m, (i, a, front), (j, b, back))

-- ---- fragments in a row

module _ {t : List ℕ} where
  -- one fragment more in front; where there was none, the row so far is an empty branch
  more-right : {F : Frag} {P R : Rel} (Fs : List Frag) → Right t F P → Right t (all_joined Fs) R → Right t (all_joined (F ∷ Fs)) (Then P R)
  more-right {P = P} [] f r = same-right (λ s e. (
    (λ p. (e, p, r.sound 0 refl ((one_right t empty).complete 0 refl refl))),
    λ h. subst (λ (x : ℕ). P s x) ((one_right t empty).sound 0 refl (r.complete 0 refl h.2)) h.1,
  )) f
  more-right (G ∷ Fs) f r = joined-right f r

  -- what is counted alike
  count-right : {F : Frag} {P : Rel} {A B : ℕ → Type 0} → ((k : ℕ) → A k ↔ B k) → Right t F (Counted A P) → Right t F (Counted B P)
  count-right same = same-right (λ s e. ((λ h. (h.0, (same h.0).0 h.1, h.2)), λ h. (h.0, (same h.0).1 h.1, h.2)))

  -- none of them
  none : (P : Rel) → Right t (all_joined []) (Counted (λ k. k ≤ 0) P)
  none P = same-right (λ s e. ((λ q. (0, omega arith, q)), λ h. no_part s e h.0 h.1 h.2)) (one_right t empty)
    where
      no_part : (s e k : ℕ) → k ≤ 0 → Cuts P k s e → s ≡ e
      no_part s e zero l c = c
      no_part s e (suc k) l c = absurd (omega arith)

  -- n copies in front, where a copy adds a count of A
  copies-right : {F : Frag} {P : Rel} (A : ℕ → Type 0) (C : ℕ → ℕ → Type 0) → ((n k : ℕ) → Sums A (C n) k ↔ C (suc n) k)
      → Right t F (Counted A P) → (Fs : List Frag) → Right t (all_joined Fs) (Counted (C 0) P)
      → (n : ℕ) → Right t (all_joined (copies n F ++ Fs)) (Counted (C n) P)
  copies-right A C adds f Fs r zero = r
  copies-right {F} {P} A C adds f Fs r (suc n) =
      count-right (adds n) (same-right (then-counted P A (C n)) (more-right (copies n F ++ Fs) f (copies-right A C adds f Fs r n)))

-- ---- repeats

module _ {t : List ℕ} {F : Frag} {P : Rel} (f : Right t F P) where
  once : Right t F (Counted (λ k. k ≡ 1) P)
  once = same-right (λ s e. ((λ p. (1, refl, (e, p, refl))), λ h. one-part s e (rw h.1 at h.2))) f
    where
      one-part : (s e : ℕ) → Cuts P 1 s e → P s e
      one-part s e c = subst (λ (x : ℕ). P s x) c.2 c.1

  any-times : Right t (starred F) (Counted (λ k. 0 ≤ k) P)
  any-times = count-right (λ k. ((λ h. omega arith), λ h. ((λ n. absurd n), λ n. absurd n))) (around-right f true true)

  at-most-once : Right t (skippable F) (Counted (λ k. k ≤ 1) P)
  at-most-once = count-right (λ k. ((λ h. h.1 tt), λ h. ((λ n. absurd n), λ n. h))) (around-right f true false)

  at_most : (d : ℕ) → Right t (all_joined (copies d (skippable F))) (Counted (λ k. k ≤ d) P)
  at_most d = rw append-nil at (copies-right (λ k. k ≤ 1) (λ n k. k ≤ n)
      (λ n k. ((λ h. omega arith), λ h. (min k 1, k - min k 1, omega arith, omega arith, omega arith))) at-most-once [] (none P) d)

  repeats : (r : Repeat) → Right t (repeatedly r F) (Counted (Allows r) P)
  repeats star = any-times
  repeats plus = count-right (λ k. ((λ h. h.0 tt), λ h. ((λ n. h), λ n. absurd n))) (around-right f false true)
  repeats maybe = at-most-once
  repeats (times m d) = copies-right (λ k. k ≡ 1) (λ n k. (n ≤ k) × (k ≤ n + d))
      (λ n k. ((λ h. omega arith), λ h. (1, k - 1, refl, omega arith, omega arith))) once (copies d (skippable F)) (count-right (λ k. omega arith) (at_most d)) m
  repeats (at_least m) = copies-right (λ k. k ≡ 1) (λ n k. n ≤ k)
      (λ n k. ((λ h. omega arith), λ h. (1, k - 1, refl, omega arith, omega arith))) once (starred F ∷ []) any-times m

-- ---- every tree

pub thompson : (t : List ℕ) (X : Tree) → Right t (frag X) (Match t X)
thompson t nothing = one_right t empty
thompson t (bytes B) = one_right t (on_bytes B)
thompson t head = one_right t on_head
thompson t tail = one_right t on_tail
thompson t (in_row X Y) = joined-right (thompson t X) (thompson t Y)
thompson t (either X Y) = forked-right (thompson t X) (thompson t Y)
thompson t (repeated r X) = repeats (thompson t X) r
