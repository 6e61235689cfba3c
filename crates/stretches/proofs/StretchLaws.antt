-- Classes as stretches: all rows as one, how many there can be, which rows a class has, and that rows of one class may change places.
use mathlib.Core.Path.{◌≡◌, sym, ap, ◌∙◌, subst}
use mathlib.Core.Logic.{◌≢◌}
use mathlib.Core.List.{List}
use Prim.Native.Nat.{ℕ, ◌+◌, ◌-◌, ◌≤◌, ◌<◌}
use native.Mathlib.Omega.{arith}
use lib.ListN.{length, get_or}
use Rattle.rules.specs.Sizes.{rows_most}
use Rattle.rules.proofs.Pigeon.{pigeon, pigeon-but}
use Rattle.stretches.specs.Stretches.{Placed, Once, Stretches, Inside, Within}

-- ---- how many classes there can be

module _ {order class start end : List ℕ} {n many : ℕ} (S : Stretches order class start end n many) where
  at-start : (c : ℕ) → c < many → get_or class (get_or order (get_or start c 0) 0) 0 ≡ c
  at-start c l = S.own c (get_or start c 0) l (omega arith) (S.some c l)

  start-in : (c : ℕ) → c < many → get_or start c 0 < n
  start-in c l = omega (arith, S.some c l, S.inside c l)

  starts_apart : (c d : ℕ) → c < many → d < many → get_or start c 0 ≡ get_or start d 0 → c ≡ d
  starts_apart c d lc ld e = sym (at-start c lc) ∙ ap (λ (x : ℕ). get_or class (get_or order x 0) 0) e ∙ at-start d ld

  pub many-few : many ≤ n
  many-few = pigeon many n (λ c. get_or start c 0) start-in starts_apart

  -- a class of two rows or more leaves room for one class more
  pub room : {c at : ℕ} → Within start end c at many → many < n
  room {c} {at} W = last (pigeon-but many (n - 1) (λ i. get_or start i 0) (get_or end c 0 - 1) (omega (arith, S.inside c W.number)) apart (λ i l. omega (arith, start-in i l)) starts_apart)
    where
      last : many ≤ n - 1 → many < n
      last h = omega (arith, start-in c W.number)

      apart : (i : ℕ) → i < many → get_or start i 0 ≢ get_or end c 0 - 1
      apart i l e = omega (arith, ap (λ (x : ℕ). get_or start x 0) same, W.from, W.to)
        where
          same : i ≡ c
          same = sym (at-start i l) ∙ ap (λ (x : ℕ). get_or class (get_or order x 0) 0) e ∙ S.own c (get_or end c 0 - 1) W.number (omega (arith, W.from, W.to)) (omega (arith, W.from))

  pub within : {c at : ℕ} → Inside start end c at many → at ≢ get_or start c 0 → at ≢ get_or end c 0 → Within start end c at many
  within I a b = record { number = I.number; from = omega (arith, I.from); to = omega (arith, I.to) }

  -- the lists have a place for the new number and for c, and places fit
  pub fits : {c at : ℕ} → Within start end c at many → (many < n) × (n ≤ rows_most) × (length start ≡ n) × (length end ≡ n) × (get_or end c 0 ≤ n)
  fits {c} W = (room W, S.few, S.start-long, S.end-long, S.inside c W.number)

  pub once-of : Once order class
  once-of = record {
    few = omega (arith, S.few, S.order-long);
    class-long = S.class-long ∙ sym S.order-long;
    row = λ p l. omega (arith, S.row p (omega (arith, S.order-long)), S.order-long);
    once = λ p q lp lq e. S.once p q (omega (arith, S.order-long)) (omega (arith, S.order-long)) e;
  }

-- ---- the rows of a class

module _ {order place class start end : List ℕ} {n many : ℕ} (P : Placed order place n) (S : Stretches order class start end n many) where
  -- a row stands in its class's stretch
  pub of_row : (r : ℕ) → r < n → (get_or class r 0 < many) × (get_or start (get_or class r 0) 0 ≤ get_or place r 0) × (get_or place r 0 < get_or end (get_or class r 0) 0)
  of_row r l = subst (λ (x : ℕ). (get_or class x 0 < many) × (get_or start (get_or class x 0) 0 ≤ get_or place r 0) × (get_or place r 0 < get_or end (get_or class x 0) 0)) (P.there r l)
      (S.numbered (get_or place r 0) (P.inside r l), S.from (get_or place r 0) (P.inside r l), S.to (get_or place r 0) (P.inside r l))

  -- a row is the only one of its class where the stretch has one place
  pub alone : (r j : ℕ) → r < n → j < n → get_or end (get_or class r 0) 0 ≡ get_or start (get_or class r 0) 0 + 1 → get_or class j 0 ≡ get_or class r 0 → j ≡ r
  alone r j lr lj one e = sym (P.there j lj) ∙ ap (λ (x : ℕ). get_or order x 0) same ∙ P.there r lr
    where
      J : (get_or start (get_or class r 0) 0 ≤ get_or place j 0) × (get_or place j 0 < get_or end (get_or class r 0) 0)
      J = subst (λ (c : ℕ). (get_or start c 0 ≤ get_or place j 0) × (get_or place j 0 < get_or end c 0)) e ((of_row j lj).1, (of_row j lj).2)

      same : get_or place j 0 ≡ get_or place r 0
      same = omega (arith, J.0, J.1, (of_row r lr).1, (of_row r lr).2)
