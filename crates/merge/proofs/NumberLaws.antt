-- Kept rows: how many come before a row, the numbers that they take, and where they go.
use mathlib.Core.Path.{◌≡◌, refl, sym, ap, ◌∙◌, subst}
use mathlib.Core.Logic.{⊎_elim, ◌≢◌}
use mathlib.Core.Bool.{Bool, true, false}
use mathlib.Core.List.{List, [], ◌∷◌, ◌++◌}
use Prim.Native.Nat.{ℕ, zero, suc, ◌+◌, ◌*◌, ◌≤◌, ◌<◌}
use native.Mathlib.Nat.{eq-or-lt_of_le, le_of_suc-le-suc}
use native.Mathlib.Numerals.{add-one}
use native.Mathlib.Omega.{arith}
use borrow.Author.Count.{below_more}
use borrow.Author.Tests.{eq-eqb, ne_eqb}
use lib.ListN.{length, get_or, set, length-set, length-append, get_or-append}
use lib.Seq.{get_or-set_same, get_or-set_other, get_or_at}
use Rattle.rules.specs.Tools.{up_from, kept}
use Rattle.grid.specs.Rows.{Names}
use Rattle.grid.proofs.ListLaws.{set_next}
use Rattle.merge.specs.Numbers.{is_kept, rank, Moved}

-- ---- counting

abbrev one : ℕ → Bool → List ℕ
one q true = q ∷ []
one q false = []

-- one number more
kept_more : (f : ℕ → Bool) (q : ℕ) → kept f (up_from 0 (suc q)) ≡ kept f (up_from 0 q) ++ one q (f q)
kept_more f q = from 0 q ∙ ap (λ (x : ℕ). kept f (up_from 0 q) ++ one x (f x)) plain
  where
    plain : 0 + q ≡ q
    plain = omega arith

    from : (m c : ℕ) → kept f (up_from m (suc c)) ≡ kept f (up_from m c) ++ one (m + c) (f (m + c))
    from m zero = go (f m) refl ∙ ap (λ (x : ℕ). one x (f x)) same
      where
        same : m ≡ m + 0
        same = omega arith

        go : (b : Bool) → f m ≡ b → elim b [ true ↦ m ∷ [] | false ↦ [] ] ≡ one m b
        go true e = refl
        go false e = refl
    from m (suc c) = go (f m) (from (suc m) c ∙ ap (λ (x : ℕ). kept f (up_from (suc m) c) ++ one x (f x)) shift)
      where
        shift : suc m + c ≡ m + suc c
        shift = omega arith

        go : (b : Bool) → kept f (up_from (suc m) (suc c)) ≡ kept f (up_from (suc m) c) ++ one (m + suc c) (f (m + suc c))
            → elim b [ true ↦ m ∷ kept f (up_from (suc m) (suc c)) | false ↦ kept f (up_from (suc m) (suc c)) ]
            ≡ elim b [ true ↦ m ∷ kept f (up_from (suc m) c) | false ↦ kept f (up_from (suc m) c) ] ++ one (m + suc c) (f (m + suc c))
        go true e = ap (λ (l : List ℕ). m ∷ l) e
        go false e = e

module _ (class : List ℕ) where
  rank-suc : (q : ℕ) → rank class (suc q) ≡ rank class q + length (one q (is_kept class q))
  unfolding rank
  rank-suc q = ap length (kept_more (is_kept class) q) ∙ length-append (kept (is_kept class) (up_from 0 q)) (one q (is_kept class q))

  pub rank-more : (q : ℕ) → get_or class q 0 ≡ q → rank class (q + 1) ≡ rank class q + 1
  rank-more q e = ap (rank class) (add-one q) ∙ rank-suc q ∙ ap (λ (b : Bool). rank class q + length (one q b)) (eq-eqb (get_or class q 0) q e)

  pub rank_same : (q : ℕ) → get_or class q 0 ≢ q → rank class (q + 1) ≡ rank class q
  rank_same q n = ap (rank class) (add-one q) ∙ rank-suc q ∙ ap (λ (b : Bool). rank class q + length (one q b)) (ne_eqb (get_or class q 0) q n) ∙ plain
    where
      plain : rank class q + 0 ≡ rank class q
      plain = omega arith

  few : (q : ℕ) (b : Bool) → length (one q b) ≤ 1
  few q true = omega arith
  few q false = omega arith

  pub rank-zero : rank class 0 ≡ 0
  unfolding rank
  rank-zero = refl

  pub rank-le : (q : ℕ) → rank class q ≤ q
  rank-le zero = omega (arith, rank-zero)
  rank-le (suc q) = omega (arith, rank-suc q, rank-le q, few q (is_kept class q))

  rank_up : (p q : ℕ) → p ≤ q → rank class p ≤ rank class q
  rank_up p zero l = subst (λ (x : ℕ). rank class x ≤ rank class 0) zero_is (omega arith)
    where
      zero_is : 0 ≡ p
      zero_is = omega arith
  rank_up p (suc q) l = ⊎_elim
      (λ (e : p ≡ suc q). subst (λ (x : ℕ). rank class x ≤ rank class (suc q)) (sym e) (omega arith))
      (λ (k : p < suc q). omega (arith, rank-suc q, rank_up p q (omega arith)))
      (eq-or-lt_of_le l)

  -- a kept row's number is below those of later rows
  pub rank_below : (p q : ℕ) → get_or class p 0 ≡ p → p < q → rank class p < rank class q
  rank_below p q e l = omega (arith, rank-more p e, rank_up (p + 1) q (omega arith))

  -- and is its place among the kept rows
  pub rank-place : (n q : ℕ) → q < n → get_or class q 0 ≡ q → get_or (kept (is_kept class) (up_from 0 n)) (rank class q) 0 ≡ q
  unfolding rank
  rank-place zero q l e = absurd (omega (arith, l))
  rank-place (suc n) q l e = ap (λ (x : List ℕ). get_or x (rank class q) 0) (kept_more (is_kept class) n) ∙ ⊎_elim
      (λ (p : q ≡ n). last p)
      (λ (k : q < n). get_or-append (kept (is_kept class) (up_from 0 n)) (one n (is_kept class n)) 0 (rank class q) (rank_below q n e k) ∙ rank-place n q k e)
      (eq-or-lt_of_le (le_of_suc-le-suc l))
    where
      last : q ≡ n → get_or (kept (is_kept class) (up_from 0 n) ++ one n (is_kept class n)) (rank class q) 0 ≡ q
      last p = subst (λ (b : Bool). get_or (kept (is_kept class) (up_from 0 n) ++ one n b) (rank class q) 0 ≡ q)
          (sym (eq-eqb (get_or class n 0) n (subst (λ (x : ℕ). get_or class x 0 ≡ x) p e)))
          (get_or_at (kept (is_kept class) (up_from 0 n)) n [] 0 (rank class q) (ap (rank class) (sym p)) ∙ sym p)

-- ---- numbers, row by row

-- the rows before row q have their numbers, and k rows of them are kept
pub record Counting (class number : List ℕ) (k q : ℕ) : Type 0 where
  pub long : length number ≡ length class
  pub passed : q ≤ length class
  pub count : k ≡ rank class q
  pub numbers : (j : ℕ) → j < q → get_or number j 0 ≡ rank class (get_or class j 0)

pub counting-none : (class number : List ℕ) → length number ≡ length class → Counting class number 0 0
counting-none class number e = record { long = e; passed = omega arith; count = sym (rank-zero class); numbers = λ j l. absurd (omega arith) }

module _ {class number : List ℕ} {k q : ℕ} (C : Counting class number k q) (l : q < length class) where
  pub few-kept : k ≤ q
  few-kept = omega (arith, C.count, rank-le class q)

  numbered : {k' v : ℕ} → k' ≡ rank class (q + 1) → v ≡ rank class (get_or class q 0) → Counting class (set number q v) k' (q + 1)
  numbered {k'} {v} e f = record {
    long = length-set number q v ∙ C.long;
    passed = omega arith;
    count = e;
    numbers = set_next (λ j x. x ≡ rank class (get_or class j 0)) number q v (omega (arith, C.long)) C.numbers f;
  }

  pub counting_kept : get_or class q 0 ≡ q → Counting class (set number q k) (k + 1) (q + 1)
  counting_kept e = numbered (omega (arith, C.count, rank-more class q e)) (C.count ∙ ap (rank class) (sym e))

  -- a row that is not kept has the number of its class's least row
  pub counting-led : Names class → get_or class q 0 ≢ q → Counting class (set number q (get_or number (get_or class q 0) 0)) k (q + 1)
  counting-led N n = numbered (C.count ∙ sym (rank_same class q n)) (C.numbers (get_or class q 0) (omega (arith, N.low q l)) ∙ ap (rank class) (N.named q l))

-- ---- the kept rows moved down, row by row

-- the kept ones of the rows before row q stand at their numbers, and k rows of them are kept; later rows are as they were
pub record Down (cells₀ marks₀ class number cells marks : List ℕ) (k q : ℕ) : Type 0 where
  pub cells-long : length cells ≡ length cells₀
  pub marks-long : length marks ≡ length marks₀
  pub passed : q ≤ length class
  pub count : k ≡ rank class q
  pub rows-down : (b : ℕ) → b < 256 → (p : ℕ) → p < q → get_or class p 0 ≡ p → get_or cells (256 * rank class p + b) 0 ≡ get_or number (get_or cells₀ (256 * p + b) 0) 0
  pub marks-down : (p : ℕ) → p < q → get_or class p 0 ≡ p → get_or marks (rank class p) 0 ≡ get_or marks₀ p 0
  pub cells_rest : (j : ℕ) → 256 * q ≤ j → get_or cells j 0 ≡ get_or cells₀ j 0
  pub marks-rest : (j : ℕ) → q ≤ j → get_or marks j 0 ≡ get_or marks₀ j 0

pub down-none : (cells marks class number : List ℕ) → Down cells marks class number cells marks 0 0
down-none cells marks class number = record {
  cells-long = refl;
  marks-long = refl;
  passed = omega arith;
  count = sym (rank-zero class);
  rows-down = λ b lb p l. absurd (omega arith);
  marks-down = λ p l. absurd (omega arith);
  cells_rest = λ j l. refl;
  marks-rest = λ j l. refl;
}

module _ {cells₀ marks₀ class number cells marks : List ℕ} {k q : ℕ} (D : Down cells₀ marks₀ class number cells marks k q) (l : q < length class) where
  pub count-le : k ≤ q
  count-le = omega (arith, D.count, rank-le class q)

  -- a row that is not kept is passed over
  pub down-skip : get_or class q 0 ≢ q → Down cells₀ marks₀ class number cells marks k (q + 1)
  down-skip n = record {
    cells-long = D.cells-long;
    marks-long = D.marks-long;
    passed = omega arith;
    count = D.count ∙ sym (rank_same class q n);
    rows-down = λ b lb. below_more (λ p. get_or class p 0 ≡ p → get_or cells (256 * rank class p + b) 0 ≡ get_or number (get_or cells₀ (256 * p + b) 0) 0) q (D.rows-down b lb) (λ e. absurd (n e));
    marks-down = below_more (λ p. get_or class p 0 ≡ p → get_or marks (rank class p) 0 ≡ get_or marks₀ p 0) q D.marks-down (λ e. absurd (n e));
    cells_rest = λ j lj. D.cells_rest j (omega arith);
    marks-rest = λ j lj. D.marks-rest j (omega arith);
  }

  pub down-move : {cells' : List ℕ} → get_or class q 0 ≡ q → q < length marks → Moved cells number cells' k q 256
      → Down cells₀ marks₀ class number cells' (set marks k (get_or marks q 0)) (k + 1) (q + 1)
  down-move {cells'} e room M = record {
    cells-long = M.long ∙ D.cells-long;
    marks-long = length-set marks k (get_or marks q 0) ∙ D.marks-long;
    passed = omega arith;
    count = omega (arith, D.count, rank-more class q e);
    rows-down = λ b lb. below_more (λ p. get_or class p 0 ≡ p → get_or cells' (256 * rank class p + b) 0 ≡ get_or number (get_or cells₀ (256 * p + b) 0) 0) q
        (λ p lp f. M.below (256 * rank class p + b) (omega (arith, D.count, rank_below class p q f lp)) ∙ D.rows-down b lb p lp f)
        (λ f. ap (λ (x : ℕ). get_or cells' (256 * x + b) 0) (sym D.count) ∙ M.moved b lb ∙ ap (λ (x : ℕ). get_or number x 0) (D.cells_rest (256 * q + b) (omega arith)));
    marks-down = below_more (λ p. get_or class p 0 ≡ p → get_or (set marks k (get_or marks q 0)) (rank class p) 0 ≡ get_or marks₀ p 0) q
        (λ p lp f. get_or-set_other marks k (rank class p) (get_or marks q 0) 0 (omega (arith, D.count, rank_below class p q f lp)) ∙ D.marks-down p lp f)
        (λ f. ap (λ (x : ℕ). get_or (set marks k (get_or marks q 0)) x 0) (sym D.count) ∙ get_or-set_same marks k (get_or marks q 0) 0 (omega (arith, count-le)) ∙ D.marks-rest q (omega arith));
    cells_rest = λ j lj. M.above j (omega (arith, count-le)) ∙ D.cells_rest j (omega arith);
    marks-rest = λ j lj. get_or-set_other marks k j (get_or marks q 0) 0 (omega (arith, count-le)) ∙ D.marks-rest j (omega arith);
  }
