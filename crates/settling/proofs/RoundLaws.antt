-- What a round does, and what rounds lead to.
use mathlib.Core.Path.{◌≡◌, sym, ap, ◌∙◌, subst}
use mathlib.Core.Logic.{◌⊎◌, inl, inr, ⊎_elim}
use mathlib.Core.Bool.{true}
use mathlib.Core.List.{List}
use Prim.Native.Nat.{ℕ, ◌+◌, ◌*◌, ◌≤◌, ◌<◌}
use native.Mathlib.Decide.{dec_lt}
use native.Mathlib.Omega.{arith}
use lib.ListN.{length, get_or}
use Rattle.rules.specs.Sizes.{rows_most}
use Rattle.rules.specs.Grid.{Grid}
use Rattle.rules.proofs.Tests.{is_false}
use Rattle.sets.specs.Sets.{member}
use Rattle.grid.specs.Rows.{rows_of}
use Rattle.grid.proofs.GridLaws.{cell_in}
use Rattle.keys.specs.Keys.{key_on, Idle, KeysAlike}
use Rattle.keys.proofs.KeyLaws.{key-low, idle-alike, idle-like}
use Rattle.stretches.proofs.StretchLaws.{many-few, of_row, alone}
use Rattle.chains.specs.Chains.{Labelled}
use Rattle.chains.proofs.ChainLaws.{label-cases}
use Rattle.cutting.specs.Cutting.{Standing, CutTo}
use Rattle.cutting.proofs.CutLaws.{cut-whole}
use Rattle.leads.specs.Leads.{Leads, TouchedAll}
use Rattle.waiting.specs.Refined.{Refined}
use Rattle.waiting.proofs.WaitLaws.{Waiting, named-least}
use Rattle.round.specs.Groups.{Sorted, Ends, Touches}
use Rattle.settling.specs.Settling.{Drawn, Settled}

-- ---- one round

module _ {order place class start end : List ℕ} {n many : ℕ} (S : Standing order place class start end n many) where
  class-long : length class ≡ n
  class-long = S.stretches.class-long

  in-class : {i : ℕ} → i < length class → i < n
  in-class {i} l = subst (λ (x : ℕ). i < x) class-long l

  on-class : {i : ℕ} → i < n → i < length class
  on-class {i} l = subst (λ (x : ℕ). i < x) (sym class-long) l

  pub to-ends : Ends class start end
  to-ends = record {
    start-long = S.stretches.start-long ∙ sym class-long;
    end-long = S.stretches.end-long ∙ sym class-long;
    number = λ i l. omega (arith, (of_row S.placed S.stretches i (in-class l)).0, many-few S.stretches, class-long);
    order = λ i l. S.stretches.some (get_or class i 0) (of_row S.placed S.stretches i (in-class l)).0;
  }

  module _ {cells bytes preds : List ℕ} (touched : List ℕ) {from : ℕ} (D : Drawn cells bytes preds n) (T : TouchedAll order start end preds touched from many) where
    pub touches : Touches cells class touched from
    touches i l out b lb = go (dec_lt (get_or class (get_or cells (256 * i + b) 0) 0) from)
      where
        li : i < n
        li = in-class l

        column : (k : ℕ) × (k < length bytes) × ((q : ℕ) → q < n → get_or cells (256 * q + b) 0 ≡ get_or cells (256 * q + get_or bytes k 0) 0)
        column = D.columns.column b lb

        t : ℕ
        t = get_or cells (256 * i + b) 0

        lt : t < n
        lt = cell_in D.rows i b li lb

        led : Leads preds (get_or order (get_or place t 0) 0) i
        led = ap (λ (x : ℕ). member preds (rows_most * x + i)) (S.placed.there t lt ∙ column.2 i li) ∙ D.listed i li column.0 column.1

        go : Dec (get_or class t 0 < from) → key_on cells class from i b ≡ 0
        go (yes a) = key-low a
        go (no a) =
            let w = of_row S.placed S.stretches t lt in
            absurd (is_false true (sym (T (get_or class t 0) (omega (arith, a)) w.0 (get_or place t 0) i w.1 w.2 (omega (arith, S.placed.few)) led) ∙ out) tt)

  module _ {cells seen prior last : List ℕ} {from groups : ℕ} (B : Sorted cells class start end seen prior last from groups) where
    pub labelled : Labelled B.label class seen prior last n B.count groups
    labelled = subst (λ (x : ℕ). Labelled B.label class seen prior last x B.count groups) class-long B.labelled

  module _ {cells class' seen prior last : List ℕ} {from groups m : ℕ} (B : Sorted cells class start end seen prior last from groups) (C : CutTo B.label class class' n groups many m) where
    -- a row of no group that is not alone in its class is idle
    idle-or : (i j : ℕ) → i < n → j < n → get_or class i 0 ≡ get_or class j 0 → get_or B.label i 0 ≡ n → Idle cells class from i ⊎ (j ≡ i)
    idle-or i j li lj e q = ⊎_elim inl (λ s. inr (alone S.placed S.stretches i j li lj s (sym e))) (B.rest i (on-class li) (q ∙ sym class-long))

    together : (i j : ℕ) → i < n → j < n → get_or class' i 0 ≡ get_or class' j 0 → KeysAlike cells class from i j
    together i j li lj e = ⊎_elim grouped loose (label-cases (labelled B) i li)
      where
        one : get_or B.label i 0 ≡ get_or B.label j 0
        one = cut-whole (labelled B) C i j li lj e

        were : get_or class i 0 ≡ get_or class j 0
        were = C.finer i j li lj e

        grouped : get_or B.label i 0 < groups → KeysAlike cells class from i j
        grouped l = (B.same i j (on-class li) (on-class lj) l one).goes

        loose : get_or B.label i 0 ≡ n → KeysAlike cells class from i j
        loose q = ⊎_elim
            (λ x. ⊎_elim (λ y. idle-alike cells class from i j x y) (λ y b lb. ap (λ (z : ℕ). key_on cells class from z b) y) (idle-or j i lj li (sym were) (sym one ∙ q)))
            (λ x b lb. ap (λ (z : ℕ). key_on cells class from z b) (sym x))
            (idle-or i j li lj were q)

    -- a row of a group goes otherwise than one of none
    mixed-off : (i j : ℕ) → i < n → j < n → get_or class i 0 ≡ get_or class j 0 → KeysAlike cells class from i j → get_or B.label i 0 < groups → get_or B.label j 0 ≡ n
        → get_or B.label i 0 ≡ get_or B.label j 0
    mixed-off i j li lj e k l q = ⊎_elim
        (λ x. absurd (B.busy i (on-class li) l (idle-like cells class from j i (λ b lb. sym (k b lb)) x)))
        (λ x. ap (λ (z : ℕ). get_or B.label z 0) x)
        (idle-or j i lj li (sym e) q)

    kept : (i j : ℕ) → i < n → j < n → get_or class i 0 ≡ get_or class j 0 → KeysAlike cells class from i j → get_or class' i 0 ≡ get_or class' j 0
    kept i j li lj e k = C.fair i j li lj e (⊎_elim
        (λ x. ⊎_elim (λ y. B.differ i j (on-class li) (on-class lj) x y (record { together = e; goes = k })) (λ y. mixed-off i j li lj e k x y) (label-cases (labelled B) j lj))
        (λ x. ⊎_elim (λ y. sym (mixed-off j i lj li (sym e) (λ b lb. sym (k b lb)) y x)) (λ y. x ∙ sym y) (label-cases (labelled B) j lj))
        (label-cases (labelled B) i li))

    pub refined-cut : Refined cells class class' n from many
    refined-cut = record { finer = C.finer; keys = together; fair = kept; new = C.new }

-- ---- at first and at the end

module _ (cells : List ℕ) {marks : List ℕ} (n : ℕ) (G : Grid (rows_of cells n) marks) where
  pub settled : {class : List ℕ} {from : ℕ} → Waiting cells n G from class → ((i : ℕ) → i < n → get_or class i 0 < from) → from ≤ n → Settled cells marks class n
  settled {class} W low few = record {
    long = W.sound.long;
    low = λ i l. omega (arith, low i l);
    least = λ names long L. named-least cells n G W names long (λ i l. let m = L i l in (m.below, m.like, m.none)) low;
  }
