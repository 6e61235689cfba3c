-- Classes cut by one group after the other.
use mathlib.Core.Path.{◌≡◌, sym, ◌∙◌}
use mathlib.Core.Logic.{inl, inr, ⊎_elim}
use mathlib.Core.List.{List}
use Prim.Native.Nat.{ℕ, ◌+◌, ◌-◌, ◌≤◌, ◌<◌}
use native.Mathlib.Decide.{ℕ_discrete, dec_lt}
use native.Mathlib.Omega.{arith}
use borrow.Author.Tests.{ltb-false, lt-ltb, le-ltb}
use lib.Dec.{ltb}
use lib.ListN.{length, get_or}
use Rattle.chains.specs.Chains.{Labelled}
use Rattle.chains.specs.Lent.{Labelled_in, Grouped_in}
use Rattle.chains.specs.declared.Groups.{Groups}
use Rattle.chains.proofs.ChainLaws.{label-cases}
use Rattle.stretches.specs.Stretches.{Placed, Stretches, Inside, CutAt}
use Rattle.stretches.specs.Lent.{SameLists, CutAt_in}
use Rattle.stretches.specs.declared.Classes.{Classes}
use Rattle.stretches.proofs.LentLaws.{same-lists-then}
use Rattle.cutting.specs.Cutting.{CutOff, CutTo, Standing}
use Rattle.cutting.specs.Lent.{Standing_in, CutOff_in}
use Rattle.cutting.proofs.MoveLaws.{Moving, moved_in, moved_out, Carried}

-- ---- one group

-- places of one class that a place of another class's stretch does not part
module _ {order class start end : List ℕ} {n many c at : ℕ} (S : Stretches order class start end n many) (I : Inside start end c at many) where
  not-between : (p q : ℕ) → p < n → q < n → get_or class (get_or order p 0) 0 ≡ get_or class (get_or order q 0) 0 → p < at → at ≤ q → get_or class (get_or order p 0) 0 ≡ c
  not-between p q lp lq e a b = go (dec_lt at (get_or end c 0))
    where
      d : ℕ
      d = get_or class (get_or order p 0) 0

      d-to : q < get_or end d 0
      d-to = rw (sym e) at (S.to q lq)

      go : Dec (at < get_or end c 0) → d ≡ c
      go (yes l) = sym (S.own d at (S.numbered p lp) (omega (arith, S.from p lp)) (omega (arith, d-to))) ∙ S.own c at I.number I.from l
      go (no l) = sym (S.own d (at - 1) (S.numbered p lp) (omega (arith, S.from p lp)) (omega (arith, d-to)))
          ∙ S.own c (at - 1) I.number (omega (arith, S.some c I.number, I.to)) (omega (arith, I.to))

module _ {label class seen prior last : List ℕ} {n count groups : ℕ} (L : Labelled label class seen prior last n count groups) {g : ℕ} (g-in : g < groups)
    {order place start end : List ℕ} {many : ℕ} (S : Standing order place class start end n many) {c x at : ℕ}
    (M : Moving label class seen place start end n count many g c x at) (end-of-chain : x ≡ 0) where
  cut_off : {class' : List ℕ} {many' : ℕ} → CutAt order class class' n c at many many' → CutOff label class class' n g many many'
  cut_off {class'} {many'} C = record {
    finer = finer;
    parted = λ i j li lj e h. moved_out L g-in S M end-of-chain j lj (sym (finer i j li lj e) ∙ M.own i li h) (behind i j li lj e h);
    fair = λ i j li lj e h. from_places class' i j li lj (C.fair (get_or place i 0) (get_or place j 0) (P.inside i li) (P.inside j lj) (at_places class i j li lj e) (one_side i j li lj e h));
    new = λ i l. rw (P.there i l) at (C.new (get_or place i 0) (P.inside i l));
    more = C.more;
  }
    where
      P : Placed order place n
      P = S.placed

      -- classes of rows as classes at their places
      at_places : (cs : List ℕ) (i j : ℕ) → i < n → j < n → get_or cs i 0 ≡ get_or cs j 0 → get_or cs (get_or order (get_or place i 0) 0) 0 ≡ get_or cs (get_or order (get_or place j 0) 0) 0
      at_places cs i j li lj e = rw (P.there i li, P.there j lj) e

      from_places : (cs : List ℕ) (i j : ℕ) → i < n → j < n → get_or cs (get_or order (get_or place i 0) 0) 0 ≡ get_or cs (get_or order (get_or place j 0) 0) 0 → get_or cs i 0 ≡ get_or cs j 0
      from_places cs i j li lj e = rw (P.there i li, P.there j lj) at e

      finer : (i j : ℕ) → i < n → j < n → get_or class' i 0 ≡ get_or class' j 0 → get_or class i 0 ≡ get_or class j 0
      finer i j li lj e = from_places class i j li lj (C.finer (get_or place i 0) (get_or place j 0) (P.inside i li) (P.inside j lj) (at_places class' i j li lj e))

      behind : (i j : ℕ) → i < n → j < n → get_or class' i 0 ≡ get_or class' j 0 → get_or label i 0 ≡ g → at ≤ get_or place j 0
      behind i j li lj e h = let side = C.parted (get_or place i 0) (get_or place j 0) (P.inside i li) (P.inside j lj) (at_places class' i j li lj e) (rw (P.there i li) (M.own i li h)) in
          ltb-false (get_or place j 0) at (sym side ∙ le-ltb (get_or place i 0) at (moved_in L g-in S M end-of-chain i li h))

      -- no row before `at` and one from there on are of one class and have one label: the class would be c, and the second of group g
      not-parted : (i j : ℕ) → i < n → j < n → get_or class i 0 ≡ get_or class j 0 → get_or label i 0 ≡ get_or label j 0 → get_or place i 0 < at → at ≤ get_or place j 0 → ⊥
      not-parted i j li lj e h a b =
          let one = not-between S.stretches M.inside (get_or place i 0) (get_or place j 0) (P.inside i li) (P.inside j lj) (at_places class i j li lj e) a b in
          let of_c : get_or class i 0 ≡ c = rw (P.there i li) at one in
          omega (arith, moved_in L g-in S M end-of-chain i li (h ∙ moved_out L g-in S M end-of-chain j lj (sym e ∙ of_c) b))

      one_side : (i j : ℕ) → i < n → j < n → get_or class i 0 ≡ get_or class j 0 → get_or label i 0 ≡ get_or label j 0 → ltb (get_or place i 0) at ≡ ltb (get_or place j 0) at
      one_side i j li lj e h = go (dec_lt (get_or place i 0) at) (dec_lt (get_or place j 0) at)
        where
          go : Dec (get_or place i 0 < at) → Dec (get_or place j 0 < at) → ltb (get_or place i 0) at ≡ ltb (get_or place j 0) at
          go (yes a) (yes b) = lt-ltb _ _ a ∙ sym (lt-ltb _ _ b)
          go (yes a) (no b) = absurd (not-parted i j li lj e h a (omega arith))
          go (no a) (yes b) = absurd (not-parted j i lj li (sym e) (sym h) b (omega arith))
          go (no a) (no b) = le-ltb (get_or place i 0) at (omega arith) ∙ sym (le-ltb (get_or place j 0) at (omega arith))

-- whatever the labels are
module _ {old new : Classes} {groups : Groups} {many count g c x at : ℕ} (K : Carried old new groups many count g c x at) where
  pub cut-here : (new' : Classes) {many' : ℕ} → g < count → x ≡ 0 → CutAt_in new new' (length new.order.now) c at many many' → CutOff_in old new' groups (length old.order.now) count g many many'
  cut-here new' {many'} g-in e C label rows L = cut_off L g-in K.standing (K.moving label rows L) e (rw (K.standing.placed.order-long, K.kept.0) at C)

-- ---- one group after the other

module _ {label class₀ class : List ℕ} {n g many₀ many : ℕ} (C : CutTo label class₀ class n g many₀ many) where
  cut-more : {class' : List ℕ} {many' : ℕ} → CutOff label class class' n g many many' → CutTo label class₀ class' n (g + 1) many₀ many'
  cut-more {class'} {many'} O = record {
    finer = λ i j li lj e. C.finer i j li lj (O.finer i j li lj e);
    parted = λ i j li lj e l. parted i j li lj e l (ℕ_discrete (get_or label i 0) g);
    fair = λ i j li lj e h. O.fair i j li lj (C.fair i j li lj e h) h;
    new = λ i l. ⊎_elim (λ e. ⊎_elim (λ f. inl (e ∙ f)) (λ m. inr (omega arith)) (C.new i l)) (λ m. inr (omega (arith, C.more))) (O.new i l);
    more = omega (arith, C.more, O.more);
  }
    where
      parted : (i j : ℕ) → i < n → j < n → get_or class' i 0 ≡ get_or class' j 0 → get_or label i 0 < g + 1 → Dec (get_or label i 0 ≡ g) → get_or label i 0 ≡ get_or label j 0
      parted i j li lj e l (yes h) = h ∙ sym (O.parted i j li lj e h)
      parted i j li lj e l (no ne) = C.parted i j li lj (O.finer i j li lj e) (omega arith)

  -- the groups are groups of the cut classes too
  labelled-still : {seen prior last : List ℕ} {count groups : ℕ} → Labelled label class₀ seen prior last n count groups → Labelled label class seen prior last n count groups
  labelled-still L = record {
    label-long = L.label-long;
    seen-long = L.seen-long;
    prior-long = L.prior-long;
    last-long = L.last-long;
    seen-in = L.seen-in;
    rising = L.rising;
    low = L.low;
    others = L.others;
    few = L.few;
    linked = L.linked;
    ends = L.ends;
    some = L.some;
    class-one = λ i j li lj l e. C.fair i j li lj (L.class-one i j li lj l e) e;
  }

-- all groups are cut: rows of one class are of one group, or of none
pub cut-whole : {label class₀ class seen prior last : List ℕ} {n count groups many₀ many : ℕ} → Labelled label class₀ seen prior last n count groups → CutTo label class₀ class n groups many₀ many
    → (i j : ℕ) → i < n → j < n → get_or class i 0 ≡ get_or class j 0 → get_or label i 0 ≡ get_or label j 0
cut-whole L C i j li lj e = ⊎_elim (λ l. C.parted i j li lj e l) (λ a. ⊎_elim (λ l. sym (C.parted j i lj li (sym e) l)) (λ b. a ∙ sym b) (label-cases L j lj)) (label-cases L i li)

-- ---- whatever the labels are: the groups before group g are cut

pub record CutBefore (old new : Classes) (groups : Groups) (many₀ count g many : ℕ) : Type 0 where
  pub same-lists : SameLists old new
  pub few : g ≤ count
  pub standing : Standing_in new (length old.order.now) many
  pub cut : (label : List ℕ) (rows : ℕ) → Labelled_in label old.class.now groups (length old.order.now) rows count → CutTo label old.class.now new.class.now (length old.order.now) g many₀ many

module _ {old new : Classes} {groups : Groups} {many₀ count g many : ℕ} (B : CutBefore old new groups many₀ count g many) where
  pub still-grouped : Grouped_in old.class.now groups (length old.order.now) count → Grouped_in new.class.now groups (length new.order.now) count
  still-grouped G = rw B.standing.placed.order-long (record { label = G.label; count = G.count; labelled = labelled-still (B.cut G.label G.count G.labelled) G.labelled })

  pub cut-next : {new' : Classes} {many' : ℕ} → g < count → SameLists new new' → Standing_in new' (length new.order.now) many' → CutOff_in new new' groups (length new.order.now) count g many many'
      → CutBefore old new' groups many₀ count (g + 1) many'
  cut-next l N S O = record {
    same-lists = same-lists-then B.same-lists N;
    few = omega arith;
    standing = rw B.standing.placed.order-long at S;
    cut = λ label rows L. cut-more (B.cut label rows L) ((rw B.standing.placed.order-long at O) label rows (labelled-still (B.cut label rows L) L));
  }
