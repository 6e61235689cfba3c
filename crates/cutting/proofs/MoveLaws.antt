-- The rows of a group moved to the end of their class's stretch, from the last to the first.
use mathlib.Core.Path.{◌≡◌, refl, sym, ap, ◌∙◌}
use mathlib.Core.Logic.{◌≢◌, ⊎_elim}
use mathlib.Core.List.{List}
use Prim.Native.Nat.{ℕ, ◌-◌, ◌≤◌, ◌<◌}
use native.Mathlib.Decide.{ℕ_discrete, dec_lt}
use native.Mathlib.Omega.{arith}
use lib.ListN.{length, get_or, get_or-eq_default}
use Rattle.rules.specs.Sizes.{rows_most}
use Rattle.chains.specs.Chains.{Latest, label_at, Labelled}
use Rattle.chains.specs.Lent.{Labelled_in, Grouped_in}
use Rattle.chains.specs.declared.Groups.{Groups}
use Rattle.chains.proofs.ChainLaws.{count_fits}
use Rattle.stretches.specs.Stretches.{Placed, Swapped, Stretches, Inside}
use Rattle.stretches.specs.Lent.{SameLists, ClassesKept, Placed_in, Swapped_in, Stretches_in, Inside_in}
use Rattle.stretches.specs.declared.Classes.{Classes}
use Rattle.stretches.proofs.LentLaws.{same-lists-none, same-lists-then}
use Rattle.cutting.specs.Cutting.{Standing}
use Rattle.cutting.specs.Lent.{Standing_in}

-- ---- two rows change places

module _ {order place order' place' : List ℕ} {n r p : ℕ} (P : Placed order place n) (S : Swapped order place order' place' n r p) (r-in : r < n) (p-in : p < n) where
  -- rows of one class: the class at each place stays
  swap-class : (class : List ℕ) → get_or class r 0 ≡ get_or class (get_or order p 0) 0 → (q : ℕ) → q < n → get_or class (get_or order' q 0) 0 ≡ get_or class (get_or order q 0) 0
  swap-class class e q l = rw (S.placed.back q l) at (sym (went (get_or order' q 0) (S.placed.row q l) (ℕ_discrete (get_or order' q 0) r) (ℕ_discrete (get_or order' q 0) (get_or order p 0))))
    where
      went : (s : ℕ) → s < n → Dec (s ≡ r) → Dec (s ≡ get_or order p 0) → get_or class (get_or order (get_or place' s 0) 0) 0 ≡ get_or class s 0
      went s l (yes a) d = rw (a, S.moved) (sym e)
      went s l (no a) (yes b) = rw (b, S.other, P.there r r-in) e
      went s l (no a) (no b) = rw (S.still s l a b, P.there s l)

  -- a row other than r that stood at p or before it stands before p
  before : (s : ℕ) → s < n → s ≢ r → get_or place s 0 ≤ p → get_or place r 0 ≤ p → get_or place' s 0 < p
  before s l ne ls lr = go (ℕ_discrete s (get_or order p 0))
    where
      go : Dec (s ≡ get_or order p 0) → get_or place' s 0 < p
      go (yes e) = let away : get_or place r 0 ≢ p = λ h. ne (e ∙ ap (λ (x : ℕ). get_or order x 0) (sym h) ∙ P.there r r-in) in
          rw e (omega (arith, S.other))
      go (no d) = let away : get_or place s 0 ≢ p = λ h. d (sym (P.there s l) ∙ ap (λ (x : ℕ). get_or order x 0) h) in
          omega (arith, S.still s l ne d)

  -- a row behind p stays there
  behind : (s : ℕ) → s < n → p < get_or place s 0 → get_or place r 0 ≤ p → p < get_or place' s 0
  behind s l ls lr = omega (arith, S.still s l (λ h. omega (arith, ap (λ (x : ℕ). get_or place x 0) h)) (λ h. omega (arith, ap (λ (x : ℕ). get_or place x 0) h, P.back p p-in)))

-- the same class at each place: the same stretches
stretches-same : {order order' place' class start end : List ℕ} {n many : ℕ} → Stretches order class start end n many → Placed order' place' n
    → ((p : ℕ) → p < n → get_or class (get_or order' p 0) 0 ≡ get_or class (get_or order p 0) 0) → Stretches order' class start end n many
stretches-same {place' = place'} {class = class} {start = start} {end = end} S P same = record {
  few = S.few;
  order-long = P.order-long;
  class-long = S.class-long;
  start-long = S.start-long;
  end-long = S.end-long;
  row = P.row;
  once = λ p q lp lq e. sym (P.back p lp) ∙ ap (λ (x : ℕ). get_or place' x 0) e ∙ P.back q lq;
  numbered = λ p l. rw (same p l) (S.numbered p l);
  from = λ p l. rw (same p l) (S.from p l);
  to = λ p l. rw (same p l) (S.to p l);
  some = S.some;
  inside = S.inside;
  own = λ c p lc lf lt. same p (omega (arith, S.inside c lc)) ∙ S.own c p lc lf lt;
}

-- ---- the rows of group g, of class c: those of the chain before x stand before `at`, as the class's other rows do, and the others not

pub record Moving (label class seen place start end : List ℕ) (n count many g c x at : ℕ) : Type 0 where
  pub inside : Inside start end c at many
  pub own : (r : ℕ) → r < n → get_or label r 0 ≡ g → get_or class r 0 ≡ c
  pub next : (x ≢ 0) → (x ≤ count) × (label_at label seen (x - 1) ≡ g)
  pub done : (i : ℕ) → x ≤ i → i < count → label_at label seen i ≡ g → at ≤ get_or place (get_or seen i 0) 0
  pub todo : (i : ℕ) → i < x → label_at label seen i ≡ g → get_or place (get_or seen i 0) 0 < at
  pub rest : (r : ℕ) → r < n → get_or class r 0 ≡ c → get_or label r 0 ≢ g → get_or place r 0 < at

-- where a row stands
module _ {order place class start end : List ℕ} {n many : ℕ} (S : Standing order place class start end n many) where
  stands_from : (r : ℕ) → r < n → get_or start (get_or class r 0) 0 ≤ get_or place r 0
  stands_from r l = rw (S.placed.there r l) at (S.stretches.from (get_or place r 0) (S.placed.inside r l))

  stands-to : (r : ℕ) → r < n → get_or place r 0 < get_or end (get_or class r 0) 0
  stands-to r l = rw (S.placed.there r l) at (S.stretches.to (get_or place r 0) (S.placed.inside r l))

  class_low : (r : ℕ) → r < n → get_or class r 0 < many
  class_low r l = rw (S.placed.there r l) at (S.stretches.numbered (get_or place r 0) (S.placed.inside r l))

  -- a class has an end
  class-in : {c : ℕ} → c < many → c < length end
  class-in {c} l = go (dec_lt c (length end))
    where
      go : Dec (c < length end) → c < length end
      go (yes h) = h
      go (no h) = absurd (omega (arith, S.stretches.some c l, get_or-eq_default end 0 {n = c} (omega arith)))

-- the same whatever the labels are, while only places change
pub record Carried (old new : Classes) (groups : Groups) (many count g c x at : ℕ) : Type 0 where
  pub same-lists : SameLists old new
  pub kept : ClassesKept old new
  pub standing : Standing new.order.now new.place.now old.class.now old.start.now old.end.now (length old.order.now) many
  pub moving : (label : List ℕ) (rows : ℕ) → Labelled_in label old.class.now groups (length old.order.now) rows count
      → Moving label old.class.now groups.seen.now new.place.now old.start.now old.end.now (length old.order.now) rows many g c x at

module _ {label class seen prior last : List ℕ} {n count groups : ℕ} (L : Labelled label class seen prior last n count groups) {g : ℕ} (g-in : g < groups) where
  -- the last row of a group
  last_row : (get_or last g 0 ≢ 0) × (get_or last g 0 ≤ count) × (label_at label seen (get_or last g 0 - 1) ≡ g)
  last_row = (L.some g g-in, ((L.ends g g-in).is (L.some g g-in)).0, ((L.ends g g-in).is (L.some g g-in)).1)

  -- a row of group g is seen
  seen_at : (r : ℕ) → r < n → get_or label r 0 ≡ g → (i : ℕ) × (i < count) × (get_or seen i 0 ≡ r)
  seen_at r l e = ⊎_elim (λ s. s) (λ h. absurd (omega (arith, L.few, count_fits L))) (L.others r l)

  module _ {order place start end : List ℕ} {many : ℕ} (S : Standing order place class start end n many) where
    -- no row is moved
    moving-none : {c : ℕ} → c ≡ get_or class (get_or seen (get_or last g 0 - 1) 0) 0 → Moving label class seen place start end n count many g c (get_or last g 0) (get_or end c 0)
    moving-none {c} e = record {
      inside = record { number = c-low; from = omega (arith, S.stretches.some c c-low); to = omega arith };
      own = own;
      next = λ ne. (last_row.1, last_row.2);
      done = λ i l li h. absurd (omega (arith, (L.ends g g-in).most i li h));
      todo = λ i l h. behind-none (get_or seen i 0) (L.seen-in i (omega (arith, last_row.1))) (own (get_or seen i 0) (L.seen-in i (omega (arith, last_row.1))) h);
      rest = λ r l h ne. behind-none r l h;
    }
      where
        x : ℕ
        x = get_or last g 0

        x-in : x - 1 < count
        x-in = omega (arith, last_row.0, last_row.1)

        c-low : c < many
        c-low = rw e (class_low S (get_or seen (x - 1) 0) (L.seen-in (x - 1) x-in))

        own : (r : ℕ) → r < n → get_or label r 0 ≡ g → get_or class r 0 ≡ c
        own r l h = L.class-one r (get_or seen (x - 1) 0) l (L.seen-in (x - 1) x-in) (omega arith) (h ∙ sym last_row.2) ∙ sym e

        behind-none : (r : ℕ) → r < n → get_or class r 0 ≡ c → get_or place r 0 < get_or end c 0
        behind-none r l h = rw (← h) (stands-to S r l)

    module _ {c x at : ℕ} (M : Moving label class seen place start end n count many g c x at) where
      -- the next row
      module _ (more : x ≢ 0) where
        next-in : x - 1 < count
        next-in = omega (arith, (M.next more).0)

        row_in : get_or seen (x - 1) 0 < n
        row_in = L.seen-in (x - 1) next-in

        row_before : get_or place (get_or seen (x - 1) 0) 0 < at
        row_before = M.todo (x - 1) (omega arith) (M.next more).1

        row-own : get_or class (get_or seen (x - 1) 0) 0 ≡ c
        row-own = M.own (get_or seen (x - 1) 0) row_in (M.next more).1

        row_from : get_or start c 0 ≤ get_or place (get_or seen (x - 1) 0) 0
        row_from = rw row-own at (stands_from S (get_or seen (x - 1) 0) row_in)

        at_some : 0 < at
        at_some = omega (arith, row_before)

        at_in : at - 1 < n
        at_in = omega (arith, at_some, M.inside.to, S.stretches.inside c M.inside.number)

        at_own : get_or class (get_or order (at - 1) 0) 0 ≡ c
        at_own = S.stretches.own c (at - 1) M.inside.number (omega (arith, row_from, row_before)) (omega (arith, at_some, M.inside.to))

        prior-latest : Latest (label_at label seen) g (x - 1) (get_or prior (x - 1) 0)
        prior-latest = rw (M.next more).1 at (L.linked (x - 1) next-in)

        prior-before : get_or prior (x - 1) 0 ≤ x - 1
        prior-before = go (ℕ_discrete (get_or prior (x - 1) 0) 0)
          where
            go : Dec (get_or prior (x - 1) 0 ≡ 0) → get_or prior (x - 1) 0 ≤ x - 1
            go (yes e) = omega arith
            go (no ne) = omega (arith, (prior-latest.is ne).0)

        module _ {order' place' : List ℕ} (W : Swapped order place order' place' n (get_or seen (x - 1) 0) (at - 1)) where
          standing-next : Standing order' place' class start end n many
          standing-next = record {
            placed = W.placed;
            stretches = stretches-same S.stretches W.placed (swap-class S.placed W row_in at_in class (row-own ∙ sym at_own));
          }

          moving-next : Moving label class seen place' start end n count many g c (get_or prior (x - 1) 0) (at - 1)
          moving-next = record {
            inside = record { number = M.inside.number; from = omega (arith, row_from, row_before); to = omega (arith, M.inside.to) };
            own = M.own;
            next = λ ne. (omega (arith, prior-before, next-in), (prior-latest.is ne).1);
            done = λ i l li h. done i l li h (ℕ_discrete i (x - 1)) (dec_lt i x);
            todo = λ i l h. todo i (omega (arith, prior-before)) h;
            rest = λ r l h ne. ahead r l (λ e. ne (ap (λ (s : ℕ). get_or label s 0) e ∙ (M.next more).1)) (M.rest r l h ne);
          }
            where
              ahead : (s : ℕ) → s < n → s ≢ get_or seen (x - 1) 0 → get_or place s 0 < at → get_or place' s 0 < at - 1
              ahead s l ne h = before S.placed W row_in at_in s l ne (omega arith) (omega (arith, row_before))

              todo : (i : ℕ) → i < x - 1 → label_at label seen i ≡ g → get_or place' (get_or seen i 0) 0 < at - 1
              todo i l h = ahead (get_or seen i 0) (L.seen-in i (omega (arith, next-in))) (omega (arith, L.rising i (x - 1) l next-in)) (M.todo i (omega arith) h)

              done : (i : ℕ) → get_or prior (x - 1) 0 ≤ i → i < count → label_at label seen i ≡ g → Dec (i ≡ x - 1) → Dec (i < x) → at - 1 ≤ get_or place' (get_or seen i 0) 0
              done i l li h (yes e) d = rw e (omega (arith, W.moved))
              done i l li h (no ne) (yes b) = absurd (omega (arith, prior-latest.most i (omega arith) h))
              done i l li h (no ne) (no b) = let h-at : at ≤ get_or place (get_or seen i 0) 0 = M.done i (omega arith) li h in
                  omega (arith, behind S.placed W row_in at_in (get_or seen i 0) (L.seen-in i li) (omega (arith, at_some)) (omega (arith, row_before)))

      -- no row is left: what stands from `at` on are the rows of group g
      module _ (end-of-chain : x ≡ 0) where
        pub moved_in : (r : ℕ) → r < n → get_or label r 0 ≡ g → at ≤ get_or place r 0
        moved_in r l h = let s = seen_at r l h in
            rw s.2 at (M.done s.0 (omega arith) s.1 (ap (λ (q : ℕ). get_or label q 0) s.2 ∙ h))

        pub moved_out : (r : ℕ) → r < n → get_or class r 0 ≡ c → at ≤ get_or place r 0 → get_or label r 0 ≡ g
        moved_out r l h a = go (ℕ_discrete (get_or label r 0) g)
          where
            go : Dec (get_or label r 0 ≡ g) → get_or label r 0 ≡ g
            go (yes e) = e
            go (no ne) = absurd (omega (arith, M.rest r l h ne))

-- ---- what the code has to know

-- of the last row of group g
pub record First (classes : Classes) (groups : Groups) (g : ℕ) : Type 0 where
  pub last-long : g < length groups.last.now
  pub some : 0 < get_or groups.last.now g 0
  pub place : get_or groups.last.now g 0 - 1 < length groups.seen.now
  pub row : get_or groups.seen.now (get_or groups.last.now g 0 - 1) 0 < length classes.class.now
  pub number : get_or classes.class.now (get_or groups.seen.now (get_or groups.last.now g 0 - 1) 0) 0 < length classes.end.now
  pub few : length classes.class.now ≤ rows_most

-- of the next row to be moved
pub record Next (groups : Groups) (n x at : ℕ) : Type 0 where
  pub seen-long : x - 1 < length groups.seen.now
  pub prior-long : x - 1 < length groups.prior.now
  pub row : get_or groups.seen.now (x - 1) 0 < n
  pub some : 0 < at
  pub place : at - 1 < n
  pub less : get_or groups.prior.now (x - 1) 0 < x

module _ (old : Classes) (groups : Groups) {many count g : ℕ} (S : Standing_in old (length old.order.now) many) (G : Grouped_in old.class.now groups (length old.order.now) count × (g < count)) where
  pub first : First old groups g
  first = let L = G.0.labelled in
      let r-in : get_or groups.seen.now (get_or groups.last.now g 0 - 1) 0 < length old.order.now = L.seen-in (get_or groups.last.now g 0 - 1) (omega (arith, last_row L G.1)) in
      record {
        last-long = omega (arith, L.last-long, G.1);
        some = omega (arith, last_row L G.1);
        place = omega (arith, last_row L G.1, L.seen-long);
        row = omega (arith, S.stretches.class-long);
        number = class-in S (class_low S (get_or groups.seen.now (get_or groups.last.now g 0 - 1) 0) r-in);
        few = omega (arith, S.stretches.class-long, S.stretches.few);
      }

  pub carried_none : Carried old old groups many count g (get_or old.class.now (get_or groups.seen.now (get_or groups.last.now g 0 - 1) 0) 0) (get_or groups.last.now g 0)
      (get_or old.end.now (get_or old.class.now (get_or groups.seen.now (get_or groups.last.now g 0 - 1) 0) 0) 0)
  carried_none = record { same-lists = same-lists-none old; kept = (refl, refl, refl); standing = S; moving = λ label rows N. moving-none N G.1 S refl }

module _ {old new : Classes} {groups : Groups} {many count g c x at : ℕ} (K : Carried old new groups many count g c x at)
    (G : Grouped_in old.class.now groups (length old.order.now) count × (g < count)) where
  M : Moving G.0.label old.class.now groups.seen.now new.place.now old.start.now old.end.now (length old.order.now) G.0.count many g c x at
  M = K.moving G.0.label G.0.count G.0.labelled

  pub next : x ≢ 0 → Next groups (length new.order.now) x at
  next more = let L = G.0.labelled in
      record {
        seen-long = omega (arith, next-in L G.1 K.standing M more, L.seen-long);
        prior-long = omega (arith, next-in L G.1 K.standing M more, L.prior-long);
        row = omega (arith, row_in L G.1 K.standing M more, K.standing.placed.order-long);
        some = at_some L G.1 K.standing M more;
        place = omega (arith, at_in L G.1 K.standing M more, K.standing.placed.order-long);
        less = omega (arith, prior-before L G.1 K.standing M more);
      }

  -- what `swap` asks, and what follows
  pub to-swap : x ≢ 0 → Placed_in new (length new.order.now) × (get_or groups.seen.now (x - 1) 0 < length new.order.now) × (at - 1 < length new.order.now)
  to-swap more = (rw K.standing.placed.order-long K.standing.placed, (next more).row, (next more).place)

  pub carried-next : {new' : Classes} → x ≢ 0 → SameLists new new' → ClassesKept new new' → Swapped_in new new' (length new.order.now) (get_or groups.seen.now (x - 1) 0) (at - 1)
      → Carried old new' groups many count g c (get_or groups.prior.now (x - 1) 0) (at - 1)
  carried-next {new'} more N H W = record {
    same-lists = same-lists-then K.same-lists N;
    kept = (H.0 ∙ K.kept.0, H.1 ∙ K.kept.1, H.2 ∙ K.kept.2);
    standing = standing-next G.0.labelled G.1 K.standing M more swapped;
    moving = λ label rows L. moving-next L G.1 K.standing (K.moving label rows L) more swapped;
  }
    where
      swapped : Swapped_in new new' (length old.order.now) (get_or groups.seen.now (x - 1) 0) (at - 1)
      swapped = rw K.standing.placed.order-long at W

  -- what `cut` asks
  pub to-cut : Stretches_in new (length new.order.now) many × Inside_in new c at many
  to-cut = rw (K.standing.placed.order-long, K.kept.0, K.kept.1, K.kept.2) (K.standing.stretches, M.inside)
