-- A row more in the group of its mark.
use mathlib.Core.Path.{◌≡◌, refl, sym, ap, ◌∙◌}
use mathlib.Core.Logic.{◌≢◌}
use mathlib.Core.List.{List, []}
use Prim.Native.Nat.{ℕ, zero, suc, ◌+◌, ◌-◌, ◌≤◌, ◌<◌}
use native.Mathlib.Decide.{ℕ_discrete}
use native.Mathlib.Omega.{arith}
use borrow.Author.Count.{below_more}
use lib.ListN.{length, get_or, set, replicate, length-set, length-replicate}
use lib.Seq.{get_or-set_same, get_or-set_other}
use Rattle.chains.specs.Chains.{Labelled}
use Rattle.chains.proofs.ChainLaws.{labels-none, joined, opened}
use Rattle.chains.specs.Lent.{RoomFor}
use Rattle.chains.specs.declared.Groups.{Groups}
use Rattle.marks.specs.Marks.{MarkedTo}
use Rattle.marks.specs.Lent.{MarkedTo_in}

-- before any row is sorted
pub marked-none : (marks seen prior last : List ℕ) (n : ℕ) → MarkedTo marks (replicate 256 0) seen prior last n 0 0
marked-none marks seen prior last n = record {
  label = replicate n n;
  labelled = λ class one. labels-none class seen prior last n;
  long = length-replicate {A = ℕ} 256 0;
  seen-row = λ i l. absurd (omega arith);
  known = λ i l. absurd (omega arith);
  is = λ i l. absurd (omega arith);
  low = λ m. omega (arith, all 0 256 m);
  one = λ m k ne e. absurd (ne (all 0 256 m));
}
  where
    all : (z x m : ℕ) → get_or (replicate x z) m z ≡ z
    all z zero m = refl
    all z (suc x) zero = refl
    all z (suc x) (suc m) = all z x m

module _ {marks group seen prior last : List ℕ} {n groups r : ℕ} (T : MarkedTo marks group seen prior last n groups r) where
  -- the labels, where nothing is said of classes
  pub labels : Labelled T.label [] seen prior last n r groups
  labels = T.labelled [] (λ i j li lj. refl)

  pub few : groups ≤ r
  few = labels.few

  below : (i : ℕ) → i < r → get_or seen i 0 < r
  below i l = omega (arith, T.seen-row i l)

  -- row r is next
  module _ (r-in : r < n) (seen-room : r < length seen) (prior-room : r < length prior) where
    label-new : (g : ℕ) → get_or (set T.label r g) r 0 ≡ g
    label-new g = get_or-set_same T.label r g 0 (omega (arith, labels.label-long))

    label-old : (g i : ℕ) → i < r → get_or (set T.label r g) i 0 ≡ get_or T.label i 0
    label-old g i l = get_or-set_other T.label r i g 0 (omega arith)

    seen-rows : (i : ℕ) → i < r + 1 → get_or (set seen r r) i 0 ≡ i
    seen-rows = below_more (λ i. get_or (set seen r r) i 0 ≡ i) r (λ i l. get_or-set_other seen r i r 0 (omega arith) ∙ T.seen-row i l) (get_or-set_same seen r r 0 seen-room)

    -- its mark came before
    marked-joined : (g : ℕ) → get_or group (get_or marks r 0) 0 ≡ g → g ≢ 0
        → MarkedTo marks group (set seen r r) (set prior r (get_or last (g - 1) 0)) (set last (g - 1) (r + 1)) n groups (r + 1)
    marked-joined g e ne = record {
      label = set T.label r (g - 1);
      labelled = λ class one. joined (T.labelled class one) r-in below seen-room prior-room (omega (arith, T.low (get_or marks r 0))) (λ i l q. one i r l r-in);
      long = T.long;
      seen-row = seen-rows;
      known = below_more (λ i. get_or group (get_or marks i 0) 0 ≢ 0) r T.known (omega arith);
      is = below_more (λ i. get_or (set T.label r (g - 1)) i 0 ≡ get_or group (get_or marks i 0) 0 - 1) r (λ i l. label-old (g - 1) i l ∙ T.is i l)
          (label-new (g - 1) ∙ ap (λ (x : ℕ). x - 1) (sym e));
      low = T.low;
      one = T.one;
    }

    -- it comes for the first time
    module _ (room : groups < length last) {m : ℕ} (mark : get_or marks r 0 ≡ m) (byte : m < 256) (new : get_or group m 0 ≡ 0) where
      here : get_or (set group m (groups + 1)) m 0 ≡ groups + 1
      here = get_or-set_same group m (groups + 1) 0 (omega (arith, T.long))

      old : (k : ℕ) → k ≢ m → get_or (set group m (groups + 1)) k 0 ≡ get_or group k 0
      old k ne = get_or-set_other group m k (groups + 1) 0 ne

      came : (i : ℕ) → i < r → get_or marks i 0 ≢ m
      came i l q = T.known i l (ap (λ (x : ℕ). get_or group x 0) q ∙ new)

      marked-opened : MarkedTo marks (set group m (groups + 1)) (set seen r r) (set prior r (get_or (set last groups 0) groups 0)) (set (set last groups 0) groups (r + 1))
          n (groups + 1) (r + 1)
      marked-opened = record {
        label = set T.label r groups;
        labelled = λ class one. opened (T.labelled class one) r-in below seen-room prior-room room;
        long = length-set group m (groups + 1) ∙ T.long;
        seen-row = seen-rows;
        known = below_more (λ i. get_or (set group m (groups + 1)) (get_or marks i 0) 0 ≢ 0) r (λ i l. omega (arith, old (get_or marks i 0) (came i l), T.known i l))
            (rw mark (omega (arith, here)));
        is = below_more (λ i. get_or (set T.label r groups) i 0 ≡ get_or (set group m (groups + 1)) (get_or marks i 0) 0 - 1) r
            (λ i l. omega (arith, label-old groups i l, T.is i l, old (get_or marks i 0) (came i l))) (rw mark (omega (arith, label-new groups, here)));
        low = λ k. low k (ℕ_discrete k m);
        one = λ k j ne q. one k j ne q (ℕ_discrete k m) (ℕ_discrete j m);
      }
        where
          low : (k : ℕ) → Dec (k ≡ m) → get_or (set group m (groups + 1)) k 0 ≤ groups + 1
          low k (yes q) = rw q (omega (arith, here))
          low k (no q) = omega (arith, old k q, T.low k)

          one : (k j : ℕ) → get_or (set group m (groups + 1)) k 0 ≢ 0 → get_or (set group m (groups + 1)) k 0 ≡ get_or (set group m (groups + 1)) j 0
              → Dec (k ≡ m) → Dec (j ≡ m) → k ≡ j
          one k j ne q (yes a) (yes b) = a ∙ sym b
          one k j ne q (yes a) (no b) = absurd (omega (arith, old j b, T.low j, rw a at q, here))
          one k j ne q (no a) (yes b) = absurd (omega (arith, old k a, T.low k, rw b at q, here))
          one k j ne q (no a) (no b) = T.one k j (λ z. ne (old k a ∙ z)) (sym (old k a) ∙ q ∙ old j b)

-- row r joins the group of its mark, or opens one
module _ {marks group : List ℕ} {groups : Groups} {count r : ℕ} (T : MarkedTo_in marks group groups count r) (room : RoomFor groups (length marks)) (r-in : r < length marks) where
  pub known_group : get_or group (get_or marks r 0) 0 ≢ 0 → get_or group (get_or marks r 0) 0 - 1 < length groups.last.now
  known_group ne = omega (arith, T.low (get_or marks r 0), (labels T).last-long)

  pub row_joined : (new : Groups) → get_or group (get_or marks r 0) 0 ≢ 0 → new.seen.now ≡ set groups.seen.now r r
      → new.prior.now ≡ set groups.prior.now r (get_or groups.last.now (get_or group (get_or marks r 0) 0 - 1) 0)
      → new.last.now ≡ set groups.last.now (get_or group (get_or marks r 0) 0 - 1) (r + 1) → MarkedTo_in marks group new count (r + 1)
  row_joined new ne s p l = rw (s, p, l) (marked-joined T r-in (omega (arith, room.seen-long)) (omega (arith, room.prior-long)) _ refl ne)

  pub row_opened : (new : Groups) → get_or group (get_or marks r 0) 0 ≡ 0 → get_or marks r 0 < 256 → new.seen.now ≡ set groups.seen.now r r
      → new.prior.now ≡ set groups.prior.now r (get_or (set groups.last.now count 0) count 0) → new.last.now ≡ set (set groups.last.now count 0) count (r + 1)
      → MarkedTo_in marks (set group (get_or marks r 0) (count + 1)) new (count + 1) (r + 1)
  row_opened new e byte s p l =
      rw (s, p, l) (marked-opened T r-in (omega (arith, room.seen-long)) (omega (arith, room.prior-long)) (omega (arith, room.last-long, few T)) refl byte e)
