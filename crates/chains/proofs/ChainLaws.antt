-- A row more in a chain, and what follows for the labels.
use mathlib.Core.Path.{◌≡◌, refl, sym, ap, ◌∙◌}
use mathlib.Core.Logic.{◌≢◌, ◌⊎◌, inl, inr, ⊎_elim}
use mathlib.Core.List.{List}
use Prim.Native.Nat.{ℕ, zero, suc, ◌+◌, ◌-◌, ◌≤◌, ◌<◌}
use native.Mathlib.Decide.{ℕ_discrete}
use native.Mathlib.Omega.{arith}
use borrow.Author.Count.{below_more}
use lib.ListN.{length, get_or, set, replicate, length-set, length-replicate, get_or-replicate}
use lib.Seq.{get_or-set_same, get_or-set_other}
use Rattle.chains.specs.Chains.{Latest, Linked, label_at, Labelled}

-- ---- a place more

-- f' is f at each of the first `count` places
module _ {f f' : ℕ → ℕ} {count : ℕ} (same : (i : ℕ) → i < count → f' i ≡ f i) where
  latest-same : {k end x : ℕ} → end ≤ count → Latest f k end x → Latest f' k end x
  latest-same {k} {end} {x} l A = record {
    most = λ i li e. A.most i li (sym (same i (omega arith)) ∙ e);
    is = λ ne. ((A.is ne).0, same (x - 1) (omega (arith, (A.is ne).0, ne)) ∙ (A.is ne).1);
  }

  -- the new place is taken elsewhere
  latest-other : {k x : ℕ} → f' count ≢ k → Latest f k count x → Latest f' k (count + 1) x
  latest-other {k} {x} other A = record {
    most = λ i li e. go i li e (ℕ_discrete i count);
    is = λ ne. (omega (arith, (A.is ne).0), ((latest-same (omega arith) A).is ne).1);
  }
    where
      go : (i : ℕ) → i < count + 1 → f' i ≡ k → Dec (i ≡ count) → i < x
      go i li e (yes q) = absurd (other (ap f' (sym q) ∙ e))
      go i li e (no q) = (latest-same (omega arith) A).most i (omega arith) e

  latest-new : {k : ℕ} → f' count ≡ k → Latest f' k (count + 1) (count + 1)
  latest-new {k} e = record { most = λ i li q. li; is = λ ne. (omega arith, ap f' (omega arith) ∙ e) }

  pub linked-more : (links : List ℕ) {x : ℕ} → count < length links → Linked f links count → Latest f (f' count) count x → Linked f' (set links count x) (count + 1)
  linked-more links {x} room L A i li = go (ℕ_discrete i count)
    where
      go : Dec (i ≡ count) → Latest f' (f' i) i (get_or (set links count x) i 0)
      go (yes q) = rw (q, get_or-set_same links count x 0 room) (latest-same (omega arith) A)
      go (no q) = rw (get_or-set_other links count i x 0 q, same i (omega arith)) (latest-same (omega arith) (L i (omega arith)))

  pub ends_more : (last : List ℕ) {groups : ℕ} → f' count < length last → ((h : ℕ) → h < groups → Latest f h count (get_or last h 0))
      → (h : ℕ) → h < groups → Latest f' h (count + 1) (get_or (set last (f' count) (count + 1)) h 0)
  ends_more last room E h lh = go (ℕ_discrete h (f' count))
    where
      go : Dec (h ≡ f' count) → Latest f' h (count + 1) (get_or (set last (f' count) (count + 1)) h 0)
      go (yes q) = rw (q, get_or-set_same last (f' count) (count + 1) 0 room) (latest-new refl)
      go (no q) = rw (get_or-set_other last (f' count) h (count + 1) 0 q) (latest-other (λ e. q (sym e)) (E h lh))

-- ---- the number of rows seen

module _ {label class seen prior last : List ℕ} {n count groups : ℕ} (L : Labelled label class seen prior last n count groups) where
  rise : (i : ℕ) → i < count → i ≤ get_or seen i 0
  rise zero l = omega arith
  rise (suc i) l = omega (arith, rise i (omega arith), L.rising i (suc i) (omega arith) l)

  pub count-below : (r : ℕ) → ((i : ℕ) → i < count → get_or seen i 0 < r) → count ≤ r
  count-below r below = go (ℕ_discrete count 0)
    where
      go : Dec (count ≡ 0) → count ≤ r
      go (yes e) = omega arith
      go (no ne) = omega (arith, rise (count - 1) (omega arith), below (count - 1) (omega arith))

  pub count_fits : count ≤ n
  count_fits = count-below n L.seen-in

  -- a label is that of a group, or n
  pub label-cases : (r : ℕ) → r < n → (get_or label r 0 < groups) ⊎ (get_or label r 0 ≡ n)
  label-cases r l = ⊎_elim (λ s. inl (rw (← s.2) (L.low s.0 s.1))) inr (L.others r l)

-- before any row is seen
pub labels-none : (class seen prior last : List ℕ) (n : ℕ) → Labelled (replicate n n) class seen prior last n 0 0
labels-none class seen prior last n = record {
  label-long = length-replicate n n;
  seen-long = omega arith;
  prior-long = omega arith;
  last-long = omega arith;
  seen-in = λ i l. absurd (omega arith);
  rising = λ i j l m. absurd (omega arith);
  low = λ i l. absurd (omega arith);
  others = λ r l. inr (get_or-replicate n r n 0 l);
  few = omega arith;
  linked = λ i l. absurd (omega arith);
  ends = λ g l. absurd (omega arith);
  some = λ g l. absurd (omega arith);
  class-one = λ i j li lj l e. absurd (omega arith);
}

-- ---- a row more

module _ {label class seen prior last : List ℕ} {n count groups : ℕ} (L : Labelled label class seen prior last n count groups) {r : ℕ} (r-in : r < n)
    (below : (i : ℕ) → i < count → get_or seen i 0 < r) (seen-room : count < length seen) (prior-room : count < length prior) where
  -- in group g, which is a group or a new one; `ends` are the ends of the chains, that of a new one 0
  module _ (ends : List ℕ) {g groups' : ℕ} (more : groups ≤ groups') (few : groups' ≤ count + 1) (g-in : g < groups') (room : groups' ≤ length ends)
      (E : (h : ℕ) → h < groups' → Latest (label_at label seen) h count (get_or ends h 0)) (old : (h : ℕ) → h < groups' → h ≢ g → (h < groups) × (get_or ends h 0 ≢ 0))
      (one : (i : ℕ) → i < n → get_or label i 0 ≡ g → get_or class i 0 ≡ get_or class r 0) where
    seen-new : get_or (set seen count r) count 0 ≡ r
    seen-new = get_or-set_same seen count r 0 seen-room

    seen-old : (i : ℕ) → i < count → get_or (set seen count r) i 0 ≡ get_or seen i 0
    seen-old i l = get_or-set_other seen count i r 0 (omega arith)

    label-new : get_or (set label r g) r 0 ≡ g
    label-new = get_or-set_same label r g 0 (omega (arith, L.label-long))

    label-old : (q : ℕ) → q ≢ r → get_or (set label r g) q 0 ≡ get_or label q 0
    label-old q ne = get_or-set_other label r q g 0 ne

    at_new : label_at (set label r g) (set seen count r) count ≡ g
    at_new = ap (λ (x : ℕ). get_or (set label r g) x 0) seen-new ∙ label-new

    at_old : (i : ℕ) → i < count → label_at (set label r g) (set seen count r) i ≡ label_at label seen i
    at_old i l = ap (λ (x : ℕ). get_or (set label r g) x 0) (seen-old i l) ∙ label-old (get_or seen i 0) (omega (arith, below i l))

    added : Labelled (set label r g) class (set seen count r) (set prior count (get_or ends g 0)) (set ends g (count + 1)) n (count + 1) groups'
    added = record {
      label-long = length-set label r g ∙ L.label-long;
      seen-long = omega (arith, length-set seen count r);
      prior-long = omega (arith, length-set prior count (get_or ends g 0));
      last-long = omega (arith, length-set ends g (count + 1));
      seen-in = below_more (λ i. get_or (set seen count r) i 0 < n) count (λ i l. omega (arith, seen-old i l, L.seen-in i l)) (omega (arith, seen-new));
      rising = λ i j lij lj. below_more (λ j. i < j → get_or (set seen count r) i 0 < get_or (set seen count r) j 0) count
          (λ j l lij. omega (arith, seen-old i (omega arith), seen-old j l, L.rising i j lij l)) (λ l. omega (arith, seen-old i l, seen-new, below i l)) j lj lij;
      low = below_more (λ i. label_at (set label r g) (set seen count r) i < groups') count (λ i l. omega (arith, at_old i l, L.low i l)) (omega (arith, at_new));
      others = λ q l. others q l (ℕ_discrete q r);
      few = few;
      linked = linked-more at_old prior prior-room L.linked (rw at_new (E g g-in));
      ends = λ h l. rw at_new at (ends_more at_old ends (omega (arith, at_new)) E h l);
      some = λ h l. some h l (ℕ_discrete h g);
      class-one = λ i j li lj l e. class-one i j li lj l e (ℕ_discrete i r) (ℕ_discrete j r);
    }
      where
        others : (q : ℕ) → q < n → Dec (q ≡ r) → ((i : ℕ) × (i < count + 1) × (get_or (set seen count r) i 0 ≡ q)) ⊎ (get_or (set label r g) q 0 ≡ n)
        others q l (yes e) = inl (count, omega arith, seen-new ∙ sym e)
        others q l (no ne) = ⊎_elim (λ s. inl (s.0, omega (arith, s.1), seen-old s.0 s.1 ∙ s.2)) (λ e. inr (label-old q ne ∙ e)) (L.others q l)

        some : (h : ℕ) → h < groups' → Dec (h ≡ g) → get_or (set ends g (count + 1)) h 0 ≢ 0
        some h l (yes e) = rw (e, get_or-set_same ends g (count + 1) 0 (omega arith)) (omega arith)
        some h l (no ne) = rw (get_or-set_other ends g h (count + 1) 0 ne) (old h l ne).1

        class-one : (i j : ℕ) → i < n → j < n → get_or (set label r g) i 0 < groups' → get_or (set label r g) i 0 ≡ get_or (set label r g) j 0 → Dec (i ≡ r) → Dec (j ≡ r)
            → get_or class i 0 ≡ get_or class j 0
        class-one i j li lj l e (yes p) (yes q) = rw (p, q)
        class-one i j li lj l e (yes p) (no q) = rw p (sym (one j lj (sym (label-old j q) ∙ sym e ∙ rw p label-new)))
        class-one i j li lj l e (no p) (yes q) = rw q (one i li (sym (label-old i p) ∙ e ∙ rw q label-new))
        class-one i j li lj l e (no p) (no q) = go (ℕ_discrete (get_or label i 0) g)
          where
            e-old : get_or label i 0 ≡ get_or label j 0
            e-old = sym (label-old i p) ∙ e ∙ label-old j q

            go : Dec (get_or label i 0 ≡ g) → get_or class i 0 ≡ get_or class j 0
            go (yes z) = one i li z ∙ sym (one j lj (sym e-old ∙ z))
            go (no z) = L.class-one i j li lj (old (get_or label i 0) (rw (label-old i p) at l) z).0 e-old

  -- in group g
  pub joined : {g : ℕ} → g < groups → ((i : ℕ) → i < n → get_or label i 0 ≡ g → get_or class i 0 ≡ get_or class r 0)
      → Labelled (set label r g) class (set seen count r) (set prior count (get_or last g 0)) (set last g (count + 1)) n (count + 1) groups
  joined lg one = added last (omega arith) (omega (arith, L.few)) lg L.last-long L.ends (λ h l ne. (l, L.some h l)) one

  -- in a new group
  pub opened : groups < length last
      → Labelled (set label r groups) class (set seen count r) (set prior count (get_or (set last groups 0) groups 0)) (set (set last groups 0) groups (count + 1)) n (count + 1) (groups + 1)
  opened room = added (set last groups 0) (omega arith) (omega (arith, L.few)) (omega arith) (omega (arith, length-set last groups 0)) ends
      (λ h l ne. (omega arith, rw (get_or-set_other last groups h 0 0 ne) (L.some h (omega arith)))) one
    where
      ends : (h : ℕ) → h < groups + 1 → Latest (label_at label seen) h count (get_or (set last groups 0) h 0)
      ends = below_more (λ h. Latest (label_at label seen) h count (get_or (set last groups 0) h 0)) groups
          (λ h l. rw (get_or-set_other last groups h 0 0 (omega arith)) (L.ends h l))
          (rw (get_or-set_same last groups 0 0 room) (record { most = λ i l e. absurd (omega (arith, L.low i l)); is = λ ne. absurd (ne refl) }))

      one : (i : ℕ) → i < n → get_or label i 0 ≡ groups → get_or class i 0 ≡ get_or class r 0
      one i l e = absurd (⊎_elim (λ low. omega arith) (λ top. omega (arith, L.few, count-below L r below)) (label-cases L i l))
