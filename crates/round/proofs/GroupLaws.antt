-- Rows sorted into groups: the search for a row's group, a row more, and what is left when every row is passed.
use mathlib.Core.Path.{◌≡◌, sym, ap, ◌∙◌, subst}
use mathlib.Core.Logic.{◌≢◌, ◌⊎◌, inl, ⊎_elim}
use mathlib.Core.List.{List}
use Prim.Native.Nat.{ℕ, ◌+◌, ◌-◌, ◌≤◌, ◌<◌}
use native.Mathlib.Decide.{ℕ_discrete, dec_lt}
use native.Mathlib.Omega.{arith}
use borrow.Author.Count.{below_more}
use lib.ListN.{length, get_or, set, replicate, length-set, length-replicate, get_or-replicate}
use lib.Seq.{get_or-set_same, get_or-set_other}
use Rattle.rules.specs.Sizes.{rows_most}
use Rattle.mixing.specs.Mixing.{buckets}
use Rattle.keys.specs.Keys.{Alike, Idle, bucket_of}
use Rattle.keys.proofs.KeyLaws.{alike_refl, alike-sym, alike-trans}
use Rattle.keys.specs.declared.Keys.{Keys}
use Rattle.chains.specs.declared.Groups.{Groups}
use Rattle.round.specs.declared.Buckets.{Buckets}
use Rattle.sets.specs.Sets.{member}
use Rattle.round.specs.Members.{NoneTo}
use Rattle.round.specs.Lent.{Filed_in}
use Rattle.chains.specs.Chains.{Latest, Linked}
use Rattle.chains.proofs.ChainLaws.{linked-more, ends_more, labels-none, count-below, count_fits, label-cases, joined, opened}
use Rattle.round.specs.Groups.{bucket_at, Book, Filed, Passed, Sorted, Single, Touches}

-- ---- the search

-- a group that row r goes with is before x, which is one more than a group of the bucket k, or 0
pub record Seek (cells class bytes firsts : List ℕ) (from groups r k x : ℕ) : Type 0 where
  pub at : (x ≢ 0) → (x ≤ groups) × (bucket_at cells class from bytes firsts (x - 1) ≡ k)
  pub most : (g : ℕ) → g < groups → Alike cells class from (get_or firsts g 0) r → g < x

-- x is one more than a group
pub seek-in : {cells class bytes firsts : List ℕ} {from groups r k x : ℕ} → Seek cells class bytes firsts from groups r k x → x ≢ 0 → x - 1 < groups
seek-in S ne = omega (arith, (S.at ne).0, ne)

-- rows that go as row r are of the bucket k
module _ {cells class bytes firsts : List ℕ} {from groups r k : ℕ} (own : (q : ℕ) → Alike cells class from q r → bucket_of cells class from bytes q ≡ k) where
  pub seek-first : {x : ℕ} → Latest (bucket_at cells class from bytes firsts) k groups x → Seek cells class bytes firsts from groups r k x
  seek-first L = record { at = L.is; most = λ g l s. L.most g l (own (get_or firsts g 0) s) }

  pub seek-next : {x : ℕ} (links : List ℕ) → Seek cells class bytes firsts from groups r k x → x ≢ 0 → Linked (bucket_at cells class from bytes firsts) links groups
      → (Alike cells class from (get_or firsts (x - 1) 0) r → ⊥) → (get_or links (x - 1) 0 < x) × Seek cells class bytes firsts from groups r k (get_or links (x - 1) 0)
  seek-next {x} links S ne linked other = (
    below (ℕ_discrete (get_or links (x - 1) 0) 0),
    record {
      at = λ n. (omega (arith, (L.is n).0, (S.at ne).0), (L.is n).1 ∙ (S.at ne).1);
      most = λ g l s. L.most g (before g s (S.most g l s) (ℕ_discrete g (x - 1))) (own (get_or firsts g 0) s ∙ sym (S.at ne).1);
    },
  )
    where
      L : Latest (bucket_at cells class from bytes firsts) (bucket_at cells class from bytes firsts (x - 1)) (x - 1) (get_or links (x - 1) 0)
      L = linked (x - 1) (seek-in S ne)

      below : Dec (get_or links (x - 1) 0 ≡ 0) → get_or links (x - 1) 0 < x
      below (yes q) = omega (arith, ne)
      below (no n) = omega (arith, (L.is n).0, ne)

      before : (g : ℕ) → Alike cells class from (get_or firsts g 0) r → g < x → Dec (g ≡ x - 1) → g < x - 1
      before g s l (yes q) = absurd (other (subst (λ (h : ℕ). Alike cells class from (get_or firsts h 0) r) q s))
      before g s l (no q) = omega arith

-- ---- a group more

module _ {cells class bytes firsts heads links : List ℕ} {from groups k : ℕ} (r : ℕ) (B : Book cells class bytes firsts heads links from groups) (few : groups < length class)
    (lk : k < buckets) (e : k ≡ bucket_of cells class from bytes r) where
  still : (g : ℕ) → g < groups → bucket_at cells class from bytes (set firsts groups r) g ≡ bucket_at cells class from bytes firsts g
  still g l = ap (bucket_of cells class from bytes) (get_or-set_other firsts groups g r 0 (omega arith))

  own : bucket_at cells class from bytes (set firsts groups r) groups ≡ k
  own = ap (bucket_of cells class from bytes) (get_or-set_same firsts groups r 0 (omega (arith, B.firsts-long))) ∙ sym e

  book-more : Book cells class bytes (set firsts groups r) (set heads k (groups + 1)) (set links groups (get_or heads k 0)) from (groups + 1)
  book-more = record {
    heads-long = length-set heads k (groups + 1) ∙ B.heads-long;
    firsts-long = length-set firsts groups r ∙ B.firsts-long;
    links-long = length-set links groups (get_or heads k 0) ∙ B.links-long;
    latest = λ j l. rw own at (ends_more still heads (omega (arith, own, B.heads-long)) B.latest j l);
    linked = linked-more still links (omega (arith, B.links-long)) B.linked (rw own (B.latest k lk));
  }

book-none : {cells class bytes firsts links : List ℕ} {from : ℕ} → length firsts ≡ length class → length links ≡ length class → Book cells class bytes firsts (replicate buckets 0) links from 0
book-none long-f long-l = record {
  heads-long = length-replicate {A = ℕ} buckets 0;
  firsts-long = long-f;
  links-long = long-l;
  latest = λ k l. record { most = λ i h. absurd (omega arith); is = λ n. absurd (n (get_or-replicate {A = ℕ} buckets k 0 0 l)) };
  linked = λ i l. absurd (omega arith);
}

-- ---- what rows in groups say

-- lists for the rows of the classes
pub record Lists (class seen prior last : List ℕ) : Type 0 where
  pub few : length class ≤ rows_most
  pub seen-long : length seen ≡ length class
  pub prior-long : length prior ≡ length class
  pub last-long : length last ≡ length class

module _ {cells class bytes seen prior last firsts heads links : List ℕ} {from count groups r : ℕ} (F : Filed cells class bytes seen prior last firsts heads links from count groups r) where
  filed-few : (groups ≤ count) × (count ≤ r)
  filed-few = (F.labelled.few, count-below F.labelled r F.before)

  -- there is room for row r, and for a group more
  pub filed-room : Lists class seen prior last → r < length class
      → (count < length seen) × (count < length prior) × (groups < length last) × (groups < length firsts) × (groups < length links) × (count < rows_most) × (r < rows_most)
  filed-room T l = (
    omega (arith, filed-few, T.seen-long),
    omega (arith, filed-few, T.prior-long),
    omega (arith, filed-few, T.last-long),
    omega (arith, filed-few, F.book.firsts-long),
    omega (arith, filed-few, F.book.links-long),
    omega (arith, filed-few, T.few),
    omega (arith, T.few),
  )

pub lists-in : {keys : Keys} {groups : Groups} {b : Buckets} {r : ℕ} → Filed_in keys groups b r → Lists keys.class.now groups.seen.now groups.prior.now groups.last.now
lists-in {keys} F = record { few = keys.rows.few; seen-long = F.room.seen-long; prior-long = F.room.prior-long; last-long = F.room.last-long }

pub room-in : {keys : Keys} {groups : Groups} {b : Buckets} {r : ℕ} → Filed_in keys groups b r → r < length keys.class.now
    → (b.rows < length groups.seen.now) × (b.rows < length groups.prior.now) × (b.many < length groups.last.now) × (b.many < length b.firsts.now) × (b.many < length b.links.now)
    × (b.rows < rows_most) × (r < rows_most)
room-in F l = filed-room F.filed (lists-in F) l

-- ---- a row more

module _ {cells class bytes seen prior last firsts heads links : List ℕ} {from count groups r : ℕ} (F : Filed cells class bytes seen prior last firsts heads links from count groups r)
    (T : Lists class seen prior last) (lr : r < length class) (busy : Idle cells class from r → ⊥) where
  few : groups < length class
  few = omega (arith, filed-few F)

  free : get_or F.label r 0 ≡ length class
  free = ⊎_elim (λ s. absurd (omega (arith, F.before s.0 s.1, s.2))) (λ e. e) (F.labelled.others r lr)

  label-new : (g : ℕ) → get_or (set F.label r g) r 0 ≡ g
  label-new g = get_or-set_same F.label r g 0 (omega (arith, F.labelled.label-long))

  label-old : (g i : ℕ) → i ≢ r → get_or (set F.label r g) i 0 ≡ get_or F.label i 0
  label-old g i ne = get_or-set_other F.label r i g 0 ne

  before : (i : ℕ) → i < count + 1 → get_or (set seen count r) i 0 < r + 1
  before = below_more (λ i. get_or (set seen count r) i 0 < r + 1) count (λ i l. omega (arith, get_or-set_other seen count i r 0 (omega arith), F.before i l))
      (omega (arith, get_or-set_same seen count r 0 (filed-room F T lr).0))

  other-first : (g : ℕ) → g < groups → get_or firsts g 0 ≢ r
  other-first g l e = omega (arith, ap (λ (x : ℕ). get_or F.label x 0) e, F.first-own g l, free, few)

  -- in group g, whose first row goes as row r
  pub filed-joined : {g : ℕ} → g < groups → Alike cells class from (get_or firsts g 0) r
      → Filed cells class bytes (set seen count r) (set prior count (get_or last g 0)) (set last g (count + 1)) firsts heads links from (count + 1) groups (r + 1)
  filed-joined {g} lg s = record {
    label = set F.label r g;
    labelled = joined F.labelled lr F.before (filed-room F T lr).0 (filed-room F T lr).1 lg one;
    before = before;
    book = F.book;
    first-in = F.first-in;
    first-own = λ h l. label-old g (get_or firsts h 0) (other-first h l) ∙ F.first-own h l;
    same = λ i li l. same i li l (ℕ_discrete i r);
    one = F.one;
    busy = λ i li l. busy-all i li l (ℕ_discrete i r);
  }
    where
      one : (i : ℕ) → i < length class → get_or F.label i 0 ≡ g → get_or class i 0 ≡ get_or class r 0
      one i li e = sym (F.same i li (omega arith)).together ∙ ap (λ (h : ℕ). get_or class (get_or firsts h 0) 0) e ∙ s.together

      same : (i : ℕ) → i < length class → get_or (set F.label r g) i 0 < groups → Dec (i ≡ r) → Alike cells class from (get_or firsts (get_or (set F.label r g) i 0) 0) i
      same i li l (yes e) = rw (e, label-new g) s
      same i li l (no ne) = rw (label-old g i ne) (F.same i li (omega (arith, label-old g i ne)))

      busy-all : (i : ℕ) → i < length class → get_or (set F.label r g) i 0 < groups → Dec (i ≡ r) → Idle cells class from i → ⊥
      busy-all i li l (yes e) = rw e busy
      busy-all i li l (no ne) = F.busy i li (omega (arith, label-old g i ne))

  -- in a new group
  pub filed-opened : {k : ℕ} → k < buckets → k ≡ bucket_of cells class from bytes r → ((h : ℕ) → h < groups → Alike cells class from (get_or firsts h 0) r → ⊥)
      → Filed cells class bytes (set seen count r) (set prior count (get_or (set last groups 0) groups 0)) (set (set last groups 0) groups (count + 1))
      (set firsts groups r) (set heads k (groups + 1)) (set links groups (get_or heads k 0)) from (count + 1) (groups + 1) (r + 1)
  filed-opened {k} lk e alone = record {
    label = set F.label r groups;
    labelled = opened F.labelled lr F.before (filed-room F T lr).0 (filed-room F T lr).1 (filed-room F T lr).2;
    before = before;
    book = book-more r F.book few lk e;
    first-in = below_more (λ g. get_or (set firsts groups r) g 0 < length class) groups (λ g l. omega (arith, first-old g l, F.first-in g l)) (omega (arith, first-new));
    first-own = below_more (λ g. get_or (set F.label r groups) (get_or (set firsts groups r) g 0) 0 ≡ g) groups
        (λ g l. rw (first-old g l) (label-old groups (get_or firsts g 0) (other-first g l) ∙ F.first-own g l)) (rw first-new (label-new groups));
    same = λ i li l. same i li l (ℕ_discrete i r);
    one = λ g h lg lh s. one g h lg lh s (ℕ_discrete g groups) (ℕ_discrete h groups);
    busy = λ i li l. busy-all i li l (ℕ_discrete i r);
  }
    where
      first-new : get_or (set firsts groups r) groups 0 ≡ r
      first-new = get_or-set_same firsts groups r 0 (filed-room F T lr).3

      first-old : (g : ℕ) → g < groups → get_or (set firsts groups r) g 0 ≡ get_or firsts g 0
      first-old g l = get_or-set_other firsts groups g r 0 (omega arith)

      low : (i : ℕ) → i < length class → i ≢ r → get_or (set F.label r groups) i 0 < groups + 1 → get_or F.label i 0 < groups
      low i li ne l = ⊎_elim (λ m. m) (λ e. absurd (omega (arith, label-old groups i ne, few))) (label-cases F.labelled i li)

      same : (i : ℕ) → i < length class → get_or (set F.label r groups) i 0 < groups + 1 → Dec (i ≡ r)
          → Alike cells class from (get_or (set firsts groups r) (get_or (set F.label r groups) i 0) 0) i
      same i li l (yes e) = rw (e, label-new groups, first-new) (alike_refl r)
      same i li l (no ne) = rw (label-old groups i ne, first-old (get_or F.label i 0) (low i li ne l)) (F.same i li (low i li ne l))

      one : (g h : ℕ) → g < groups + 1 → h < groups + 1 → Alike cells class from (get_or (set firsts groups r) g 0) (get_or (set firsts groups r) h 0) → Dec (g ≡ groups) → Dec (h ≡ groups) → g ≡ h
      one g h lg lh s (yes p) (yes q) = omega arith
      one g h lg lh s (yes p) (no q) = absurd (alone h (omega arith) (alike-sym (rw (p, first-new, first-old h (omega arith)) at s)))
      one g h lg lh s (no p) (yes q) = absurd (alone g (omega arith) (rw (q, first-new, first-old g (omega arith)) at s))
      one g h lg lh s (no p) (no q) = F.one g h (omega arith) (omega arith) (rw (first-old g (omega arith), first-old h (omega arith)) at s)

      busy-all : (i : ℕ) → i < length class → get_or (set F.label r groups) i 0 < groups + 1 → Dec (i ≡ r) → Idle cells class from i → ⊥
      busy-all i li l (yes e) = rw e busy
      busy-all i li l (no ne) = F.busy i li (low i li ne l)

-- ---- rows that are passed by

module _ {cells class start end seen : List ℕ} {from count r : ℕ} (P : Passed cells class start end seen from count r) where
  pub passed-put : count < length seen → Passed cells class start end (set seen count r) from (count + 1) (r + 1)
  passed-put room = record { rest = λ i l li none. rest i l li none (ℕ_discrete i r) }
    where
      rest : (i : ℕ) → i < r + 1 → i < length class → ((x : ℕ) → x < count + 1 → get_or (set seen count r) x 0 ≢ i) → Dec (i ≡ r) → Idle cells class from i ⊎ Single start end (get_or class i 0)
      rest i l li none (yes e) = absurd (none count (omega arith) (get_or-set_same seen count r 0 room ∙ sym e))
      rest i l li none (no ne) = P.rest i (omega arith) li (λ x lx e. none x (omega arith) (get_or-set_other seen count x r 0 (omega arith) ∙ e))

  -- none of the rows from r to p has to be in a group
  pub passed_to : (p : ℕ) → ((i : ℕ) → r ≤ i → i < p → i < length class → Idle cells class from i ⊎ Single start end (get_or class i 0)) → Passed cells class start end seen from count p
  passed_to p by = record { rest = λ i l li none. rest i l li none (dec_lt i r) }
    where
      rest : (i : ℕ) → i < p → i < length class → ((x : ℕ) → x < count → get_or seen x 0 ≢ i) → Dec (i < r) → Idle cells class from i ⊎ Single start end (get_or class i 0)
      rest i l li none (yes m) = P.rest i m li none
      rest i l li none (no m) = by i (omega arith) l li

-- row r is passed by
pub passed_by : {cells class start end seen : List ℕ} {from count r : ℕ} → Passed cells class start end seen from count r → Idle cells class from r ⊎ Single start end (get_or class r 0)
    → Passed cells class start end seen from count (r + 1)
passed_by {cells} {class} {start} {end} {seen} {from} {count} {r} P by =
    passed_to P (r + 1) (λ i l m li. subst (λ (x : ℕ). Idle cells class from x ⊎ Single start end (get_or class x 0)) (omega arith) by)

-- rows that are not touched are passed over
pub passed_over : {cells class start end seen set touched : List ℕ} {from count r n to : ℕ} → Passed cells class start end seen from count r → Touches cells class touched from → set ≡ touched
    → NoneTo set r n to → Passed cells class start end seen from count to
passed_over {to = to} P T e N = passed_to P to (λ i l m li. inl (T i li (ap (λ (ws : List ℕ). member ws i) (sym e) ∙ N.none i l m)))

pub passed_none : {cells start end seen : List ℕ} {from : ℕ} (class : List ℕ) → Passed cells class start end seen from 0 0
passed_none class = record { rest = λ i l. absurd (omega arith) }

pub filed-later : {cells class bytes seen prior last firsts heads links : List ℕ} {from count groups r : ℕ} → Filed cells class bytes seen prior last firsts heads links from count groups r
    → (p : ℕ) → r ≤ p → Filed cells class bytes seen prior last firsts heads links from count groups p
filed-later F p l = record {
  label = F.label;
  labelled = F.labelled;
  before = λ i li. omega (arith, F.before i li);
  book = F.book;
  first-in = F.first-in;
  first-own = F.first-own;
  same = F.same;
  one = F.one;
  busy = F.busy;
}

pub filed-none : {cells class bytes seen prior last firsts links : List ℕ} {from : ℕ} → length firsts ≡ length class → length links ≡ length class
    → Filed cells class bytes seen prior last firsts (replicate buckets 0) links from 0 0 0
filed-none {cells} {class} {bytes} {seen} {prior} {last} {firsts} {links} {from} long-f long-l = record {
  label = replicate (length class) (length class);
  labelled = labels-none class seen prior last (length class);
  before = λ i l. absurd (omega arith);
  book = book-none long-f long-l;
  first-in = λ g l. absurd (omega arith);
  first-own = λ g l. absurd (omega arith);
  same = λ i li l. absurd (omega arith);
  one = λ g h l. absurd (omega arith);
  busy = λ i li l. absurd (omega arith);
}

-- ---- when every row is passed

pub sorted_all : {cells class bytes start end seen prior last firsts heads links : List ℕ} {from count groups r : ℕ} → length class ≤ r
    → Filed cells class bytes seen prior last firsts heads links from count groups r → Passed cells class start end seen from count r → Sorted cells class start end seen prior last from groups
sorted_all {cells} {class} {bytes} {start} {end} {seen} {prior} {last} {firsts} {heads} {links} {from} {count} {groups} {r} m F P = record {
  label = F.label;
  count = count;
  labelled = F.labelled;
  same = λ i j li lj l e. alike-trans (alike-sym (F.same i li l)) (subst (λ (g : ℕ). Alike cells class from (get_or firsts g 0) j) (sym e) (F.same j lj (omega arith)));
  differ = λ i j li lj l k s. F.one (get_or F.label i 0) (get_or F.label j 0) l k (alike-trans (F.same i li l) (alike-trans s (alike-sym (F.same j lj k))));
  busy = F.busy;
  rest = λ i li e. P.rest i (omega arith) li (λ x lx q. omega (arith, F.labelled.low x lx, ap (λ (y : ℕ). get_or F.label y 0) q, e, F.labelled.few, count_fits F.labelled));
}
