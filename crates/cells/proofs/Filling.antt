-- A row filled run by run.
use mathlib.Core.Path.{◌≡◌, refl, sym, ap, ◌∙◌, subst}
use mathlib.Core.Logic.{◌≢◌, inl, inr, ⊎_elim}
use mathlib.Core.Bool.{Bool, true, ◌&&◌}
use mathlib.Core.List.{List, ◌∷◌}
use Prim.Native.Nat.{ℕ, zero, suc, ◌+◌, ◌-◌, ◌≤◌, ◌<◌}
use native.Mathlib.Decide.{dec_lt}
use native.Mathlib.Omega.{arith}
use lib.Dec.{T}
use lib.ListN.{length, get_or, take, replicate, length-replicate, get_or-replicate, get_or-eq_default}
use Rattle.rules.specs.Tools.{has, same}
use Rattle.rules.specs.Sizes.{words_a_row}
use Rattle.rules.specs.Tree.{Tree}
use Rattle.rules.specs.SetRows.{machine, row_at, set_rows, row_count}
use Rattle.rules.proofs.Tests.{is_true, both_left, both_right, both}
use Rattle.rules.proofs.Lists.{same-eq}
use Rattle.mixing.specs.Mixing.{buckets}
use Rattle.cells.specs.Taken.{Taken}
use Rattle.nodesets.specs.NodeSets.{mask_of, row_words, meets, Within}
use Rattle.known.specs.Known.{Unknown, Book, RowOf, TookIn}
use Rattle.runs.specs.Runs.{Starts, InRun}
use Rattle.cells.specs.Cells.{place_of, Going, taken_at, put_run, MasksUnder, RowsUnder, TakenBefore, AtRow, FilledTo}
use Rattle.nodesets.proofs.NodeSetLaws.{meets-has, length_meets, meets-within}
use Rattle.known.proofs.Buckets.{empty-known}
use Rattle.sets.proofs.Parts.{put-length, put-below, put-at}
use Rattle.cells.proofs.InOrder.{run-same, going-fresh, going_on, going-took}

-- on the bytes of a run, the nodes of the row that are in the run's mask are taken
taken-run : {X : Tree} {set starts masks : List ℕ} {runs : ℕ} {sets : List ℕ} {c q : ℕ} (k b : ℕ) → AtRow X (length set) set starts masks runs sets c q → k < runs → InRun starts k b
    → Taken (machine X) (row_at (set_rows (machine X)) q) b (mask_of (meets set (row_words (length set) masks k)))
taken-run {set = set} {masks = masks} k b R l in-run = record {
  just = λ u. (
    (λ h. let g : T (has (mask_of set) u && has (mask_of (row_words (length set) masks k)) u) = subst T (meets-has set (row_words (length set) masks k) u) h in (
      rw R.nodes (both_left (has (mask_of set) u) (has (mask_of (row_words (length set) masks k)) u) g),
      ((R.masked k b l in-run).just u).0 (both_right (has (mask_of set) u) (has (mask_of (row_words (length set) masks k)) u) g),
    )),
    λ h. subst T (sym (meets-has set (row_words (length set) masks k) u))
        (both (has (mask_of set) u) (has (mask_of (row_words (length set) masks k)) u) (rw R.nodes at h.0) (((R.masked k b l in-run).just u).1 h.1)),
  );
}

-- ---- what was taken before

zero-at : (n j : ℕ) → ◌≡◌ {A = ℕ} (get_or (replicate n 0) j 0) 0
zero-at n j = go (dec_lt j n)
  where
    go : Dec (j < n) → ◌≡◌ {A = ℕ} (get_or (replicate n 0) j 0) 0
    go (yes l) = get_or-replicate n j 0 0 l
    go (no m) = get_or-eq_default (replicate n 0) 0 {n = j} (omega (arith, length-replicate {A = ℕ} n 0))

pub zeros-front : (n m : ℕ) → n ≤ m → ◌≡◌ {A = List ℕ} (take n (replicate m 0)) (replicate n 0)
zeros-front zero m l = refl
zeros-front (suc n) zero l = absurd (omega arith)
zeros-front (suc n) (suc m) l = ap {B = List ℕ} (λ xs. 0 ∷ xs) (zeros-front n m (omega arith))

-- at first the empty set
pub taken-first : {from to room : ℕ} {set taken sets heads nexts : List ℕ} {c : ℕ} → taken ≡ replicate (length set) 0 → length set ≤ words_a_row → Within from to set
    → Book (length set) room sets heads nexts c → TakenBefore from to (length set) sets c taken (get_or heads buckets 0)
taken-first {room = room} {set} {taken} {sets} {heads} {nexts} {c} e short W B = record {
  long = long;
  within = record { low = W.low; high = omega (arith, W.high, long); before = λ i l. none i; after = λ i l. none i };
  row = subst (λ (w : ℕ). RowOf w sets c taken (get_or heads buckets 0)) long (empty-known taken (subst (λ (w : ℕ). Book w room sets heads nexts c) (sym long) B) (omega (arith, long)) none);
}
  where
    long : length taken ≡ length set
    long = ap length e ∙ length-replicate {A = ℕ} (length set) 0

    none : (j : ℕ) → get_or taken j 0 ≡ 0
    none j = rw e (zero-at (length set) j)

-- the same again
pub taken-again : {w room from to : ℕ} {sets heads nexts taken new : List ℕ} {c r : ℕ} {b : Bool} → Book w room sets heads nexts c → TakenBefore from to w sets c taken r → r ≢ 0
    → b ≡ same taken new → b ≡ true → TookIn w room sets c new sets heads nexts r c
taken-again {taken = taken} {new} B K ne e t = ⊎_elim (λ z. absurd (ne z)) (λ h. record {
  book = B;
  long = refl;
  row = (h.0, h.1);
  here = h.2 ∙ same-eq taken new (is_true _ (sym e ∙ t));
  kept = λ i l. refl;
  grown = inl refl;
}) K.row

-- after a run
pub taken_more : (set mask : List ℕ) {from to room : ℕ} {sets taken new heads nexts : List ℕ} {c d r : ℕ} → length mask ≡ length set → Within from to set → taken ≡ meets set mask
    → TookIn (length set) room sets c taken new heads nexts r d → TakenBefore from to (length set) new d taken r
taken_more set mask l W e K = record {
  long = ap length e ∙ length_meets set mask l;
  within = rw e (meets-within set mask l W);
  row = inr (K.row.0, K.row.1, K.here);
}

-- ---- run by run

module _ {room : ℕ} {set starts masks : List ℕ} {runs : ℕ} {sets : List ℕ} {c : ℕ} where
  pub filled_none : {heads nexts row : List ℕ} {b : ℕ} → b ≡ 0 → Book (length set) room sets heads nexts c → FilledTo room set starts masks runs sets c sets heads nexts row c b
  filled_none e B = rw e (record {
    book = B;
    long = refl;
    more = omega arith;
    under = λ top m r. r;
    goes = λ X q R. R.going;
    cells = λ X q R a l. absurd (omega arith);
  })

  module _ {new heads nexts row : List ℕ} {d k : ℕ} (S : Starts starts runs) (l : k < runs) (F : FilledTo room set starts masks runs sets c new heads nexts row d (get_or starts k 0)) where
    in-run : InRun starts k (get_or starts k 0)
    in-run = (omega arith, (S.rises k l).0)

    -- no room for what is taken
    pub filled-over : (d ≡ room) × Unknown (length set) new d (meets set (row_words (length set) masks k))
        → (X : Tree) (q : ℕ) → AtRow X (length set) set starts masks runs sets c q → room < row_count X
    unfolding row_count
    filled-over h X q R = omega (
      arith,
      h.0,
      (going-fresh X (F.goes X q R) (omega (arith, R.low, F.more)) (omega (arith, S.rises k l)) (taken-run k (get_or starts k 0) R l in-run)
          h.1).1,
    )

    pub filled_more : {new' heads' nexts' row' : List ℕ} {r d' : ℕ} → length row ≡ 256 → TookIn (length set) room new d (meets set (row_words (length set) masks k)) new' heads' nexts' r d'
        → row' ≡ put_run row (get_or starts k 0) (get_or starts (k + 1) 0) r → (length row' ≡ 256) × FilledTo room set starts masks runs sets c new' heads' nexts' row' d' (get_or starts (k + 1) 0)
    filled_more {new'} {heads'} {nexts'} {row'} {r} {d'} long K f = (
      ap length f ∙ put-length row ys from size ys-long fits ∙ long,
      record {
        book = K.book;
        long = K.long ∙ F.long;
        more = omega (arith, F.more, grown);
        under = λ top m u i v li ld h. low top m u i v li ld h (dec_lt i d);
        goes = λ X q R. let g : Going (machine X) (taken_at (length set) new') d' q from = (step X q R).0 in
            going_on X g (λ a x y. taken-run k a R l (x, y)) (omega (arith, (step X q R).1, K.row.1)) (S.rises k l).0;
        cells = λ X q R a la. ap (λ (zs : List ℕ). get_or zs a 0) f ∙ cell X q R a la (dec_lt a from);
      },
    )
      where
        from : ℕ
        from = get_or starts k 0

        size : ℕ
        size = get_or starts (k + 1) 0 - get_or starts k 0

        grown : d ≤ d'
        grown = ⊎_elim (λ x. omega arith) (λ x. omega (arith, x.0)) K.grown

        -- what is taken in has the row r
        step : (X : Tree) (q : ℕ) → AtRow X (length set) set starts masks runs sets c q → Going (machine X) (taken_at (length set) new') d' q from × (place_of (machine X) q from ≡ r)
        step X q R = going-took X K (F.goes X q R) (omega (arith, R.low, F.more)) (omega (arith, S.rises k l)) (taken-run k from R l in-run)

        low : (top : ℕ) → MasksUnder top (length set) masks runs → RowsUnder top (length set) sets c → (i v : ℕ) → 2 ≤ i → i < d' → T (has (taken_at (length set) new' i) v)
            → Dec (i < d) → v < top
        low top m u i v li ld h (yes x) = F.under top m u i v li x (subst (λ (ws : List ℕ). T (has (mask_of ws) v)) (K.kept i x) h)
        low top m u i v li ld h (no x) = ⊎_elim (λ y. absurd (omega arith)) (λ y. m k v l (both_right (has (mask_of set) v) (has (mask_of mask) v) (subst T (meets-has set mask v)
            (subst (λ (ws : List ℕ). T (has (mask_of ws) v)) (ap (row_words (length set) new') (is_last y) ∙ K.here) h)))) K.grown
          where
            mask : List ℕ
            mask = row_words (length set) masks k

            is_last : (d' ≡ suc d) × (r ≡ d) × Unknown (length set) new d (meets set (row_words (length set) masks k)) → i ≡ r
            is_last y = omega (arith, y.0, y.1)

        ys : List ℕ
        ys = replicate size r

        ys-long : length ys ≡ size
        ys-long = length-replicate size r

        fits : from + size ≤ length row
        fits = omega (arith, S.rises k l)

        cell : (X : Tree) (q : ℕ) → AtRow X (length set) set starts masks runs sets c q → (a : ℕ) → a < get_or starts (k + 1) 0 → Dec (a < from)
            → get_or (put_run row from (get_or starts (k + 1) 0) r) a 0 ≡ place_of (machine X) q a
        cell X q R a la (yes x) = put-below row ys from size ys-long fits a x ∙ F.cells X q R a x
        cell X q R a la (no x) = ap (λ (j : ℕ). get_or (put_run row from (get_or starts (k + 1) 0) r) j 0) past ∙ put-at row ys from size ys-long fits (a - from) (omega arith)
            ∙ get_or-replicate size (a - from) r 0 (omega arith) ∙ sym (step X q R).1
            ∙ run-same X q from a (taken-run k from R l in-run) (taken-run k a R l (omega arith, la))
          where
            past : a ≡ from + (a - from)
            past = omega arith
