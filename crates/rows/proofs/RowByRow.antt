-- Rows listed one after the other, from the first two to the last.
use mathlib.Core.Path.{◌≡◌, sym, ap, ◌∙◌}
use mathlib.Core.Logic.{inl, ⊎_elim}
use mathlib.Core.Bool.{false}
use mathlib.Core.List.{List}
use Prim.Native.Nat.{ℕ, suc, ◌+◌, ◌*◌, ◌-◌, ◌≤◌, ◌<◌, ◌^◌}
use native.Mathlib.Decide.{ℕ_discrete}
use native.Mathlib.Omega.{arith}
use borrow.Rule.Slice.PartMut.{put_mid}
use lib.Dec.{eqb}
use lib.ListN.{length, get_or, set, replicate, length-replicate, get_or-replicate}
use lib.Seq.{get_or-set_same, get_or-set_other}
use Rattle.rules.specs.Sizes.{rows_most, words_a_row}
use Rattle.rules.specs.Tree.{Tree}
use Rattle.rules.specs.SetRows.{crosses, SetRow, machine, row_at, set_rows, row_count, mark_of}
use Rattle.rules.specs.Compile.{Room, rows_for}
use Rattle.rules.proofs.SetRowsAll.{first_rows}
use Rattle.nodesets.specs.NodeSets.{mask_of}
use Rattle.closing.specs.Closing.{ways, Full, mark_by}
use Rattle.mixing.specs.Mixing.{buckets}
use Rattle.known.specs.Known.{Book}
use Rattle.rows.specs.Rows.{room as lent, RowsIn}
use Rattle.cells.specs.Cells.{place_of, taken_at, seeds_of, nodes_of, AtRow, FilledTo}
use Rattle.rows.specs.Listing.{Given, TreeOf, RoomFor, ListedTo}
use Rattle.sets.proofs.Parts.{put-below, put-at}
use Rattle.closing.proofs.Sweeps.{closing-full, closing-lt}
use Rattle.nodesets.proofs.NodeSetLaws.{next-lt}
use Rattle.cells.proofs.RowLaws.{seeds-lt}
use Rattle.cells.proofs.InOrder.{going_next, going_end}
use Rattle.rows.proofs.SameClosing.{row_same, mark-same}

-- ---- a row's nodes

module _ {kind to1 to2 starts masks : List ℕ} {runs words room : ℕ} {cells marks sets heads nexts : List ℕ} {c q : ℕ}
    (K : Given kind to1 to2 starts masks runs words) (L : ListedTo kind to1 to2 starts masks runs words room cells marks sets heads nexts c q) (lq : q < c) where
  -- the nodes after those that were taken are nodes
  pub taken-lt : 2 ≤ q → taken_at words sets q * 2 < 2 ^ length kind
  taken-lt h = next-lt (length kind) (taken_at words sets q) (λ v g. omega (arith, L.under q v h lq g, K.some))

  seeds-small : seeds_of (taken_at words sets) q < 2 ^ length kind
  seeds-small = seeds-lt (taken_at words sets) q (length kind) K.some taken-lt

  pub nodes-lt : nodes_of kind to1 to2 (taken_at words sets) q < 2 ^ length kind
  unfolding nodes_of
  nodes-lt = closing-lt (eqb q 1) false kind to1 to2 K.nodes (seeds_of (taken_at words sets) q) seeds-small

  pub nodes-full : Full (crosses (eqb q 1) false) (ways kind to1 to2) (nodes_of kind to1 to2 (taken_at words sets) q)
  unfolding nodes_of
  nodes-full = closing-full (eqb q 1) false kind to1 to2 K.nodes (seeds_of (taken_at words sets) q) seeds-small

  -- the row in the tree
  row_is : (X : Tree) → TreeOf kind to1 to2 starts masks runs words X → row_at (set_rows (machine X)) q ≡ record { is_head = eqb q 1; nodes = nodes_of kind to1 to2 (taken_at words sets) q }
  row_is X t = row_same X K.nodes t.hold q (L.going X t) lq seeds-small

-- ---- a row filled, where `nodes` are its nodes, in as many words as there were

module _ (nodes : List ℕ) {kind to1 to2 starts masks : List ℕ} {runs words room : ℕ} {cells marks sets heads nexts : List ℕ} {c q : ℕ} (same : length nodes ≡ words)
    (K₀ : Given kind to1 to2 starts masks runs words) (L₀ : ListedTo kind to1 to2 starts masks runs words room cells marks sets heads nexts c q) (lq : q < c)
    (e₀ : mask_of nodes ≡ nodes_of kind to1 to2 (taken_at words sets) q) where
  K : Given kind to1 to2 starts masks runs (length nodes)
  K = rw same K₀

  L : ListedTo kind to1 to2 starts masks runs (length nodes) room cells marks sets heads nexts c q
  L = rw same L₀

  e : mask_of nodes ≡ nodes_of kind to1 to2 (taken_at (length nodes) sets) q
  e = rw same e₀

  at_row : (X : Tree) → TreeOf kind to1 to2 starts masks runs (length nodes) X → AtRow X (length nodes) nodes starts masks runs sets c q
  at_row X t = record { low = lq; nodes = ap {B = ℕ} (λ (r : SetRow). r.nodes) (row_is K L lq X t) ∙ sym e; masked = t.masked; going = L.going X t }

  pub listed-full : ((X : Tree) (q : ℕ) → AtRow X (length nodes) nodes starts masks runs sets c q → room < row_count X)
      → (X : Tree) → TreeOf kind to1 to2 starts masks runs words X → room < row_count X
  listed-full full X t = full X q (at_row X (rw same t))

  pub listed_more : {new heads' nexts' row : List ℕ} {d m k : ℕ} → RoomFor room cells marks → FilledTo room nodes starts masks runs sets c new heads' nexts' row d 256 → length row ≡ 256 → k ≡ 256
      → m ≡ mark_by (eqb q 1) kind to1 to2 (mask_of nodes) (length kind - 1)
      → ListedTo kind to1 to2 starts masks runs words room (put_mid (256 * q) k cells row) (set marks q m) new heads' nexts' d (q + 1)
  listed_more {row = row} {m = m} R F long size mark = rw (size, sym same) (record {
    book = F.book;
    under = F.under (length kind - 1) K.under L.under;
    going = λ X t. going_next (F.goes X q (at_row X t));
    leads = λ X t p b lp lb. cell X t p b lp lb (ℕ_discrete p q);
    marked = λ X t p lp. mark-at X t p lp (ℕ_discrete p q);
  })
    where
      fits : 256 * q + 256 ≤ length cells
      fits = omega (arith, R.cells-long, L.book.fits)

      cell : (X : Tree) → TreeOf kind to1 to2 starts masks runs (length nodes) X → (p b : ℕ) → p < q + 1 → b < 256 → Dec (p ≡ q)
          → get_or (put_mid (256 * q) 256 cells row) (256 * p + b) 0 ≡ place_of (machine X) p b
      cell X t p b lp lb (yes x) = rw x (put-at cells row (256 * q) 256 long fits b lb ∙ F.cells X q (at_row X t) b lb)
      cell X t p b lp lb (no x) = put-below cells row (256 * q) 256 long fits (256 * p + b) (omega arith) ∙ L.leads X t p b (omega arith) lb

      mark-at : (X : Tree) → TreeOf kind to1 to2 starts masks runs (length nodes) X → (p : ℕ) → p < q + 1 → Dec (p ≡ q)
          → get_or (set marks q m) p 0 ≡ mark_of (machine X) (row_at (set_rows (machine X)) p)
      mark-at X t p lp (yes x) = rw x (get_or-set_same marks q m 0 (omega (arith, R.marks-long, L.book.fits)) ∙ mark
          ∙ ap (λ (z : ℕ). mark_by (eqb q 1) kind to1 to2 z (length kind - 1)) e ∙ mark-same X K.nodes t.hold (eqb q 1) (nodes_of kind to1 to2 (taken_at (length nodes) sets) q) (nodes-lt K L lq)
          ∙ ap (mark_of (machine X)) (sym (row_is K L lq X t)))
      mark-at X t p lp (no x) = get_or-set_other marks q p m 0 x ∙ L.marked X t p (omega arith)

-- ---- from start to end

-- the inside row and the head row are in no bucket
pub book-start : (w : ℕ) {room : ℕ} (sets : List ℕ) → 2 ≤ room → room ≤ rows_most → words_a_row * room ≤ length sets → Book w room sets (replicate (suc buckets) 0) (replicate rows_most 0) 2
book-start w sets two few long = record {
  two = omega arith;
  fits = two;
  few = few;
  long = long;
  heads-long = length-replicate {A = ℕ} (suc buckets) 0;
  nexts-long = length-replicate {A = ℕ} rows_most 0;
  firsts = λ k l. record { most = λ i x y. absurd (omega arith); is = inl (get_or-replicate (suc buckets) k 0 0 (omega arith)) };
  links = λ i x y. absurd (omega arith);
}

pub listed_start : {kind to1 to2 starts masks : List ℕ} {runs words room : ℕ} {cells marks sets heads nexts : List ℕ} → Book words room sets heads nexts 2
    → ListedTo kind to1 to2 starts masks runs words room cells marks sets heads nexts 2 0
listed_start B = record {
  book = B;
  under = λ i v x y. absurd (omega arith);
  going = λ X t. record { two = omega arith; within = (first_rows X).0; reached = λ i x y. absurd (omega arith); leads = λ p a la o. ⊎_elim (λ h. absurd (omega arith)) (λ h. absurd (omega arith)) o };
  leads = λ X t p b x. absurd (omega arith);
  marked = λ X t p x. absurd (omega arith);
}

-- each row that is listed is filled
pub listed-end : {kind to1 to2 starts masks : List ℕ} {runs words room : ℕ} {cells marks sets heads nexts : List ℕ} {c q : ℕ} {old : Room}
    → ListedTo kind to1 to2 starts masks runs words room cells marks sets heads nexts c q → c ≤ q → room ≡ rows_for old
    → (X : Tree) → TreeOf kind to1 to2 starts masks runs words X → RowsIn (machine X) old (lent cells marks sets) c
listed-end L l e X t = record {
  all = sym (going_end X (L.going X t) l);
  fits = omega (arith, L.book.fits, e);
  cells = λ p b lp lb. L.leads X t p b (omega arith) lb;
  marks = λ p lp. L.marked X t p (omega arith);
}
