-- The masks of the runs: sets in rows of words, into which nodes are put.
use mathlib.Core.Path.{◌≡◌, refl, sym, ap, ap₂, ◌∙◌, subst}
use mathlib.Core.Logic.{◌≢◌, ◌↔◌, ⊎_elim}
use mathlib.Core.Bool.{Bool, true, false}
use mathlib.Core.List.{List}
use Prim.Native.Nat.{ℕ, ◌+◌, ◌*◌, ◌-◌, ◌/◌, ◌%◌, ◌≤◌, ◌<◌}
use native.Mathlib.Decide.{ℕ_discrete, dec_lt}
use native.Mathlib.Omega.{arith}
use borrow.Author.Count.{below_more}
use borrow.Rule.Slice.PartMut.{put_mid}
use lib.Dec.{T}
use lib.ListN.{length, get_or, take, drop, replicate, length-take, get_or-eq_default}
use lib.Seq.{get_or-take, get_or-drop}
use Rattle.rules.specs.Tools.{has, with}
use Rattle.rules.specs.Sizes.{words_a_row}
use Rattle.rules.proofs.Tests.{by-test}
use Rattle.rules.proofs.Sets.{zero_has, with-has, with-keeps, with-only}
use Rattle.sets.specs.Sets.{member}
use Rattle.sets.proofs.SetLaws.{none_in}
use Rattle.program.specs.Program.{atom_bytes}
use Rattle.nodesets.specs.NodeSets.{mask_of, row_words}
use Rattle.runs.specs.Runs.{Starts, Crosses, PartedInto, Runs, PartedTo, Whole, mask_at, NodePut, MaskedTo}
use Rattle.nodesets.proofs.NodeSetLaws.{mask-has, part-size}
use Rattle.sets.proofs.Parts.{put-length, put-part, put-ahead, put-after}
use Rattle.runs.proofs.Parting.{alike}

-- ---- rows of words

module _ (w : ℕ) (words : List ℕ) (i v : ℕ) where
  row_has : v < 64 * w → has (mask_of (row_words w words i)) v ≡ member words (64 * (words_a_row * i) + v)
  unfolding member
  row_has l = mask-has (row_words w words i) v
      ∙ ap (λ (z : ℕ). has z (v % 64)) (get_or-take w (drop (words_a_row * i) words) (v / 64) 0 (omega arith) ∙ get_or-drop (words_a_row * i) words (v / 64) 0)
      ∙ ap₂ (λ (j k : ℕ). has (get_or words j 0) k) word bit
    where
      word : words_a_row * i + v / 64 ≡ (64 * (words_a_row * i) + v) / 64
      word = omega arith

      bit : v % 64 ≡ (64 * (words_a_row * i) + v) % 64
      bit = omega arith

  row_within : T (has (mask_of (row_words w words i)) v) → v < 64 * w
  unfolding member
  row_within h = go (dec_lt v (64 * w))
    where
      go : Dec (v < 64 * w) → v < 64 * w
      go (yes l) = l
      go (no n) = absurd (zero_has (v % 64) (subst (λ (z : ℕ). T (has z (v % 64)))
          (get_or-eq_default (row_words w words i) 0 {n = v / 64} (omega (arith, length-take w (drop (words_a_row * i) words)))) (subst T (mask-has (row_words w words i) v) h)))

-- so many words of a row hold what they have room for
pub row-narrow : (w : ℕ) (masks : List ℕ) (k u : ℕ) → w ≤ words_a_row → T (has (mask_of (row_words w masks k)) u) ↔ ((u < 64 * w) × T (has (mask_at masks k) u))
row-narrow w masks k u l = (
  (λ h. (row_within w masks k u h, subst T (both (row_within w masks k u h)) h)),
  λ h. subst T (sym (both h.0)) h.1,
)
  where
    both : u < 64 * w → has (mask_of (row_words w masks k)) u ≡ has (mask_at masks k) u
    both h = row_has w masks k u h ∙ sym (row_has words_a_row masks k u (omega arith))

-- words of 0 hold nothing
row_zero : (n k u : ℕ) → T (has (mask_at (replicate n 0) k) u) → ⊥
row_zero n k u h = subst T (row_has words_a_row (replicate n 0) k u (row_within words_a_row (replicate n 0) k u h) ∙ none_in n (64 * (words_a_row * k) + u)) h

-- ---- a node put into the masks of runs

-- into those before run k, where the others are as they were
pub record Putting (old new : List ℕ) (B u : ℕ) (starts : List ℕ) (k : ℕ) : Type 0 where
  pub put : NodePut old new B u starts k
  pub rest : (i : ℕ) → k ≤ i → i < 256 → mask_at new i ≡ mask_at old i

module _ {old new : List ℕ} {B u : ℕ} {starts : List ℕ} {k : ℕ} (P : Putting old new B u starts k) (l : k < 256) where
  -- mask k becomes what it is to be
  abbrev Set : List ℕ → Type 0
  Set masks = mask_at masks k ≡ elim (has B (get_or starts k 0)) [ true ↦ with (mask_at new k) u | false ↦ mask_at new k ]

  putting-more : (newer : List ℕ) → length newer ≡ length new → ((i : ℕ) → i ≢ k → i < 256 → mask_at newer i ≡ mask_at new i) → Set newer → Putting old newer B u starts (k + 1)
  putting-more newer long other here = record {
    put = record {
      long = long ∙ P.put.long;
      masks = below_more (λ i. mask_at newer i ≡ elim (has B (get_or starts i 0)) [ true ↦ with (mask_at old i) u | false ↦ mask_at old i ]) k
          (λ i li. other i (omega arith) (omega arith) ∙ P.put.masks i li)
          (here ∙ ap (λ (m : ℕ). elim (has B (get_or starts k 0)) [ true ↦ with m u | false ↦ m ]) (P.rest k (omega arith) l));
    };
    rest = λ i li hi. other i (omega arith) hi ∙ P.rest i (omega arith) hi;
  }

  pub putting-out : has B (get_or starts k 0) ≡ false → Putting old new B u starts (k + 1)
  putting-out e = putting-more new refl (λ i n h. refl) (sym (ap (λ (b : Bool). elim b [ true ↦ with (mask_at new k) u | false ↦ mask_at new k ]) e))

  pub putting-in : (words : List ℕ) → has B (get_or starts k 0) ≡ true → words_a_row * k + words_a_row ≤ length new → length words ≡ words_a_row
      → mask_of words ≡ with (mask_of (take (words_a_row * k + words_a_row - words_a_row * k) (drop (words_a_row * k) new))) u
      → Putting old (put_mid (words_a_row * k) (words_a_row * k + words_a_row - words_a_row * k) new words) B u starts (k + 1)
  putting-in words e fits long m = rw size (putting-more (put_mid at words_a_row new words) (put-length new words at words_a_row long fits) (λ i n h. ap mask_of (other i n (dec_lt i k)))
      (ap mask_of (put-part new words at words_a_row long fits) ∙ rw size at m ∙ sym (ap (λ (b : Bool). elim b [ true ↦ with (mask_at new k) u | false ↦ mask_at new k ]) e)))
    where
      at : ℕ
      at = words_a_row * k

      size : words_a_row * k + words_a_row - words_a_row * k ≡ words_a_row
      size = part-size (words_a_row * k) words_a_row

      other : (i : ℕ) → i ≢ k → Dec (i < k) → row_words words_a_row (put_mid at words_a_row new words) i ≡ row_words words_a_row new i
      other i n (yes h) = put-ahead new words at words_a_row long fits (words_a_row * i) words_a_row (omega arith)
      other i n (no h) = put-after new words at words_a_row long fits (words_a_row * i) words_a_row (omega arith)

-- ---- node after node

module _ (program kind atom starts : List ℕ) (runs : ℕ) where
  pub masked-none : {masks : List ℕ} (n : ℕ) → masks ≡ replicate n 0 → MaskedTo 0 program kind atom starts masks runs
  masked-none n e k u l = ((λ h. absurd (row_zero n k u (rw e at h))), λ h. absurd (omega (arith, h.0)))

  module _ (old : List ℕ) (n : ℕ) (M : MaskedTo n program kind atom starts old runs) where
    module _ (k u : ℕ) (l : k < runs) where
      abbrev Upto : Type 0
      Upto = (u < n + 1) × Crosses program kind atom (get_or starts k 0) u

      before : T (has (mask_at old k) u) → Upto
      before h = let g = (M k u l).0 h in (omega (arith, g.0), g.1)

      -- the edge of node n is not crossed
      not-here : (Crosses program kind atom (get_or starts k 0) n → ⊥) → T (has (mask_at old k) u) ↔ Upto
      not-here out = (before, λ h. (M k u l).1 (below h (ℕ_discrete u n), h.1))
        where
          below : Upto → Dec (u ≡ n) → u < n
          below h (yes e) = absurd (out (subst (Crosses program kind atom (get_or starts k 0)) e h.1))
          below h (no d) = omega (arith, h.0)

      here : Crosses program kind atom (get_or starts k 0) n → T (has (with (mask_at old k) n) u) ↔ Upto
      here c = ((λ h. ⊎_elim (λ e. rw e (omega arith, c)) before (with-only (mask_at old k) n u h)), λ h. back h (ℕ_discrete u n))
        where
          back : Upto → Dec (u ≡ n) → T (has (with (mask_at old k) n) u)
          back h (yes e) = rw e (with-has (mask_at old k) n)
          back h (no d) = with-keeps (mask_at old k) n u ((M k u l).1 (omega (arith, h.0), h.1))

    pub masked-out : get_or kind n 0 ≢ 4 → MaskedTo (n + 1) program kind atom starts old runs
    masked-out ne k u l = not-here k u l (λ c. ne c.1)

    pub masked-in : {new : List ℕ} {B : ℕ} → n < length kind → get_or kind n 0 ≡ 4 → B ≡ atom_bytes program (get_or atom n 0) → NodePut old new B n starts runs
        → MaskedTo (n + 1) program kind atom starts new runs
    masked-in {new} {B} ln e4 eB N k u l = subst (λ (m : ℕ). T (has m u) ↔ Upto k u l) (sym (N.masks k l))
        (by-test (has B (get_or starts k 0)) (λ b. T (has (elim b [ true ↦ with (mask_at old k) n | false ↦ mask_at old k ]) u) ↔ Upto k u l)
        (λ t. here k u l (ln, e4, rw eB at t)) (λ f. not-here k u l (λ c. f (rw eB c.2))))

-- ---- the masks hold for each byte of a run

pub parted-into : (parted : List ℕ) {program kind atom starts : List ℕ} {runs : ℕ} → Starts starts runs → Whole parted starts runs → PartedTo (length kind) program kind atom parted
    → PartedInto program kind atom starts runs
parted-into parted {program} {kind} {atom} S W P = record { are = S; alike = λ k b u lk i lu e. alike parted (atom_bytes program (get_or atom u 0)) S W (P u lu e) k b lk i }

pub runs-are : {program kind atom starts masks : List ℕ} {runs : ℕ} → PartedInto program kind atom starts runs → words_a_row * runs ≤ length masks
    → MaskedTo (length kind) program kind atom starts masks runs → Runs program kind atom starts masks runs
runs-are {masks = masks} P long M = record {
  are = P.are;
  long = long;
  masked = λ words k b u wide short lk i. (
    (λ h. let g = (M k u lk).0 ((row-narrow words masks k u short).0 h).1 in (g.1.0, g.1.1, subst T (P.alike k b u lk i g.1.0 g.1.1) g.1.2)),
    λ h. (row-narrow words masks k u short).1 (omega (arith, h.0), (M k u lk).1 (h.0, (h.0, h.1, subst T (sym (P.alike k b u lk i h.0 h.1)) h.2))),
  );
}
