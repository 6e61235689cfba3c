-- Searching a bucket.
use mathlib.Core.Path.{◌≡◌, refl, sym, ap, ◌∙◌}
use mathlib.Core.Logic.{◌≢◌, ◌⊎◌, inl, inr, ⊎_elim}
use mathlib.Core.Bool.{Bool, true, false}
use mathlib.Core.List.{List}
use Prim.Native.Nat.{ℕ, ◌+◌, ◌*◌, ◌-◌, ◌^◌, ◌≤◌, ◌<◌}
use native.Mathlib.Decide.{ℕ_discrete, dec_lt}
use native.Mathlib.Omega.{arith}
use borrow.Rule.Slice.PartMut.{put_mid}
use lib.ListN.{length, get_or, drop, length-take, get_or-eq_default}
use lib.Seq.{get_or-take, get_or-drop}
use Rattle.rules.specs.Tools.{same}
use Rattle.rules.specs.Sizes.{words_a_row}
use Rattle.rules.proofs.Tests.{is_true, is_false, by-test}
use Rattle.rules.proofs.Lists.{same-eq, same_refl}
use Rattle.mixing.specs.Mixing.{buckets}
use Rattle.nodesets.specs.NodeSets.{row_words}
use Rattle.known.specs.Known.{bucket_of, bucket_at, Greatest, Linked, Unknown, Book, RowOf, Stored, TookIn}
use Rattle.known.proofs.Mixed.{empty-same, bucket-empty}
use Rattle.nodesets.proofs.NodeSetLaws.{mask-told, part-size, row-long}
use Rattle.sets.proofs.Parts.{put-length, put-part, put-ahead}

-- ---- rows of set words

row_low : (w : ℕ) (sets : List ℕ) (i j : ℕ) → ((i : ℕ) → get_or sets i 0 < 2 ^ 64) → get_or (row_words w sets i) j 0 < 2 ^ 64
row_low w sets i j low = go (dec_lt j w)
  where
    go : Dec (j < w) → get_or (row_words w sets i) j 0 < 2 ^ 64
    go (yes l) = rw (get_or-take w (drop (words_a_row * i) sets) j 0 l, get_or-drop (words_a_row * i) sets j 0) (low (words_a_row * i + j))
    go (no n) = rw (get_or-eq_default (row_words w sets i) 0 {n = j} (omega (arith, length-take w (drop (words_a_row * i) sets)))) (omega arith)

-- row r of the set words replaced
pub store-row : {old words : List ℕ} (r : ℕ) {new : List ℕ} → length words ≤ words_a_row → words_a_row * r + words_a_row ≤ length old → new ≡ words
    → Stored (length words) old (put_mid (words_a_row * r) (words_a_row * r + length words - words_a_row * r) old new) r words
store-row {old} {words} r {new} short fits e = rw (e, part-size (words_a_row * r) (length words)) (record {
  long = put-length old words at_row (length words) refl (omega arith);
  here = put-part old words at_row (length words) refl (omega arith);
  kept = λ i l. put-ahead old words at_row (length words) refl (omega arith) (words_a_row * i) (length words) (omega arith);
})
  where
    at_row : ℕ
    at_row = words_a_row * r

-- ---- the search

-- what is sought is at row r of its bucket or below it, or nowhere
pub record Sought (sets words : List ℕ) (c r : ℕ) : Type 0 where
  pub is : (r ≡ 0) ⊎ ((2 ≤ r) × (r < c) × (bucket_at (length words) sets r ≡ bucket_of words))
  pub most : (i : ℕ) → 2 ≤ i → i < c → row_words (length words) sets i ≡ words → i ≤ r

module _ {sets words : List ℕ} {c r : ℕ} (S : Sought sets words c r) where
  pub sought-none : r ≡ 0 → words_a_row * c ≤ length sets → length words ≤ words_a_row → ((i : ℕ) → get_or sets i 0 < 2 ^ 64) → ((i : ℕ) → get_or words i 0 < 2 ^ 64)
      → Unknown (length words) sets c words
  sought-none e fits short low-sets low-words i l h q = omega (arith, S.most i l h told)
    where
      told : row_words (length words) sets i ≡ words
      told = mask-told (row_words (length words) sets i) words (row-long sets i (length words) (omega arith)) (λ j. row_low (length words) sets i j low-sets) low-words q

  -- a row, as long as it is not 0
  pub sought-row : r ≢ 0 → (2 ≤ r) × (r < c) × (bucket_at (length words) sets r ≡ bucket_of words)
  sought-row ne = ⊎_elim (λ e. absurd (ne e)) (λ h. h) S.is

  pub sought-next : {q : ℕ} (nexts : List ℕ) → Linked (length words) sets nexts c → r ≢ 0 → q ≡ get_or nexts r 0 → row_words (length words) sets r ≢ words
      → (q < r) × Sought sets words c q
  sought-next {q} nexts links ne e other = (
    below,
    record {
      is = ⊎_elim (λ z. inl (e ∙ z)) (λ z. inr (omega (arith, e, z.0), omega (arith, e, z.1, R.1), rw e (z.2 ∙ R.2))) G.is;
      most = λ i l h x. omega (arith, e, G.most i l (less i l h x (S.most i l h x)) (ap bucket_of x ∙ sym R.2));
    },
  )
    where
      R : (2 ≤ r) × (r < c) × (bucket_at (length words) sets r ≡ bucket_of words)
      R = sought-row ne

      G : Greatest (bucket_at (length words) sets) (bucket_at (length words) sets r) r (get_or nexts r 0)
      G = links r R.0 R.1

      below : q < r
      below = ⊎_elim (λ z. omega (arith, e, R.0)) (λ z. omega (arith, e, z.1)) G.is

      less : (i : ℕ) → 2 ≤ i → i < c → row_words (length words) sets i ≡ words → i ≤ r → i < r
      less i l h x m = go (ℕ_discrete i r)
        where
          go : Dec (i ≡ r) → i < r
          go (yes z) = absurd (other (ap (row_words (length words) sets) (sym z) ∙ x))
          go (no z) = omega arith

-- what comparing says of row r
pub sought-at : (sets : List ℕ) (r : ℕ) (words : List ℕ) {b : Bool} → b ≡ same (row_words (length words) sets r) words
    → (b ≡ true → row_words (length words) sets r ≡ words) × (b ≡ false → row_words (length words) sets r ≢ words)
sought-at sets r words {b} e = ((λ t. same-eq (row_words (length words) sets r) words (is_true _ (sym e ∙ t))), λ f q. is_false b f (rw (e, q) (same_refl words)))

-- one word that differs is enough
pub told-apart : (sets : List ℕ) (r : ℕ) (words : List ℕ) (i : ℕ) → i < length words → get_or sets (words_a_row * r + i) 0 ≢ get_or words i 0
    → false ≡ same (row_words (length words) sets r) words
told-apart sets r words i l ne = by-test (same (row_words (length words) sets r) words) (λ b. false ≡ b)
    (λ t. absurd (ne (sym word ∙ ap (λ (xs : List ℕ). get_or xs i 0) (same-eq (row_words (length words) sets r) words t)))) (λ f. refl)
  where
    word : get_or (row_words (length words) sets r) i 0 ≡ get_or sets (words_a_row * r + i) 0
    word = get_or-take (length words) (drop (words_a_row * r) sets) i 0 l ∙ get_or-drop (words_a_row * r) sets i 0

-- ---- the rows that there are

module _ (words : List ℕ) {room : ℕ} {sets heads nexts : List ℕ} {c : ℕ} (B : Book (length words) room sets heads nexts c) where
  -- the row of the empty set, as soon as there is one
  pub empty-row : {k : ℕ} → length words ≤ words_a_row → k ≡ buckets → k ≡ bucket_of words → get_or heads k 0 ≢ 0
      → (2 ≤ get_or heads k 0) × (get_or heads k 0 < c) × (row_words (length words) sets (get_or heads k 0) ≡ words)
  empty-row {k} short z e ne = ⊎_elim (λ q. absurd (ne q))
      (λ h. (h.0, h.1, empty-same (row_words (length words) sets r) words (long h.1) (h.2 ∙ z) (sym e ∙ z))) (B.firsts k (omega arith)).is
    where
      r : ℕ
      r = get_or heads k 0

      long : r < c → length (row_words (length words) sets r) ≡ length words
      long l = row-long sets r (length words) (omega (arith, B.fits, B.long))

  pub empty-known : length words ≤ words_a_row → ((j : ℕ) → get_or words j 0 ≡ 0) → RowOf (length words) sets c words (get_or heads buckets 0)
  empty-known short z = go (ℕ_discrete (get_or heads buckets 0) 0)
    where
      go : Dec (get_or heads buckets 0 ≡ 0) → RowOf (length words) sets c words (get_or heads buckets 0)
      go (yes q) = inl q
      go (no n) = inr (empty-row short refl (sym (bucket-empty words z)) n)

  pub found-row : {r : ℕ} → (2 ≤ r) × (r < c) × (row_words (length words) sets r ≡ words) → TookIn (length words) room sets c words sets heads nexts r c
  found-row h = record { book = B; long = refl; row = (h.0, h.1); here = h.2; kept = λ i l. refl; grown = inl refl }
