-- Classes by numbers that say nothing of rows, refined by classes that wait; at the end each is named by its least row.
use mathlib.Core.Path.{◌≡◌, ◌∙◌, sym, ap}
use mathlib.Core.Logic.{◌≢◌, ◌⊎◌, inl, inr, ⊎_elim}
use mathlib.Core.List.{List, [], ◌∷◌}
use Prim.Native.Nat.{ℕ, ◌<◌, ◌≤◌}
use native.Mathlib.Decide.{ℕ_discrete, dec_lt}
use native.Mathlib.Omega.{arith}
use lib.ListN.{length, get_or}
use Rattle.rules.specs.Grid.{Grid}
use Rattle.rules.specs.Compiled.{classes}
use Rattle.rules.proofs.Lists.{at}
use Rattle.rules.proofs.Classes.{LeastLike, Apart, classes-only}
use Rattle.grid.specs.Rows.{rows_of}
use Rattle.grid.proofs.GridLaws.{rows-length, cell_at, in_rows, out-rows}
use Rattle.keys.specs.Keys.{key, key_on}
use Rattle.keys.proofs.KeyLaws.{key-low, key-high, some_byte}
use Rattle.waiting.specs.Refined.{Refined}

module _ (cells : List ℕ) {ms : List ℕ} (n : ℕ) (G : Grid (rows_of cells n) ms) where
  -- the row that row i goes to on the byte b
  abbrev pub to : ℕ → ℕ → ℕ
  to i b = at (get_or (rows_of cells n) i []) b

  to_in : (i b : ℕ) → i < n → b < 256 → to i b < n
  to_in i b l lb = out-rows cells n G (G.rows i b (in_rows cells n G l) lb)

  -- rows of one number have one mark, rows of two are told apart by some bytes
  pub record Sound (c : List ℕ) : Type 0 where
    pub long : length c ≡ n
    pub marks : (i j : ℕ) → i < n → j < n → at c i ≡ at c j → at ms i ≡ at ms j
    pub apart : (i j : ℕ) → i < n → j < n → at c i ≢ at c j → Apart G i j

  -- on each byte rows of one number go to rows of one, or one of the two numbers waits
  abbrev pub Waits : ℕ → List ℕ → Type 0
  Waits from c = (i j b : ℕ) → i < n → j < n → b < 256 → at c i ≡ at c j → (at c (to i b) ≡ at c (to j b)) ⊎ ((from ≤ at c (to i b)) ⊎ (from ≤ at c (to j b)))

  -- classes, of which those from the number `from` on wait
  pub record Waiting (from : ℕ) (c : List ℕ) : Type 0 where
    pub sound : Sound c
    pub waits : Waits from c

  -- ---- at the end

  module _ {from : ℕ} {c : List ℕ} (W : Waiting from c) (d : List ℕ) (long : length d ≡ n) (L : (i : ℕ) → i < n → LeastLike (at c) i (at d i)) where
    small : (i : ℕ) → i < n → at d i < n
    small i l = omega (arith, (L i l).0)

    -- the least rows of one number are one
    one-least : (i j : ℕ) → i < n → j < n → at c i ≡ at c j → at d i ≡ at d j
    one-least i j li lj e = go (dec_lt (at d i) (at d j)) (dec_lt (at d j) (at d i))
      where
        go : Dec (at d i < at d j) → Dec (at d j < at d i) → at d i ≡ at d j
        go (yes a) y = absurd ((L j lj).2 (at d i) a ((L i li).1 ∙ e))
        go (no a) (yes b) = absurd ((L i li).2 (at d j) b ((L j lj).1 ∙ sym e))
        go (no a) (no b) = omega arith

    one_number : (i j : ℕ) → i < n → j < n → at d i ≡ at d j → at c i ≡ at c j
    one_number i j li lj e = sym (L i li).1 ∙ ap (at c) e ∙ (L j lj).1

    -- where no class waits, its least rows name the classes of the rules
    pub named-least : ((i : ℕ) → i < n → at c i < from) → d ≡ classes (rows_of cells n) ms
    named-least none = classes-only G d (record {
      sorted = record {
        long = long ∙ sym (rows-length cells n);
        low = λ i l. (L i (o l)).0;
        marks = λ i j li lj e. W.sound.marks i j (o li) (o lj) (one_number i j (o li) (o lj) e);
        apart = λ i j li lj ne. W.sound.apart i j (o li) (o lj) (λ e. ne (one-least i j (o li) (o lj) e));
      };
      stable = λ i j b li lj lb e. one-least (to i b) (to j b) (to_in i b (o li) lb) (to_in j b (o lj) lb) (alike i j b (o li) (o lj) lb (one_number i j (o li) (o lj) e));
      named = λ i l. one-least (at d i) i (small i (o l)) (o l) (L i (o l)).1;
    })
      where
        o : {i : ℕ} → i < length (rows_of cells n) → i < n
        o l = out-rows cells n G l

        alike : (i j b : ℕ) → i < n → j < n → b < 256 → at c i ≡ at c j → at c (to i b) ≡ at c (to j b)
        alike i j b li lj lb e = ⊎_elim (λ q. q)
            (λ w. ⊎_elim (λ x. omega (arith, x, none (to i b) (to_in i b li lb))) (λ x. omega (arith, x, none (to j b) (to_in j b lj lb))) w)
            (W.waits i j b li lj lb e)

  -- ---- one round

  module _ {from many : ℕ} {c d : List ℕ} (some : 0 < from) (W : Waiting from c) (long : length d ≡ n) (R : Refined cells c d n from many) where
    key-at : (i b : ℕ) → i < n → b < 256 → key_on cells c from i b ≡ key from (at c (to i b))
    key-at i b l lb = ap (λ (x : ℕ). key from (at c x)) (sym (cell_at cells n i b l lb))

    told : (i j : ℕ) → i < n → j < n → at d i ≢ at d j → Apart G i j
    told i j li lj ne = go (ℕ_discrete (at c i) (at c j))
      where
        go : Dec (at c i ≡ at c j) → Apart G i j
        go (no q) = W.sound.apart i j li lj q
        go (yes q) =
            let h = some_byte (key_on cells c from i) (key_on cells c from j) 256 (λ k. ne (R.fair i j li lj q k)) in
            let y = W.sound.apart (to i h.0) (to j h.0) (to_in i h.0 li h.1) (to_in j h.0 lj h.1)
            (λ e. h.2 (key-at i h.0 li h.1 ∙ ap (key from) e ∙ sym (key-at j h.0 lj h.1))) in
            (h.0 ∷ y.0, (h.1, y.1), y.2)

    -- a class that waits has a key of its own
    own : (x y : ℕ) → from ≤ x → key from x ≡ key from y → x ≡ y
    own x y l e = go (dec_lt y from)
      where
        go : Dec (y < from) → x ≡ y
        go (yes a) = omega (arith, key-high l, key-low a, e, some)
        go (no a) = sym (key-high l) ∙ e ∙ key-high (omega (arith, a))

    kept : (i j b : ℕ) → i < n → j < n → b < 256 → at d i ≡ at d j → (at d (to i b) ≡ at d (to j b)) ⊎ ((many ≤ at d (to i b)) ⊎ (many ≤ at d (to j b)))
    kept i j b li lj lb e = ⊎_elim (λ p. ⊎_elim (λ q. inl (p ∙ together ∙ sym q)) (λ q. inr (inr q)) (R.new (to j b) tj)) (λ p. inr (inl p)) (R.new (to i b) ti)
      where
        ti : to i b < n
        ti = to_in i b li lb

        tj : to j b < n
        tj = to_in j b lj lb

        keys : key from (at c (to i b)) ≡ key from (at c (to j b))
        keys = sym (key-at i b li lb) ∙ R.keys i j li lj e b lb ∙ key-at j b lj lb

        -- before the round they went to one number
        together : at c (to i b) ≡ at c (to j b)
        together = ⊎_elim (λ q. q) (λ w. ⊎_elim (λ x. own (at c (to i b)) (at c (to j b)) x keys) (λ x. sym (own (at c (to j b)) (at c (to i b)) x (sym keys))) w) (W.waits i j b li lj lb (R.finer i j li lj e))

    pub refined : Waiting many d
    refined = record {
      sound = record { long = long; marks = λ i j li lj e. W.sound.marks i j li lj (R.finer i j li lj e); apart = told };
      waits = kept;
    }

  -- ---- at first

  -- classes by marks, where the first of them has the number 0
  pub first : {d : List ℕ} {many : ℕ} → length d ≡ n → ((i j : ℕ) → i < n → j < n → at d i ≡ at d j → at ms i ≡ at ms j)
      → ((i j : ℕ) → i < n → j < n → at ms i ≡ at ms j → at d i ≡ at d j) → ((i : ℕ) → i < n → (at d i ≡ 0) ⊎ (many ≤ at d i)) → Waiting many d
  first {d} {many} long like fair new = record {
    sound = record { long = long; marks = like; apart = λ i j li lj ne. ([], tt, λ e. ne (fair i j li lj e)) };
    waits = λ i j b li lj lb e. ⊎_elim (λ p. ⊎_elim (λ q. inl (p ∙ sym q)) (λ q. inr (inr q)) (new (to j b) (to_in j b lj lb))) (λ p. inr (inl p)) (new (to i b) (to_in i b li lb));
  }
