-- The merged table goes as the rows do, is well formed and numbered, and no two of its rows go alike.
use mathlib.Core.Path.{◌≡◌, refl, ◌∙◌, sym, ap, subst}
use mathlib.Core.Logic.{◌⊎◌, inl, inr}
use mathlib.Core.Bool.{Bool}
use mathlib.Core.List.{List, [], ◌∷◌, map}
use Prim.Native.Nat.{ℕ, zero, suc, ◌+◌, ◌*◌, ◌/◌, ◌%◌, ◌<◌, ◌≤◌}
use native.Mathlib.Omega.{arith}
use native.Mathlib.Decide.{ℕ_discrete, dec_lt}
use lib.Dec.{eqb, eqb→eq}
use lib.ListN.{length, get_or}
use Rattle.rules.specs.Tools.{up_from, place, kept}
use Rattle.rules.specs.Table.{cell, after, fits, Mark, Formed}
use Rattle.rules.specs.Drawing.{Bytes, Exact, Merged, listed_by, Numbered}
use Rattle.rules.specs.Grid.{Came, Grid}
use Rattle.rules.specs.Compiled.{classes, merged}
use Rattle.rules.proofs.Tests.{eq_test}
use Rattle.rules.proofs.Lists.{at, get_or-map-in, length-map, kept-up, kept-inj, place_at, flat-at, flat-length, kept-has, kept_at}
use Rattle.rules.proofs.Classes.{run, Classes, Apart, Named, classes-named}
use Rattle.rules.proofs.Pigeon.{pigeon}
use Rattle.rules.proofs.Unique.{same-mark, split, listed-up, listed-cell}

module _ {rs : List (List ℕ)} {ms : List ℕ} (G : Grid rs ms) where
  abbrev pub cl : List ℕ
  cl = classes rs ms

  abbrev pub keep : List ℕ
  keep = kept (λ q. eqb (at cl q) q) (up_from 0 (length rs))

  abbrev pub number : ℕ → ℕ
  number q = place (eqb (at cl q)) keep

  N : Named G cl
  N = classes-named G

  C : Classes G cl
  C = N.sorted

  pub low : (q : ℕ) → q < length rs → at cl q < length rs
  low q l = omega (arith, C.low q l)

  pub again : (q : ℕ) → q < length rs → at cl (at cl q) ≡ at cl q
  again q l = N.named q l

  pub number_at : (q : ℕ) → q < length rs → (number q < length keep) × (at keep (number q) ≡ at cl q)
  number_at q l = place_at keep (at cl q) (kept-has (λ q. eqb (at cl q) q) 0 (length rs) (at cl q) (omega arith, omega (arith, low q l), eq_test (at cl (at cl q)) (at cl q) (again q l)))

  pub keep-in : (k : ℕ) → k < length keep → at keep k < length rs
  keep-in k l = omega (arith, (kept_at (λ q. eqb (at cl q) q) 0 (length rs) k l).1)

  keep-up : (j k : ℕ) → j < k → k < length keep → at keep j < at keep k
  keep-up = kept-up (λ q. eqb (at cl q) q) 0 (length rs)

  pub number-zero : 0 ≡ number 0
  number-zero = go (number 0) refl
    where
      some-row : 0 < length rs
      some-row = omega (arith, G.two)

      go : (n : ℕ) → number 0 ≡ n → 0 ≡ n
      go zero e = refl
      go (suc n) e = absurd (omega (arith, e, keep-up 0 (number 0) (omega arith) (number_at 0 some-row).0, (number_at 0 some-row).1, C.low 0 some-row))

  pub merged-cell : (q b : ℕ) → q < length rs → b < 256 → cell (merged rs ms) (number q) b ≡ number (at (get_or rs q []) b)
  unfolding merged
  merged-cell q b l lb =
      flat-at (λ q. map number (get_or rs q [])) keep (λ k lk. length-map number (get_or rs (at keep k) []) ∙ G.wide (at keep k) (keep-in k lk)) (number q) b (number_at q l).0 lb
      ∙ get_or-map-in number (get_or rs (at keep (number q)) []) b 0 0 (subst (λ (n : ℕ). b < n) (sym (G.wide (at keep (number q)) (keep-in (number q) (number_at q l).0))) lb)
      ∙ ap {B = ℕ} (λ (x : ℕ). number (at (get_or rs x []) b)) (number_at q l).1
      ∙ ap {B = ℕ} (λ (x : ℕ). place (eqb x) keep) (N.stable (at cl q) q b (low q l) l lb (again q l))

  pub merged-mark : (q : ℕ) → q < length rs → at (merged rs ms).marks (number q) ≡ at ms q
  unfolding merged
  merged-mark q l =
      get_or-map-in (λ q. at ms q) keep (number q) 0 0 (number_at q l).0 ∙ ap {B = ℕ} (λ (x : ℕ). at ms x) (number_at q l).1 ∙ C.marks (at cl q) q (low q l) l (again q l)

  pub merged-run : (bs : List ℕ) (q : ℕ) → Bytes bs → q < length rs → (after (merged rs ms) (number q) bs ≡ number (run rs q bs)) × (run rs q bs < length rs)
  merged-run [] q h l = (refl, l)
  merged-run (b ∷ bs) q h l =
      let x : (after (merged rs ms) (number (at (get_or rs q []) b)) bs ≡ number (run rs (at (get_or rs q []) b) bs)) × (run rs (at (get_or rs q []) b) bs < length rs)
      = merged-run bs (at (get_or rs q []) b) h.1 (G.rows q b l h.0) in
      (ap {B = ℕ} (λ (y : ℕ). after (merged rs ms) y bs) (merged-cell q b l h.0) ∙ x.0, x.1)

  -- ---- the rows kept

  pub kept-own : (k : ℕ) → k < length keep → at cl (at keep k) ≡ at keep k
  kept-own k l = eqb→eq (at cl (at keep k)) (at keep k) (kept_at (λ q. eqb (at cl q) q) 0 (length rs) k l).2

  pub number-keep : (k : ℕ) → k < length keep → number (at keep k) ≡ k
  number-keep k l = kept-inj (λ q. eqb (at cl q) q) 0 (length rs) (number (at keep k)) k (number_at (at keep k) (keep-in k l)).0 l ((number_at (at keep k) (keep-in k l)).1 ∙ kept-own k l)

  pub kept-cell : (k b : ℕ) → k < length keep → b < 256 → cell (merged rs ms) k b ≡ number (at (get_or rs (at keep k) []) b)
  kept-cell k b l lb = ap {B = ℕ} (λ (x : ℕ). cell (merged rs ms) x b) (sym (number-keep k l)) ∙ merged-cell (at keep k) b (keep-in k l) lb

  pub kept-mark : (k : ℕ) → k < length keep → at (merged rs ms).marks k ≡ at ms (at keep k)
  unfolding merged
  kept-mark k l = get_or-map-in (λ q. at ms q) keep k 0 0 l

  -- no more rows are kept than there were
  pub merged-few : (merged rs ms).count ≤ length rs
  unfolding merged
  merged-few = pigeon (length keep) (length rs) (λ k. at keep k) keep-in (λ j k lj lk e. kept-inj (λ q. eqb (at cl q) q) 0 (length rs) j k lj lk e)

  -- ---- well formed

  row-wide : (k : ℕ) → k < length keep → length (map number (get_or rs (at keep k) [])) ≡ 256
  row-wide k l = length-map number (get_or rs (at keep k) []) ∙ G.wide (at keep k) (keep-in k l)

  pub merged-exact : Exact (merged rs ms)
  unfolding merged
  merged-exact = record { marks-exact = length-map (λ q. at ms q) keep; cells-exact = flat-length (λ q. map number (get_or rs q [])) keep row-wide }

  pub merged-good : Formed (merged rs ms)
  unfolding merged
  merged-good = record {
    some-row = omega (arith, (number_at 0 (omega (arith, G.two))).0);
    marks-long = omega (arith, merged-exact.marks-exact);
    cells-long = omega (arith, merged-exact.cells-exact);
    head-row = (number_at 1 G.two).0;
    cells-rows = λ i l. subst (λ (x : ℕ). x < length keep) (split (merged rs ms) i) (in_row (i / 256) (i % 256) (omega arith) (omega arith));
    marks-good = λ k l. subst Mark (sym (kept-mark k l)) (G.good (at keep k) (keep-in k l));
  }
    where
      in_row : (k b : ℕ) → k < length keep → b < 256 → cell (merged rs ms) k b < length keep
      in_row k b l lb = subst (λ (x : ℕ). x < length keep) (sym (kept-cell k b l lb)) (number_at (at (get_or rs (at keep k) []) b) (G.rows (at keep k) b (keep-in k l) lb)).0

  -- ---- no two rows alike

  mark-after : (k : ℕ) → k < length keep → (z : List ℕ) → Bytes z → (at (merged rs ms).marks (after (merged rs ms) k z) ≡ at ms (run rs (at keep k) z)) × (run rs (at keep k) z < length rs)
  mark-after k l z hz =
      let x : (after (merged rs ms) (number (at keep k)) z ≡ number (run rs (at keep k) z)) × (run rs (at keep k) z < length rs) = merged-run z (at keep k) hz (keep-in k l) in
      (ap {B = ℕ} (λ (y : ℕ). at (merged rs ms).marks (after (merged rs ms) y z)) (sym (number-keep k l)) ∙ ap {B = ℕ} (λ (y : ℕ). at (merged rs ms).marks y) x.0 ∙ merged-mark (run rs (at keep k) z) x.1, x.1)

  pub merged-apart : Merged (merged rs ms)
  unfolding merged
  merged-apart k j lk lj h = go (ℕ_discrete (at cl (at keep k)) (at cl (at keep j)))
    where
      same : (z : List ℕ) → Bytes z → at ms (run rs (at keep k) z) ≡ at ms (run rs (at keep j) z)
      same z hz = same-mark (at ms (run rs (at keep k) z)) (at ms (run rs (at keep j) z)) (G.good (run rs (at keep k) z) (mark-after k lk z hz).1) (G.good (run rs (at keep j) z) (mark-after j lj z hz).1)
          (λ f. ap {B = Bool} (λ (m : ℕ). fits m f) (sym (mark-after k lk z hz).0) ∙ h z hz f ∙ ap {B = Bool} (λ (m : ℕ). fits m f) (mark-after j lj z hz).0)

      clash : Apart G (at keep k) (at keep j) → ⊥
      clash x = x.2 (same x.0 x.1)

      go : Dec (at cl (at keep k) ≡ at cl (at keep j)) → k ≡ j
      go (yes e) = kept-inj (λ q. eqb (at cl q) q) 0 (length rs) k j lk lj (sym (kept-own k lk) ∙ e ∙ kept-own j lj)
      go (no n) = absurd (clash (C.apart (at keep k) (at keep j) (keep-in k lk) (keep-in j lj) n))

  -- ---- numbered

  -- a row that came before a cell of a kept row has its number listed before that row's cell
  listed-before : (y k b : ℕ) → k < length keep → Came rs y (at keep k) b → number y < listed_by (merged rs ms) (256 * k + b)
  unfolding merged
  listed-before y k b l (inl h) = go y h
    where
      least : suc (number 1) ≤ listed_by (merged rs ms) (256 * k + b)
      least = listed-up (merged rs ms) 0 (256 * k + b) (omega arith)

      go : (y : ℕ) → y < 2 → number y < listed_by (merged rs ms) (256 * k + b)
      go zero h = omega (arith, least, number-zero)
      go (suc zero) h = least
      go (suc (suc y)) h = absurd (omega (arith, h))
  listed-before y k b l (inr x) = subst (λ (n : ℕ). n < listed_by (merged rs ms) (256 * k + b)) is_y (listed-cell (merged rs ms) (256 * number x.0 + x.1) (256 * k + b) (earlier x.2))
    where
      low-enough : (x.0 < at keep k) ⊎ ((x.0 ≡ at keep k) × (x.1 < b)) → x.0 ≤ at keep k
      low-enough (inl a) = omega arith
      low-enough (inr a) = omega (arith, a.0)

      p-in : x.0 < length rs
      p-in = omega (arith, keep-in k l, low-enough x.2)

      is_y : cell (merged rs ms) (number x.0) x.1 ≡ number y
      is_y = merged-cell x.0 x.1 p-in x.3 ∙ ap {B = ℕ} number x.4

      least-row : at keep (number x.0) ≤ x.0
      least-row = omega (arith, (number_at x.0 p-in).1, C.low x.0 p-in)

      not-past : k < number x.0 → ⊥
      not-past a = omega (arith, keep-up k (number x.0) a (number_at x.0 p-in).0, least-row, low-enough x.2)

      not_same : x.0 < at keep k → number x.0 ≡ k → ⊥
      not_same a e = omega (arith, least-row, ap {B = ℕ} (λ (j : ℕ). at keep j) e)

      earlier : (x.0 < at keep k) ⊎ ((x.0 ≡ at keep k) × (x.1 < b)) → 256 * number x.0 + x.1 < 256 * k + b
      earlier (inl a) = omega (arith, x.3, strict (ℕ_discrete (number x.0) k) (dec_lt k (number x.0)))
        where
          strict : Dec (number x.0 ≡ k) → Dec (k < number x.0) → number x.0 < k
          strict (yes e) d = absurd (not_same a e)
          strict (no e) (yes d) = absurd (not-past d)
          strict (no e) (no d) = omega arith
      earlier (inr a) = omega (arith, a.1, weak (dec_lt k (number x.0)))
        where
          weak : Dec (k < number x.0) → number x.0 ≤ k
          weak (yes d) = absurd (not-past d)
          weak (no d) = omega arith

  pub merged-numbered : Numbered (merged rs ms)
  unfolding merged
  merged-numbered = record { head-next = first_two (number 1) refl; cell-next = next; row_listed = own }
    where
      one_in : (number 1 < length keep) × (at keep (number 1) ≡ at cl 1)
      one_in = number_at 1 G.two

      first_two : (n : ℕ) → number 1 ≡ n → number 1 ≤ 1
      first_two zero e = omega arith
      first_two (suc zero) e = omega arith
      first_two (suc (suc n)) e = absurd (omega (arith, e, C.low 1 G.two, one_in.1, keep-up 0 1 (omega arith) (omega (arith, e, one_in.0)), keep-up 1 (number 1) (omega arith) one_in.0))

      next : (k b : ℕ) → k < length keep → b < 256 → cell (merged rs ms) k b ≤ listed_by (merged rs ms) (256 * k + b)
      next k b l lb = subst (λ (n : ℕ). n ≤ listed_by (merged rs ms) (256 * k + b)) (sym (kept-cell k b l lb)) (go (number x) refl)
        where
          x : ℕ
          x = at (get_or rs (at keep k) []) b

          x-in : x < length rs
          x-in = G.rows (at keep k) b (keep-in k l) lb

          x-at : (number x < length keep) × (at keep (number x) ≡ at cl x)
          x-at = number_at x x-in

          go : (n : ℕ) → number x ≡ n → number x ≤ listed_by (merged rs ms) (256 * k + b)
          go zero e = omega arith
          go (suc j) e = omega (arith, e, number-keep j j-in, listed-before (at keep j) k b l (G.target (at keep k) b (at keep j) (keep-in k l) lb (omega (arith, keep-up j (number x) (omega arith) x-at.0, x-at.1, C.low x x-in))))
            where
              j-in : j < length keep
              j-in = omega (arith, e, x-at.0)

      own : (k : ℕ) → k < length keep → k < listed_by (merged rs ms) (256 * k)
      own k l = subst (λ (n : ℕ). k < listed_by (merged rs ms) n) plain (subst (λ (n : ℕ). n < listed_by (merged rs ms) (256 * k + 0)) (number-keep k l) (listed-before (at keep k) k 0 l (G.own (at keep k) (keep-in k l))))
        where
          plain : 256 * k + 0 ≡ 256 * k
          plain = omega arith
