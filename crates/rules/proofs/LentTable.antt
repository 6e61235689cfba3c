-- What is lent past a table's rows plays no part.
use mathlib.Core.Path.{◌≡◌, refl, ap, ◌∙◌}
use mathlib.Core.Bool.{Bool}
use mathlib.Core.List.{List, [], ◌∷◌, ◌++◌}
use Prim.Native.Nat.{ℕ, zero, suc, ◌+◌, ◌*◌, ◌<◌}
use native.Mathlib.Omega.{arith}
use lib.Dec.{eqb}
use lib.ListN.{length, get_or, length-append, get_or-append}
use lib.Seq.{slice}
use Rattle.rules.specs.Table.{Table, cell, after, begins, fits, takes, WellFormed}
use Rattle.rules.specs.Drawing.{Bytes}
use Rattle.rules.proofs.Texts.{bytes-slice}

module _ {w : Table} (f : WellFormed w) (ms cs : List ℕ) where
  abbrev pub longer : Table
  longer = record { count = w.count; head = w.head; marks = w.marks ++ ms; cells = w.cells ++ cs }

  cells-alike : (i : ℕ) → i < 256 * w.count → get_or (w.cells ++ cs) i 0 ≡ get_or w.cells i 0
  cells-alike i h = get_or-append w.cells cs 0 i (omega (arith, f.formed.cells-long))

  pub marks-alike : (q : ℕ) → q < w.count → get_or (w.marks ++ ms) q 0 ≡ get_or w.marks q 0
  marks-alike q h = get_or-append w.marks ms 0 q (omega (arith, f.formed.marks-long))

  pub longer-formed : WellFormed longer
  longer-formed = record {
    formed = record {
      some-row = f.formed.some-row;
      marks-long = omega (arith, f.formed.marks-long, length-append w.marks ms);
      cells-long = omega (arith, f.formed.cells-long, length-append w.cells cs);
      head-row = f.formed.head-row;
      cells-rows = λ i h. rw (cells-alike i h) (f.formed.cells-rows i h);
      marks-good = λ q h. rw (marks-alike q h) (f.formed.marks-good q h);
    };
    few-rows = f.few-rows;
  }

  -- reading leads to the same rows
  led : (z : List ℕ) (q : ℕ) → Bytes z → q < w.count → (after longer q z ≡ after w q z) × (after w q z < w.count)
  led [] q h l = (refl, l)
  led (b ∷ z) q h l =
      let i : 256 * q + b < 256 * w.count = omega (arith, h.0) in
      let x : (after longer (cell w q b) z ≡ after w (cell w q b) z) × (after w (cell w q b) z < w.count) = led z (cell w q b) h.1 (f.formed.cells-rows (256 * q + b) i) in
      (ap {B = ℕ} (λ (r : ℕ). after longer r z) (cells-alike (256 * q + b) i) ∙ x.0, x.1)

  begun : (s : ℕ) → (begins longer s ≡ begins w s) × (begins w s < w.count)
  begun zero = (refl, f.formed.head-row)
  begun (suc s) = (refl, omega (arith, f.formed.some-row))

  pub longer-takes : (t : List ℕ) → Bytes t → (s e : ℕ) → takes longer t s e ≡ takes w t s e
  unfolding takes
  longer-takes t h s e =
      let x = led (slice s e t) (begins w s) (bytes-slice t h s e) (begun s).1 in
      ap {B = Bool} (λ (m : ℕ). fits m (eqb e (length t)))
      (ap {B = ℕ} (λ (q : ℕ). get_or (w.marks ++ ms) (after longer q (slice s e t)) 0) (begun s).0 ∙ ap {B = ℕ} (λ (q : ℕ). get_or (w.marks ++ ms) q 0) x.0 ∙ marks-alike _ x.1)
