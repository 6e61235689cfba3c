-- Whether a match lies ahead of a row, byte by byte.
use mathlib.Core.Path.{◌≡◌, refl, ap, ap₂, sym, ◌∙◌}
use mathlib.Core.Bool.{Bool, true, false, ◌&&◌, ◌||◌}
use mathlib.Core.List.{List, [], ◌∷◌}
use Prim.Native.Nat.{ℕ, suc, ◌+◌, ◌*◌, ◌≤◌, ◌<◌}
use native.Mathlib.Numerals.{add-one}
use native.Mathlib.Omega.{arith}
use lib.Dec.{eqb}
use lib.ListN.{length, get_or, set, drop, replicate, get_or-replicate}
use lib.Seq.{drop-cons, drop-length, get_or-drop, get_or-set_same, get_or-set_other}
use borrow.Author.Count.{below_more}
use Rattle.rules.specs.Sizes.{rows_most}
use Rattle.rules.specs.Table.{Table, cell, fits, WellFormed}
use Rattle.ahead.specs.Ahead.{mark, ahead, Stuck, Flags}

pub drop-next : (t : List ℕ) (p : ℕ) → p < length t → drop p t ≡ get_or t p 0 ∷ drop (p + 1) t
drop-next t p h = rw (add-one p, drop-cons t p 0)

module _ (w : Table) (t : List ℕ) (q : ℕ) {p : ℕ} (h : p < length t) where
  ahead-hit : fits (mark w q) false ≡ true → ahead w q (drop p t) ≡ true
  unfolding ahead
  ahead-hit e = ap (ahead w q) (drop-next t p h) ∙ ap (λ (b : Bool). b || ahead w (cell w q (get_or t p 0)) (drop (p + 1) t)) e

  ahead-next : fits (mark w q) false ≡ false → ahead w q (drop p t) ≡ ahead w (cell w q (get_or t p 0)) (drop (p + 1) t)
  unfolding ahead
  ahead-next e = ap (ahead w q) (drop-next t p h) ∙ ap (λ (b : Bool). b || ahead w (cell w q (get_or t p 0)) (drop (p + 1) t)) e

-- a mark that makes no match at the end makes none before it
inside-miss : (m : ℕ) → fits m true ≡ false → fits m false ≡ false
inside-miss m = go (eqb m 3) (eqb m 2)
  where
    go : (a b : Bool) → a || (b && true) ≡ false → a || (b && false) ≡ false
    go true b e = e
    go false true e = refl
    go false false e = refl

pub ahead-stuck : {w : Table} {q : ℕ} → Stuck w q → (u : List ℕ) → ((i : ℕ) → get_or u i 0 < 256) → ahead w q u ≡ false
unfolding ahead
ahead-stuck s [] h = s.barren
ahead-stuck {w} {q} s (b ∷ u) h =
    ap₂ {C = Bool} ◌||◌ (inside-miss (mark w q) s.barren) (ap (λ (r : ℕ). ahead w r u) (s.stays b (h 0)) ∙ ahead-stuck s u (λ i. h (suc i)))

pub drop-bytes : (t : List ℕ) (p : ℕ) → ((i : ℕ) → get_or t i 0 < 256) → (i : ℕ) → get_or (drop p t) i 0 < 256
drop-bytes t p h i = rw get_or-drop (h (p + i))

-- the flags at the end are those where nothing is left
pub flags-end : {w : Table} {flags : List Bool} (t : List ℕ) → Flags w [] flags → Flags w (drop (length t) t) flags
flags-end t f = rw (drop-length t) f

-- one flag more
pub flag-more : (f : ℕ → Bool) (flags : List Bool) {q : ℕ} {b : Bool} → ((k : ℕ) → k < q → get_or flags k false ≡ f k) → q < length flags → b ≡ f q
    → (k : ℕ) → k < q + 1 → get_or (set flags q b) k false ≡ f k
flag-more f flags {q} {b} h l e =
    below_more (λ (k : ℕ). get_or (set flags q b) k false ≡ f k) q
    (λ k i. get_or-set_other flags q k b false (λ n. omega arith) ∙ h k i)
    (get_or-set_same flags q b false l ∙ e)

-- from q on no flag is set, as at first
abbrev pub Rest : List Bool → ℕ → Type 0
Rest flags q = (k : ℕ) → q ≤ k → k < rows_most → get_or flags k false ≡ false

pub rest_all : Rest (replicate 1024 false) 0
rest_all k l h = get_or-replicate 1024 k false false h

pub rest-less : (flags : List Bool) (q : ℕ) (b : Bool) → Rest flags q → Rest (set flags q b) (q + 1)
rest-less flags q b f k l h = get_or-set_other flags q k b false (omega arith) ∙ f k (omega arith) h

-- a walk from row q has come from `from` to p, and to row q'
pub record On (w : Table) (t : List ℕ) (q from to q' p : ℕ) : Type 0 where
  pub row : q' < w.count
  pub low : from ≤ p
  pub high : p ≤ to
  pub same : ahead w q (drop from t) ≡ ahead w q' (drop p t)

pub on-more : {w : Table} {t : List ℕ} {q from to q' p q'' : ℕ} → WellFormed w → On w t q from to q' p → p < to → to ≤ length t → get_or t p 0 < 256
    → fits (mark w q') false ≡ false → q'' ≡ cell w q' (get_or t p 0) → On w t q from to q'' (p + 1)
on-more {w} {t} {q} {from} {to} {q'} {p} {q''} g o h i b e f = record {
  row = omega (arith, g.formed.cells-rows (256 * q' + get_or t p 0) (omega arith));
  low = omega arith;
  high = omega arith;
  same = o.same ∙ ahead-next w t q' (omega arith) e ∙ ap (λ (r : ℕ). ahead w r (drop (p + 1) t)) (sym f);
}

module _ {w : Table} {t : List ℕ} {q from to q' p : ℕ} (o : On w t q from to q' p) (inside : to ≤ length t) where
  pub on-hit : p < to → fits (mark w q') false ≡ true → true ≡ ahead w q (drop from t)
  on-hit h e = sym (o.same ∙ ahead-hit w t q' {p = p} (omega arith) e)

  pub on-dead : {d : ℕ} → (d < w.count → Stuck w d) → ((i : ℕ) → get_or t i 0 < 256) → q' ≡ d → false ≡ ahead w q (drop from t)
  on-dead {d} s b e =
      sym (o.same ∙ ap (λ (r : ℕ). ahead w r (drop p t)) e ∙ ahead-stuck (s (omega arith)) (drop p t) (drop-bytes t p b))

  pub on-end : (flags : List Bool) → Flags w (drop to t) flags → to ≤ p → get_or flags q' false ≡ ahead w q (drop from t)
  on-end flags f h =
      let e : to ≡ p = omega arith in
      f.of q' o.row ∙ ap (λ (n : ℕ). ahead w q' (drop n t)) e ∙ sym o.same
