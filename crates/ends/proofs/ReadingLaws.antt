-- Reading on, byte by byte and over bytes that all lead to the row again.
use mathlib.Core.Path.{◌≡◌, refl, ap, sym, subst, ◌∙◌}
use mathlib.Core.Bool.{Bool, true, false, ◌&&◌, and-eq-true_iff}
use mathlib.Core.List.{List}
use mathlib.Core.Option.{Option, none, some}
use Rattle.std.specs.Prelude as std
use Prim.Native.Nat.{ℕ, zero, suc, ◌+◌, ◌*◌, ◌-◌, ◌≤◌, ◌<◌}
use native.Mathlib.Nat.{add-zero}
use native.Mathlib.Omega.{arith}
use lib.Dec.{ltb}
use lib.ListN.{length, get_or, take, drop, length-drop}
use lib.Seq.{take_all, drop-length, length-take-le, get_or-take, get_or-drop}
use borrow.Author.Tests.{ltb-true}
use Rattle.rules.specs.Tools.{guard, or_else}
use Rattle.rules.specs.Table.{Table, cell, after, begins, fits, whole, longest, WellFormed}
use Rattle.rules.specs.Answers.{refusal, refused, given}
use Rattle.rules.specs.Matchers.{longest_answer}
use Rattle.rules.proofs.TableLaws.{Read, read_whole}
use Rattle.kinds.specs.declared.Row.{Row}
use Rattle.answers.specs.Answers.{longest_of}
use Rattle.table.specs.Lent.{lent_table}
use Rattle.table.specs.Stays.{Stays}
use Rattle.table.specs.declared.Lent.{Lent}
use Rattle.table.specs.declared.checks.Checked.{Checked}
use Rattle.table.proofs.CheckLaws.{answered}
use Rattle.table.proofs.StaysLaws.{after-stays}
use Rattle.ahead.specs.Ahead.{mark, last_end}
use Rattle.ahead.proofs.AheadLaws.{drop-next, drop-bytes}
use Rattle.ahead.proofs.PlaceLaws.{or-none, end-next, longest-at}
use Rattle.ends.specs.declared.Reading.{Reading}
use Rattle.ends.specs.Readings.{LeadsOn, end_of, last_of, FindsOn}

abbrev Bytes : List ℕ → Type 0
Bytes t = (i : ℕ) → get_or t i 0 < 256

-- bytes are left, and none of them leaves the row
pub left-stays : (p n : ℕ) (b : Bool) {r : Bool} → r ≡ ltb p n && b → r ≡ true → (p < n) × (b ≡ true)
left-stays p n b e h = let both = (and-eq-true_iff (ltb p n) b).0 (sym e ∙ h) in (ltb-true p n both.0, both.1)

-- the row that a byte leads to
next_row : {w : Table} → WellFormed w → {q b r : ℕ} → q < w.count → b < 256 → r ≡ cell w q b → r < w.count
next_row {w} g {q} {b} l h e = omega (arith, g.formed.cells-rows (256 * q + b) (omega arith))

-- a row's cells are lent
pub row-cells : {w : Table} → WellFormed w → {q : ℕ} → q < w.count → 256 * q + 256 ≤ length w.cells
row-cells g l = omega arith

-- the bytes of a stretch that is read
abbrev pub stretch : List ℕ → ℕ → ℕ → List ℕ
stretch t from to = take (to - from) (drop from t)

pub stretch_length : (t : List ℕ) (from to : ℕ) → to ≤ length t → length (stretch t from to) ≡ to - from
stretch_length t from to h = length-take-le (to - from) (drop from t) (simp length-drop (omega arith))

pub stretch_byte : (t : List ℕ) (from to k : ℕ) → k < to - from → get_or (stretch t from to) k 0 ≡ get_or t (from + k) 0
stretch_byte t from to k h = rw (get_or-take, get_or-drop)

-- ---- the row

-- one byte of a stretch more
pub leads-more : {w : Table} {t : List ℕ} {q p r : ℕ} (from to k : ℕ) → LeadsOn w t q p r (from + k) → WellFormed w → to ≤ length t → k < length (stretch t from to)
    → get_or t (from + k) 0 < 256 → {r' : ℕ} → r' ≡ cell w r (get_or (stretch t from to) k 0) → LeadsOn w t q p r' (from + (k + 1))
leads-more {w} {t} {q} {p} {r} from to k l g inside h b {r'} x =
    let h : k < to - from = omega (arith, stretch_length t from to inside) in
    let next : r' ≡ cell w r (get_or t (from + k) 0) = x ∙ ap (cell w r) (stretch_byte t from to k h) in
    let place : from + k + 1 ≡ from + (k + 1) = omega arith in
    record {
      row = next_row g l.row b next;
      same = l.same ∙ ap (after w r) (drop-next t (from + k) (omega arith)) ∙ ap (λ (r : ℕ). after w r (drop (from + k + 1) t)) (sym next)
          ∙ ap (λ (n : ℕ). after w r' (drop n t)) place;
    }

module _ {w : Table} {t : List ℕ} {q p r e : ℕ} (l : LeadsOn w t q p r e) where
  -- the same place
  pub leads-at : {e' : ℕ} → e ≡ e' → LeadsOn w t q p r e'
  leads-at x = subst (LeadsOn w t q p r) x l

  pub leads-over : {r' e' : ℕ} → LeadsOn w t r e r' e' → LeadsOn w t q p r' e'
  leads-over m = record { row = m.row; same = l.same ∙ m.same }

  pub leads_stays : Stays w r → Bytes t → LeadsOn w t q p r (length t)
  leads_stays s b = record {
    row = l.row;
    same = l.same ∙ after-stays w r s (drop e t) (drop-bytes t e b) ∙ sym (ap (after w r) (drop-length t));
  }

pub leads-whole : {w : Table} {t : List ℕ} {r : ℕ} → LeadsOn w t w.head 0 r (length t) → whole w t ≡ fits (mark w r) true
leads-whole {w} {t} {r} l = read_whole read (omega arith)
  where
    read : Read w t 0 (length t) r
    read = record {
      from = omega arith;
      within = omega arith;
      row = l.row;
      led = sym (ap (after w r) (drop-length t)) ∙ sym l.same ∙ sym (ap (after w w.head) (take_all (length t) t (omega arith)));
    }

-- ---- the last end

abbrev pub at : Row → ℕ → std.Option ℕ → Reading
at q p f = record { row = q; at = p; found = f }

or-guard : (b : Bool) (n : ℕ) (x : Option ℕ) → or_else (guard b n) x ≡ elim b [ true ↦ some n | false ↦ x ]
or-guard true n x = refl
or-guard false n x = refl

or-over : (x y z : Option ℕ) → or_else (or_else x y) z ≡ or_else x (or_else y z)
or-over none y z = refl
or-over (some e) y z = refl

module _ {w : Table} {t : List ℕ} {old : Reading} {q : Row} {p : ℕ} {f : std.Option ℕ} (o : FindsOn w t old (at q p f)) where
  pub finds-more : WellFormed w → p < length t → get_or t p 0 < 256 → {q' : Row} → q'.0 ≡ cell w q.0 (get_or t p 0)
      → (b : Bool) → fits (mark w q.0) false ≡ b → (f' : std.Option ℕ) → end_of f' ≡ elim b [ true ↦ some p | false ↦ end_of f ] → FindsOn w t old (at q' (p + 1) f')
  finds-more g h i {q'} e b m f' x = record {
    row = next_row g o.row i e;
    within = omega arith;
    same = o.same ∙ ap (λ (y : Option ℕ). or_else y (end_of f)) (end-next w t h q.0 b m) ∙ or-over later (guard b p) (end_of f)
        ∙ ap (or_else later) (or-guard b p (end_of f) ∙ sym x)
        ∙ ap (λ (r : ℕ). or_else (last_end w r (p + 1) (drop (p + 1) t)) (end_of f')) (sym e);
  }
    where
      later : Option ℕ
      later = last_end w (cell w q.0 (get_or t p 0)) (p + 1) (drop (p + 1) t)

  -- at the text's end
  pub finds-end : p ≡ length t → (b : Bool) → fits (mark w q.0) true ≡ b → last_of w t old ≡ elim b [ true ↦ some (length t) | false ↦ end_of f ]
  unfolding last_end
  finds-end e b m =
      o.same ∙ ap (λ (n : ℕ). or_else (last_end w q.0 n (drop n t)) (end_of f)) e
      ∙ ap (λ (u : List ℕ). or_else (last_end w q.0 (length t) u) (end_of f)) (drop-length t)
      ∙ ap (λ (b : Bool). or_else (guard b (length t)) (end_of f)) m ∙ or-guard b (length t) (end_of f)

pub finds-over : {w : Table} {t : List ℕ} {a b c : Reading} → FindsOn w t a b → FindsOn w t b c → FindsOn w t a c
finds-over o m = record { row = m.row; within = m.within; same = o.same ∙ m.same }

-- bytes that all lead to the row again change no last end, but for the text's last byte
module _ (w : Table) (q : ℕ) (s : Stays w q) (t : List ℕ) (b : Bytes t) where
  skip-one : (p : ℕ) → p + 1 < length t → last_end w q p (drop p t) ≡ last_end w q (p + 1) (drop (p + 1) t)
  skip-one p h = next p (omega arith) ∙ go (fits (mark w q) false) _ (last_end w q (p + 1 + 1) (drop (p + 1 + 1) t)) (next (p + 1) h)
    where
      next : (p : ℕ) → p < length t → last_end w q p (drop p t) ≡ or_else (last_end w q (p + 1) (drop (p + 1) t)) (guard (fits (mark w q) false) p)
      next p h =
          end-next w t h q (fits (mark w q) false) refl
          ∙ ap (λ (r : ℕ). or_else (last_end w r (p + 1) (drop (p + 1) t)) (guard (fits (mark w q) false) p)) (s (get_or t p 0) (b p))

      go : (m : Bool) (x y : Option ℕ) → x ≡ or_else y (guard m (p + 1)) → or_else x (guard m p) ≡ x
      go true x none e = ap (λ (x : Option ℕ). or_else x (some p)) e ∙ sym e
      go true x (some z) e = ap (λ (x : Option ℕ). or_else x (some p)) e ∙ sym e
      go false x y e = or-none x

  skip : (k p : ℕ) → p + suc k ≡ length t → last_end w q p (drop p t) ≡ last_end w q (p + k) (drop (p + k) t)
  skip zero p h = ap (λ (n : ℕ). last_end w q n (drop n t)) (sym (add-zero p))
  skip (suc k) p h =
      let e : p + 1 + k ≡ p + suc k = omega arith in
      skip-one p (omega arith) ∙ skip k (p + 1) (omega arith) ∙ ap (λ (n : ℕ). last_end w q n (drop n t)) e

pub finds-last : {w : Table} {t : List ℕ} {old : Reading} {q : Row} {p : ℕ} {f : std.Option ℕ} → FindsOn w t old (at q p f) → p < length t → Stays w q.0 → Bytes t
    → FindsOn w t old (at q (length t - 1) f)
finds-last {w} {t} {old} {q} {p} {f} o h s b = record {
  row = o.row;
  within = omega arith;
  same = o.same
      ∙ ap (λ (x : Option ℕ). or_else x (end_of f)) (skip w q.0 s t b (length t - 1 - p) p (omega arith) ∙ ap (λ (n : ℕ). last_end w q.0 n (drop n t)) last);
}
  where
    last : p + (length t - 1 - p) ≡ length t - 1
    last = omega arith

pub longest-begun : (w : Table) (t : List ℕ) (r : Reading) {s : ℕ} → s ≤ length t → r.row.0 ≡ begins w s → r.at ≡ s → end_of r.found ≡ none → longest w t s ≡ last_of w t r
longest-begun w t r {s} h e a f =
    longest-at w t s h ∙ ap (λ (q : ℕ). last_end w q s (drop s t)) (sym e) ∙ ap (λ (n : ℕ). last_end w r.row.0 n (drop n t)) (sym a)
    ∙ sym (or-none (last_end w r.row.0 r.at (drop r.at t))) ∙ ap (or_else (last_end w r.row.0 r.at (drop r.at t))) (sym f)

-- by whether a match ends at the text's end
pub ended : {w : Table} {t : List ℕ} (s : ℕ) {begun most all : Reading} → longest w t s ≡ last_of w t begun → FindsOn w t begun most → FindsOn w t most all × (all.at ≡ length t)
    → (b : Bool) → fits (mark w all.row.0) true ≡ b → longest w t s ≡ elim b [ true ↦ some (length t) | false ↦ end_of all.found ]
ended s l m a b e = l ∙ finds-end (finds-over m a.0) a.1 b e

-- ---- the answer

pub longest-given : (e : std.Option ℕ) → longest_of (std.Ok e) ≡ given (end_of e)
longest-given (std.Some e) = refl
longest-given std.None = refl

-- by whether the start lies past the end
pub longest-answered : (c : Checked) {l : Lent} {t : List ℕ} → (c.table ≡ l) × (c.text.now ≡ t) → (s : ℕ) (b : Bool) → ltb (length t) s ≡ b
    → elim b [ true ↦ refused (refusal 14 0) | false ↦ given (longest (lent_table c.table) c.text.now s) ] ≡ longest_answer (lent_table l) t s
unfolding longest_answer
longest-answered c same s b e =
    ap (λ (b : Bool). elim b [ true ↦ refused (refusal 14 0) | false ↦ given (longest (lent_table c.table) c.text.now s) ])
    (sym e ∙ sym (ap (λ (t : List ℕ). ltb (length t) s) same.1))
    ∙ answered c same (λ (w : Table) (t : List ℕ). elim (ltb (length t) s) [ true ↦ refused (refusal 14 0) | false ↦ given (longest w t s) ])
