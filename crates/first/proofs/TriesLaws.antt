-- Trying each start, and the last match from one.
use mathlib.Core.Path.{◌≡◌, refl, ap, sym, ◌∙◌}
use mathlib.Core.Bool.{Bool, true, false, true≢false}
use mathlib.Core.List.{List}
use mathlib.Core.Option.{Option, none, some}
use Prim.Native.Nat.{ℕ, ◌+◌, ◌*◌, ◌≤◌, ◌<◌}
use native.Mathlib.Omega.{arith}
use lib.ListN.{length, get_or, drop}
use Rattle.rules.specs.Tools.{if_some}
use Rattle.rules.specs.Table.{Table, cell, begins, fits, first, WellFormed}
use Rattle.rules.proofs.TableLaws.{read_none}
use Rattle.std.specs.Prelude as std
use Rattle.ahead.specs.Ahead.{mark, ahead, is_start, last_end, Stuck}
use Rattle.ahead.proofs.PlaceLaws.{is_some, some-ahead, starts-all}
use Rattle.passing.specs.Run.{found_of, or_match, first_from}
use Rattle.passing.proofs.FirstLaws.{first_in, first-at}
use Rattle.passing.proofs.ListLaws.{match-later, match-here, match_none, match-stuck, match-end}

module _ (w : Table) (t : List ℕ) where
  pub first-all : first w t ≡ first_from w t 0
  unfolding first first_from
  first-all = ap (first_in w t) (starts-all w t)

  -- a match lies ahead
  match-some : (p q s : ℕ) (c d : Option (ℕ × ℕ)) → ahead w q (drop p t) ≡ true → or_match w t p q s c ≡ or_match w t p q s d
  match-some p q s c d h = go (last_end w q p (drop p t)) (some-ahead w t (drop p t) q p ∙ h)
    where
      go : (x : Option ℕ) → is_some x ≡ true → if_some x (λ e. some (s, e)) c ≡ if_some x (λ e. some (s, e)) d
      go none e = absurd (true≢false (sym e))
      go (some x) e = refl

  pub first-skip : {s : ℕ} → s ≤ length t → is_start w t s ≡ false → first_from w t s ≡ first_from w t (s + 1)
  first-skip {s} h e = first-at w t s h ∙ match_none w t s (begins w s) s (first_from w t (s + 1)) e

  pub first-here : {s : ℕ} → s ≤ length t → is_start w t s ≡ true → first_from w t s ≡ or_match w t s (begins w s) s none
  first-here {s} h e = first-at w t s h ∙ match-some s (begins w s) s (first_from w t (s + 1)) none e

-- the text from s has been read up to p, in row q, and best is the last match before p
pub record Ending (w : Table) (t : List ℕ) (s q : ℕ) (best : std.Option (ℕ × ℕ)) (p : ℕ) : Type 0 where
  pub row : q < w.count
  pub within : p ≤ length t
  pub same : or_match w t p q s (found_of best) ≡ or_match w t s (begins w s) s none

pub ending-none : {w : Table} {t : List ℕ} {s q : ℕ} → WellFormed w → s ≤ length t → q ≡ begins w s → Ending w t s q std.None s
ending-none {w} {t} {s} {q} g h e = record {
  row = (read_none g.formed t s h e).row;
  within = h;
  same = ap (λ (q : ℕ). or_match w t s q s none) e;
}

module _ {w : Table} {t : List ℕ} {s q : ℕ} {best : std.Option (ℕ × ℕ)} {p : ℕ} (g : WellFormed w) (o : Ending w t s q best p) where
  pub ending-more : {q' : ℕ} {best' : std.Option (ℕ × ℕ)} → p < length t → get_or t p 0 < 256 → q' ≡ cell w q (get_or t p 0) → (b : Bool) → fits (mark w q) false ≡ b
      → found_of best' ≡ elim b [ true ↦ some (s, p) | false ↦ found_of best ] → Ending w t s q' best' (p + 1)
  ending-more {q'} {best'} h i e b f x = record {
    row = omega (arith, g.formed.cells-rows (256 * q + get_or t p 0) (omega arith));
    within = omega arith;
    same = ap (λ (r : ℕ). or_match w t (p + 1) r s (found_of best')) e ∙ ap (or_match w t (p + 1) (cell w q (get_or t p 0)) s) x ∙ sym (on b f) ∙ o.same;
  }
    where
      on : (b : Bool) → fits (mark w q) false ≡ b → or_match w t p q s (found_of best) ≡ or_match w t (p + 1) (cell w q (get_or t p 0)) s (elim b [ true ↦ some (s, p) | false ↦ found_of best ])
      on true f = match-here w t h q s (found_of best) f
      on false f = match-later w t h q s (found_of best) f

  pub ending-dead : {d : ℕ} → (d < w.count → Stuck w d) → ((i : ℕ) → get_or t i 0 < 256) → q ≡ d → found_of best ≡ or_match w t s (begins w s) s none
  ending-dead {d} k b e =
      sym (ap (λ (q : ℕ). or_match w t p q s (found_of best)) e ∙ match-stuck w t (k (omega (arith, o.row))) b p s (found_of best)) ∙ o.same

pub ending-end : {w : Table} {t : List ℕ} {s q : ℕ} {best : std.Option (ℕ × ℕ)} {p : ℕ} → Ending w t s q best p → length t ≤ p → (b : Bool) → fits (mark w q) true ≡ b
    → elim b [ true ↦ some (s, length t) | false ↦ found_of best ] ≡ or_match w t s (begins w s) s none
ending-end {w} {t} {s} {q} {best} {p} o h b f =
    let e : p ≡ length t = omega (arith, o.within) in
    sym (ap (λ (n : ℕ). or_match w t n q s (found_of best)) e ∙ match-end w t q s (found_of best) b f) ∙ o.same
