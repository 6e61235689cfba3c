-- Lists that are filled from the front, and the pass that comes down place by place.
use mathlib.Core.Path.{◌≡◌, ap, sym, ◌∙◌}
use mathlib.Core.List.{List, [], ◌∷◌, ◌++◌, append_assoc}
use Prim.Native.Nat.{ℕ, suc, ◌+◌, ◌-◌, ◌≤◌, ◌<◌}
use native.Mathlib.Numerals.{add-one}
use native.Mathlib.Omega.{arith}
use lib.ListN.{length, get_or, set, drop}
use lib.Seq.{set_at, drop-cons}
use Rattle.rules.specs.Table.{Table}
use Rattle.starts.specs.Back.{Pass}
use Rattle.starts.specs.declared.back.LookBack.{LookBack}

-- the next place of a list that is being filled
pub set_next : (l d : List ℕ) (n v : ℕ) → length l ≡ n → n < length d → set (l ++ drop n d) n v ≡ (l ++ (v ∷ [])) ++ drop (n + 1) d
set_next l d n v e h =
    ap (λ (r : List ℕ). set (l ++ r) n v) (drop-cons d n 0 h) ∙ set_at l (get_or d n 0) (drop (suc n) d) v n e
    ∙ ap (λ (k : ℕ). l ++ v ∷ drop k d) (sym (add-one n)) ∙ sym (append_assoc l (v ∷ []) (drop (n + 1) d))

-- on to the place before
pub come_down : {w : Table} {t : List ℕ} {l : LookBack} {s : ℕ} → Pass w t l s → 0 < s → Pass w t l (s - 1) × (s - 1 ≤ l.to)
come_down p h = (record { come = omega (arith, p.come); inside = p.inside; cheap = p.cheap; flagged = p.flagged }, omega (arith, p.come))
