-- The list of first: what its entries lead to, and how it is kept as a row joins it.
use mathlib.Core.Path.{◌≡◌, refl, ap, sym, ◌∙◌}
use mathlib.Core.Bool.{Bool, true, false, true≢false}
use mathlib.Core.List.{List}
use mathlib.Core.Option.{Option, none, some}
use Prim.Native.Nat.{ℕ, zero, suc, ◌+◌, ◌≤◌, ◌<◌}
use native.Mathlib.Nat.{add-zero}
use native.Mathlib.Decide.{ℕ_discrete}
use native.Mathlib.Omega.{arith}
use lib.ListN.{length, get_or, drop}
use lib.Seq.{drop-length}
use Rattle.rules.specs.Tools.{guard, or_else, if_some}
use Rattle.rules.specs.Table.{Table, cell, fits}
use Rattle.std.specs.Prelude as std
use Rattle.passing.specs.declared.Entry.{Entry}
use Rattle.ahead.specs.Ahead.{mark, ahead, Stuck}
use Rattle.passing.specs.Run.{found_of, or_match, entry_at, first_of_list, otherwise}
use Rattle.ahead.specs.Ahead.{last_end}
use Rattle.ahead.proofs.AheadLaws.{ahead-stuck, drop-bytes}
use Rattle.ahead.proofs.PlaceLaws.{is_some, some-ahead, end-next}
use Rattle.passing.proofs.FirstLaws.{first-none}

-- ---- an entry, byte by byte

module _ (w : Table) (t : List ℕ) where
  module _ {p : ℕ} (h : p < length t) (q s : ℕ) where
    -- no match ends here
    pub match-later : (c : Option (ℕ × ℕ)) → fits (mark w q) false ≡ false → or_match w t p q s c ≡ or_match w t (p + 1) (cell w q (get_or t p 0)) s c
    match-later c e = ap (λ (x : Option ℕ). if_some x (λ e. some (s, e)) c) (end-next w t h q false e) ∙ go (last_end w (cell w q (get_or t p 0)) (p + 1) (drop (p + 1) t))
      where
        go : (x : Option ℕ) → if_some (or_else x none) (λ e. some (s, e)) c ≡ if_some x (λ e. some (s, e)) c
        go none = refl
        go (some e) = refl

    -- a match ends here
    pub match-here : (c : Option (ℕ × ℕ)) → fits (mark w q) false ≡ true → or_match w t p q s c ≡ or_match w t (p + 1) (cell w q (get_or t p 0)) s (some (s, p))
    match-here c e = ap (λ (x : Option ℕ). if_some x (λ e. some (s, e)) c) (end-next w t h q true e) ∙ go (last_end w (cell w q (get_or t p 0)) (p + 1) (drop (p + 1) t))
      where
        go : (x : Option ℕ) → if_some (or_else x (some p)) (λ e. some (s, e)) c ≡ if_some x (λ e. some (s, e)) (some (s, p))
        go none = refl
        go (some e) = refl

  -- no match lies ahead
  pub match_none : (p q s : ℕ) (c : Option (ℕ × ℕ)) → ahead w q (drop p t) ≡ false → or_match w t p q s c ≡ c
  match_none p q s c h = go (last_end w q p (drop p t)) (some-ahead w t (drop p t) q p ∙ h)
    where
      go : (x : Option ℕ) → is_some x ≡ false → if_some x (λ e. some (s, e)) c ≡ c
      go none e = refl
      go (some x) e = absurd (true≢false e)

  -- nothing comes after a row that is stuck
  pub match-stuck : {q : ℕ} → Stuck w q → ((i : ℕ) → get_or t i 0 < 256) → (p s : ℕ) (c : Option (ℕ × ℕ)) → or_match w t p q s c ≡ c
  match-stuck {q} k b p s c = match_none p q s c (ahead-stuck k (drop p t) (drop-bytes t p b))

  -- at the text's end
  pub match-end : (q s : ℕ) (c : Option (ℕ × ℕ)) (b : Bool) → fits (mark w q) true ≡ b → or_match w t (length t) q s c ≡ elim b [ true ↦ some (s, length t) | false ↦ c ]
  unfolding last_end
  match-end q s c b e = ap (λ (u : List ℕ). if_some (last_end w q (length t) u) (λ e. some (s, e)) c) (drop-length t) ∙ go b e
    where
      go : (b : Bool) → fits (mark w q) true ≡ b → if_some (guard (fits (mark w q) true) (length t)) (λ e. some (s, e)) c ≡ elim b [ true ↦ some (s, length t) | false ↦ c ]
      go true e = ap (λ (b : Bool). if_some (guard b (length t)) (λ e. some (s, e)) c) e
      go false e = ap (λ (b : Bool). if_some (guard b (length t)) (λ e. some (s, e)) c) e

  pub otherwise-end : (best : std.Option (ℕ × ℕ)) → otherwise w t best (length t + 1) ≡ found_of best
  otherwise-end (std.Some x) = refl
  otherwise-end std.None = first-none w t

  -- ---- the entries

  module _ (p : ℕ) (l : List Entry) where
    pub list-snoc : (k i : ℕ) (c : Option (ℕ × ℕ)) → first_of_list w t p l i (suc k) c ≡ first_of_list w t p l i k (or_match w t p (entry_at l (i + k)).row.0 (entry_at l (i + k)).from c)
    unfolding first_of_list
    list-snoc zero i c = ap (λ (n : ℕ). or_match w t p (entry_at l n).row.0 (entry_at l n).from c) (sym (add-zero i))
    list-snoc (suc k) i c =
        let e : suc i + k ≡ i + suc k = omega arith in
        ap (or_match w t p (entry_at l i).row.0 (entry_at l i).from)
        (list-snoc k (suc i) c ∙ ap (λ (n : ℕ). first_of_list w t p l (suc i) k (or_match w t p (entry_at l n).row.0 (entry_at l n).from c)) e)

    pub list-cong : (m : List Entry) (k i : ℕ) (c : Option (ℕ × ℕ)) → ((j : ℕ) → i ≤ j → j < i + k → entry_at l j ≡ entry_at m j)
        → first_of_list w t p l i k c ≡ first_of_list w t p m i k c
    unfolding first_of_list
    list-cong m zero i c h = refl
    list-cong m (suc k) i c h =
        ap (λ (e : Entry). or_match w t p e.row.0 e.from (first_of_list w t p l (suc i) k c)) (h i (omega arith) (omega arith))
        ∙ ap (or_match w t p (entry_at m i).row.0 (entry_at m i).from) (list-cong m k (suc i) c (λ j a b. h j (omega arith) (omega arith)))

    -- where an entry has a match, nothing after the list counts
    list-known : (k i j : ℕ) (c d : Option (ℕ × ℕ)) {e : ℕ} → i ≤ j → j < i + k → last_end w (entry_at l j).row.0 p (drop p t) ≡ some e → first_of_list w t p l i k c ≡ first_of_list w t p l i k d
    unfolding first_of_list
    list-known zero i j c d a b f = absurd (omega arith)
    list-known (suc k) i j c d {e} a b f = go (ℕ_discrete i j) (λ l. list-known k (suc i) j c d l (omega arith) f)
      where
        go : Dec (i ≡ j) → (suc i ≤ j → first_of_list w t p l (suc i) k c ≡ first_of_list w t p l (suc i) k d) → first_of_list w t p l i (suc k) c ≡ first_of_list w t p l i (suc k) d
        go (yes s) g =
            let x : last_end w (entry_at l i).row.0 p (drop p t) ≡ some e = ap (λ (n : ℕ). last_end w (entry_at l n).row.0 p (drop p t)) s ∙ f in
            ap (λ (o : Option ℕ). if_some o (λ e. some ((entry_at l i).from, e)) (first_of_list w t p l (suc i) k c)) x
            ∙ sym (ap (λ (o : Option ℕ). if_some o (λ e. some ((entry_at l i).from, e)) (first_of_list w t p l (suc i) k d)) x)
        go (no s) g = ap (or_match w t p (entry_at l i).row.0 (entry_at l i).from) (g (omega arith))

    -- a row that is in the list adds nothing to it
    pub list-again : (k j : ℕ) (s : ℕ) (c : Option (ℕ × ℕ)) → j < k → first_of_list w t p l 0 k c ≡ first_of_list w t p l 0 k (or_match w t p (entry_at l j).row.0 s c)
    list-again k j s c h = go (last_end w (entry_at l j).row.0 p (drop p t)) refl
      where
        go : (x : Option ℕ) → last_end w (entry_at l j).row.0 p (drop p t) ≡ x → first_of_list w t p l 0 k c ≡ first_of_list w t p l 0 k (if_some x (λ e. some (s, e)) c)
        go none e = refl
        go (some x) e = list-known k 0 j c (some (s, x)) (omega arith) (omega arith) e
