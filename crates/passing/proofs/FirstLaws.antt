-- First of the starts from a place on, place by place.
use mathlib.Core.Path.{◌≡◌, refl, ap, sym, ◌∙◌}
use mathlib.Core.Bool.{true, false}
use mathlib.Core.List.{List, [], ◌∷◌}
use mathlib.Core.Option.{Option, none, some}
use Prim.Native.Nat.{ℕ, ◌+◌, ◌≤◌}
use lib.ListN.{length, drop}
use Rattle.rules.specs.Tools.{if_some}
use Rattle.rules.specs.Table.{Table, begins, longest}
use Rattle.ahead.specs.Ahead.{last_end, starts_from}
use Rattle.ahead.proofs.PlaceLaws.{is_some, longest-at, some-ahead, starts_none, starts-at}
use Rattle.passing.specs.Run.{or_match, first_from}

module _ (w : Table) (t : List ℕ) where
  abbrev pub first_in : List ℕ → Option (ℕ × ℕ)
  first_in l = elim l [ [] ↦ none | s ∷ ss ↦ elim (longest w t s) [ none ↦ none | some e ↦ some (s, e) ] ]

  pub first-none : first_from w t (length t + 1) ≡ none
  unfolding first_from
  first-none = ap first_in (starts_none w t)

  pub first-at : (s : ℕ) → s ≤ length t → first_from w t s ≡ or_match w t s (begins w s) s (first_from w t (s + 1))
  unfolding first_from
  first-at s h = go (last_end w (begins w s) s (drop s t)) refl
    where
      go : (x : Option ℕ) → last_end w (begins w s) s (drop s t) ≡ x → first_in (starts_from w t s) ≡ if_some x (λ e. some (s, e)) (first_in (starts_from w t (s + 1)))
      go none e = ap first_in (starts-at w t s false h (sym (some-ahead w t (drop s t) (begins w s) s) ∙ ap is_some e))
      go (some x) e =
          ap first_in (starts-at w t s true h (sym (some-ahead w t (drop s t) (begins w s) s) ∙ ap is_some e))
          ∙ ap (λ (o : Option ℕ). elim o as (λ _. Option (ℕ × ℕ)) [ none ↦ none | some e ↦ some (s, e) ]) (longest-at w t s h ∙ e)
