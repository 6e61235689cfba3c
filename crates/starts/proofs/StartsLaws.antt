-- The starts from a place on, one place down, and how many there are.
use mathlib.Core.Path.{◌≡◌, ap, sym, ◌∙◌}
use mathlib.Core.Bool.{Bool, true, false}
use mathlib.Core.List.{List, ◌∷◌}
use Prim.Native.Nat.{ℕ, zero, suc, ◌+◌, ◌-◌, ◌≤◌, ◌<◌}
use native.Mathlib.Omega.{arith}
use lib.Dec.{ltb}
use lib.ListN.{length}
use Rattle.rules.specs.Tools.{up_from, kept}
use Rattle.rules.specs.Table.{Table, starts}
use Rattle.rules.specs.Answers.{refused, given}
use Rattle.rules.specs.Matchers.{few_places, listed_in, starts_found, starts_answer}
use Rattle.table.specs.Lent.{lent_table}
use Rattle.table.specs.declared.Lent.{Lent}
use Rattle.table.specs.declared.checks.Checked.{Checked}
use Rattle.ahead.specs.declared.Search.{Search}
use Rattle.ahead.proofs.SearchLaws.{answered}
use Rattle.ahead.specs.Ahead.{is_start, starts_from}
use Rattle.ahead.proofs.PlaceLaws.{starts-all, starts-at}

kept-few : (f : ℕ → Bool) (a c : ℕ) → length (kept f (up_from a c)) ≤ c
kept-few f a zero = omega arith
kept-few f a (suc c) = go (f a) (kept-few f (suc a) c)
  where
    go : (b : Bool) → length (kept f (up_from (suc a) c)) ≤ c → length {A = ℕ} (elim b [ true ↦ a ∷ kept f (up_from (suc a) c) | false ↦ kept f (up_from (suc a) c) ]) ≤ suc c
    go true h = omega arith
    go false h = omega arith

module _ (w : Table) (t : List ℕ) where
  -- one place down
  pub starts-back : (s : ℕ) (b : Bool) → 0 < s → s ≤ length t + 1 → is_start w t (s - 1) ≡ b → starts_from w t (s - 1) ≡ elim b [ true ↦ (s - 1) ∷ starts_from w t s | false ↦ starts_from w t s ]
  starts-back s b l h e =
      let n : s - 1 + 1 ≡ s = omega arith in
      starts-at w t (s - 1) b (omega arith) e ∙ ap (λ (a : ℕ). elim b [ true ↦ (s - 1) ∷ starts_from w t a | false ↦ starts_from w t a ]) n

  pub starts-few : (s : ℕ) → length (starts_from w t s) ≤ 1 + length t - s
  unfolding starts_from
  starts-few s = kept-few (is_start w t) s (1 + length t - s)

  pub starts-most : length (starts w t) ≤ length t + 1
  starts-most = omega (arith, ap length (starts-all w t), starts-few 0)

-- by whether the list has a place for each start
pub starts-answered : (s : Search) (c : Checked) {w : Lent} {t : List ℕ} → (s.table ≡ c.table) × (s.text.now ≡ c.text.now) → (c.table ≡ w) × (c.text.now ≡ t) → (l : List ℕ) (b : Bool)
    → ltb (length l) (length (starts (lent_table s.table) s.text.now)) ≡ b
    → listed_in l (elim b [ true ↦ refused (few_places (starts (lent_table s.table) s.text.now)) | false ↦ given (starts (lent_table s.table) s.text.now) ]) ≡ starts_answer (lent_table w) t l
unfolding starts_answer starts_found
starts-answered s c searched same l b e =
    let xs = starts (lent_table s.table) s.text.now in
    ap (listed_in l)
    (ap (λ (b : Bool). elim b [ true ↦ refused (few_places xs) | false ↦ given xs ]) (sym e)
    ∙ answered s c searched same (λ (w : Table) (t : List ℕ). elim (ltb (length l) (length (starts w t))) [ true ↦ refused (few_places (starts w t)) | false ↦ given (starts w t) ]))
