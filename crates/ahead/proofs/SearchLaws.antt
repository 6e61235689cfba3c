-- What is answered by a search.
use mathlib.Core.Path.{◌≡◌, ap₂, ◌∙◌}
use mathlib.Core.List.{List}
use Prim.Native.Nat.{ℕ}
use Rattle.rules.specs.Table.{Table}
use Rattle.rules.specs.Answers.{Answer}
use Rattle.rules.specs.Matchers.{checked}
use Rattle.table.specs.Lent.{lent_table}
use Rattle.table.specs.declared.Lent.{Lent}
use Rattle.table.specs.declared.checks.Checked.{Checked}
use Rattle.table.proofs.CheckLaws as checks
use Rattle.ahead.specs.declared.Search.{Search}

-- what is computed of a search is what is answered of what was checked for it
pub answered : {A : Type 0} (s : Search) (c : Checked) {l : Lent} {t : List ℕ} → (s.table ≡ c.table) × (s.text.now ≡ c.text.now) → (c.table ≡ l) × (c.text.now ≡ t) → (f : Table → List ℕ → Answer A)
    → f (lent_table s.table) s.text.now ≡ checked (lent_table l) t (f (lent_table l) t)
answered {A} s c searched same f = ap₂ (λ (l : Lent) (t : List ℕ). f (lent_table l) t) searched.0 searched.1 ∙ checks.answered c same f
