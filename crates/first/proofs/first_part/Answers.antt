use mathlib.Core.Path.{◌≡◌, refl, ap, sym, ◌∙◌}
use mathlib.Core.Option.{some}
use Prim.Native.Nat.{ℕ, ◌≤◌}
use native.Mathlib.Omega.{arith}
use lib.ListN.{length}
use lib.Seq.{slice_empty}
use Rattle.std.specs.Prelude as std
use Rattle.rules.specs.Answers.{given}
use Rattle.rules.specs.Matchers.{first_answer, part_answer, part_of}
use Rattle.table.specs.Lent.{lent_table}
use Rattle.answers.specs.Answers.{first_of}
use Rattle.first.proofs.AnswerLaws.{answer-within, cut, hands-back}
use Rattle.first.proofs.first_part.Goals as goal
use Rattle.first.proofs.first_part.Goals.{In-Ok-Some}

answer : (c : In-Ok-Some) → first_answer (lent_table c.args.table.now) c.args.text.now ≡ given (some (c.in-Ok-Some.start, c.in-Ok-Some.end))
answer c = sym c.in-Ok-Some.ensures ∙ ap (λ (x : std.Option (ℕ × ℕ)). first_of (std.Ok x)) c.in-Ok-Some.field-0-is

within : (c : In-Ok-Some) → (c.in-Ok-Some.start ≤ c.in-Ok-Some.end) × (c.in-Ok-Some.end ≤ length c.args.text.now)
within c = answer-within _ _ _ _ (answer c)

pub slice_bounds-result-count : goal.slice_bounds-result-count
slice_bounds-result-count c = (within (goal.at.slice_bounds-result-count c).In-Ok-Some).0

pub slice_bounds-result-start : goal.slice_bounds-result-start
slice_bounds-result-start c = (within (goal.at.slice_bounds-result-start c).In-Ok-Some).0

pub slice_bounds-result-end : goal.slice_bounds-result-end
slice_bounds-result-end c = (within (goal.at.slice_bounds-result-end c).In-Ok-Some).1

pub returns-in-Ok-Some : goal.returns-in-Ok-Some
unfolding part_answer part_of
returns-in-Ok-Some c = hands-back (ap (part_of _) (answer (goal.at.returns-in-Ok-Some c).In-Ok-Some))
    (record { outcome = refl; block = refl; place = omega arith; bytes = cut c.in-Ok-Some.start c.in-Ok-Some.end c.args.text.now })

pub returns-in-Ok-None : goal.returns-in-Ok-None
unfolding part_answer part_of
returns-in-Ok-None c =
    let t = c.args.text.now in
    hands-back (ap (part_of t) (sym c.in-Ok-None.ensures ∙ ap (λ (x : std.Option (ℕ × ℕ)). first_of (std.Ok x)) c.in-Ok-None.field-0-is))
    (record { outcome = refl; block = refl; place = omega arith; bytes = cut (length t) (length t) t ∙ slice_empty (length t) t })

pub returns-in-Err : goal.returns-in-Err
unfolding part_answer part_of
returns-in-Err c = hands-back (ap (part_of _) (sym c.in-Err.ensures)) (record { outcome = c.number.ensures; block = refl; place = omega arith; bytes = refl })
