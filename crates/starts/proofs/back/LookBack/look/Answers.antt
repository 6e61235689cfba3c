use mathlib.Core.Path.{ap, ◌∙◌}
use Prim.Native.Nat.{ℕ, ◌*◌, ◌-◌, ◌≤◌}
use native.Mathlib.Nat.{mul-le-mul}
use native.Mathlib.Omega.{arith}
use lib.ListN.{drop}
use Rattle.rules.specs.Sizes.{rows_most, text_most}
use Rattle.rules.proofs.TableLaws.{read_none}
use Rattle.table.specs.Lent.{lent_table}
use Rattle.ahead.specs.Ahead.{ahead}
use Rattle.table.proofs.CheckLaws.{well}
use Rattle.starts.proofs.back.LookBack.look.Goals as goal

-- what new flags cost is bounded
bounded : {a b : ℕ} → a ≤ rows_most → b ≤ text_most → a * b ≤ rows_most * text_most
bounded h i = mul-le-mul h i

pub look-walk-requires : goal.look-walk-requires
look-walk-requires c = let S = c.args.search.now in record {
  row = (read_none (well S.passed).formed S.text.now c.args.s (omega arith) c.begin.ensures).row;
  forward = c.requires.1;
  inside = c.requires.0.inside;
  flagged = c.requires.0.flagged;
}

pub overflow_add-self : goal.overflow_add-self
overflow_add-self c = let S = c.args.search.now in
    omega (arith, c.look-walk.ensures.few, S.passed.short)

pub overflow_mul-search : goal.overflow_mul-search
overflow_mul-search c = let S = c.args.search.now in let g = well S.passed in
    omega (arith, bounded {a = S.table.rows} {b = c.args.self.now.to - c.args.s} (omega arith) (omega (arith, S.passed.short)))

pub flags_before-self-requires : goal.flags_before-self-requires
flags_before-self-requires c = let g = well c.args.search.now.passed in
    record { row = omega arith; forward = c.requires.1; inside = c.requires.0.inside; flagged = c.requires.0.flagged }

pub returns-then-search-self : goal.returns-then-search-self
returns-then-search-self c = let S = c.args.search.now in record {
  answer = c.look-walk.ensures.answer ∙ ap (λ (q : ℕ). ahead (lent_table S.table) q (drop c.args.s S.text.now)) c.begin.ensures;
  past = omega arith;
  pass = record { come = omega arith; inside = omega arith; cheap = omega arith; flagged = c.flags_before-self.ensures };
}

pub returns-else-search-self : goal.returns-else-search-self
returns-else-search-self c = let S = c.args.search.now in let g = well S.passed in record {
  answer = c.look-walk.ensures.answer ∙ ap (λ (q : ℕ). ahead (lent_table S.table) q (drop c.args.s S.text.now)) c.begin.ensures;
  past = c.requires.1;
  pass = record {
    come = omega arith;
    inside = c.requires.0.inside;
    cheap = omega (arith, bounded {a = S.table.rows} {b = c.args.self.now.to - c.args.s} (omega arith) (omega (arith, S.passed.short)));
    flagged = c.requires.0.flagged;
  };
}
