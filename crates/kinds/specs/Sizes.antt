-- The sizes of the code are those of the rules.
use Rattle.std.specs.Prelude.{◌≡◌}
use Rattle.rules.specs.Sizes.{pattern_most, groups_most, count_most, nodes_most, rows_most, words_a_row, text_most}
use Rattle.kinds.specs.declared.Sizes.{Sizes}

pub record AsAgreed (s : Sizes) : Type 0 where
  pub pattern : s.pattern ≡ pattern_most
  pub groups : s.groups ≡ groups_most
  pub count : s.count ≡ count_most
  pub nodes : s.nodes ≡ nodes_most
  pub rows : s.rows ≡ rows_most
  pub words : s.words ≡ words_a_row
  pub text : s.text ≡ text_most
