-- The starred sums and the numbers of nodes: one claim over the whole table, by one computation.
use mathlib.Core.Path.{◌≡◌, refl, ◌∙◌, sym, ap}
use mathlib.Core.List.{List, [], map}
use Prim.Native.Nat.{ℕ}
use lib.ListN.{get_or}
use Rattle.rules.specs.Nodes.{node_count}
use Rattle.rules.specs.SetRows.{set_rows as all_rows, row_count, machine, next, inside, head_row, mark_of, targets}
use Rattle.rules.specs.Table.{longest, starts, takes, same_table}
use Rattle.rules.specs.Compiled.{classes, merged, compiled, cells_of}
use Rattle.rules.specs.Reader.{escape, number, count, named_class, member, item, items, class, token, run, read}
use Rattle.rules.proofs.Lists.{get_or-map-in}
use Rattle.starred.specs.Sums.{Sum, sum, sums, set_rows, answer_to, SumsHold}

asked : Sum → List ℕ
asked x = answer_to x.pattern x.question

all-at-once : map asked sums ≡ map (λ x. x.says) sums
unfolding asked read run token escape number count named_class member item items class node_count all_rows row_count classes merged compiled longest starts machine next inside head_row mark_of targets takes cells_of same_table
all-at-once = refl

pub sums-hold : SumsHold
unfolding asked
sums-hold k l = sym (get_or-map-in asked sums k (sum "" set_rows []) [] l) ∙ ap (λ z. get_or z k []) all-at-once ∙ get_or-map-in (λ x. x.says) sums k (sum "" set_rows []) [] l
