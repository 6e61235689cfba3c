-- The listing of `^a` is that of docs/RULES.md, byte for byte.
use mathlib.Core.Path.{◌≡◌, refl}
use mathlib.Core.List.{List, ◌++◌}
use Prim.Native.Nat.{ℕ}
use Prim.Native.String.{String}
use Rattle.rules.specs.Tools.{bytes_of}
use Rattle.rules.specs.Nodes.{node_count}
use Rattle.rules.specs.SetRows.{set_rows, row_count, machine, next, inside, head_row, mark_of, targets}
use Rattle.rules.specs.Compiled.{classes, merged, compiled, cells_of}
use Rattle.rules.specs.Reader.{escape, number, count, named_class, member, item, items, class, token, run, read}
use Rattle.rules.specs.Compile.{rows_for, limited, drawn}
use Rattle.rules.specs.Listing.{decimal, line_end, listing, printed}

abbrev line : String → List ℕ
line s = bytes_of s ++ line_end

pub caret-a : printed (line "^a") ≡ line "rows 3 head 1" ++ line "0 0 0-255>0" ++ line "1 0 0-96>0 97-97>2 98-255>0" ++ line "2 3 0-255>0"
unfolding printed listing decimal drawn limited rows_for node_count row_count set_rows machine next inside head_row mark_of targets classes merged compiled cells_of read run token escape number count named_class member item items class
caret-a = refl

-- what is turned away is said in one line
pub two-stars : printed (line "a**") ≡ line "refused 2 at 2"
unfolding printed listing decimal drawn read run token escape number count named_class member item items class
two-stars = refl
