-- What the rounds are given and leave.
use Rattle.std.specs.Prelude.{◌≡◌, List, ℕ, ◌*◌, ◌<◌, length, get_or}
use Rattle.rules.specs.Compiled.{classes}
use Rattle.columns.specs.Columns.{Columns}
use Rattle.grid.specs.Rows.{row_words, rows_of, Rows}
use Rattle.leads.specs.Leads.{RowListed}
use Rattle.naming.specs.Naming.{LeastOf}

-- n rows with their columns, and the rows that lead to each
pub record Drawn (cells bytes preds : List ℕ) (n : ℕ) : Type 0 where
  pub rows : Rows cells n
  pub columns : Columns cells bytes n
  pub preds-long : length preds ≡ row_words * n
  pub listed : (i : ℕ) → i < n → RowListed cells bytes preds i

-- scratch for n rows
pub record Scratch (seen prior last firsts links touched : List ℕ) (n : ℕ) : Type 0 where
  pub seen-long : length seen ≡ n
  pub prior-long : length prior ≡ n
  pub last-long : length last ≡ n
  pub firsts-long : length firsts ≡ n
  pub links-long : length links ≡ n
  pub touched-long : length touched ≡ row_words

-- rows are of one class exactly if they have one mark
pub record MarksTell (marks class : List ℕ) (n : ℕ) : Type 0 where
  pub like : (i j : ℕ) → i < n → j < n → get_or class i 0 ≡ get_or class j 0 → get_or marks i 0 ≡ get_or marks j 0
  pub fair : (i j : ℕ) → i < n → j < n → get_or marks i 0 ≡ get_or marks j 0 → get_or class i 0 ≡ get_or class j 0

-- classes by number, whose least rows name the classes of the rules
pub record Settled (cells marks number : List ℕ) (n : ℕ) : Type 0 where
  pub long : length number ≡ n
  pub low : (i : ℕ) → i < n → get_or number i 0 < n
  pub least : (names : List ℕ) → length names ≡ n → ((i : ℕ) → i < n → LeastOf number i (get_or names i 0)) → names ≡ classes (rows_of cells n) marks
