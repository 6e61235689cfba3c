-- What compiling hands back and leaves, as an outcome of the rules.
use Rattle.std.specs.Prelude.{◌≡◌, List, [], ℕ, ◌*◌, ◌≤◌, length, take, Result, Ok, Err}
use Rattle.rules.specs.Tree.{Tree}
use Rattle.rules.specs.Table.{Table}
use Rattle.rules.specs.Answers.{Answer, refused, given}
use Rattle.rules.specs.Compile.{Room, Outcome, over, limited, drawn, compile}
use Rattle.kinds.specs.Refusals.{refusal_of}
use Rattle.kinds.specs.declared.Refusal.{Refusal}
use Rattle.program.specs.Program.{program_most}
use Rattle.spine.specs.Parts.{Part}
use Rattle.entries.specs.Entries.{kinds_of, firsts_of, seconds_of, atoms_of}
use Rattle.entries.specs.declared.Entry.{Entry}
use Rattle.rows.specs.Rows.{NodesOf, SameRoom, room}
use Rattle.answers.specs.declared.Drawn.{Drawn}
use Rattle.compile.specs.declared.Room as lent
use Rattle.answers.specs.Answers.{compiled_of}

-- what stands in the room that is lent
abbrev pub room_in : lent.Room → Room
room_in r = record { cells = r.cells.now; marks = r.marks.now; sets = r.sets.now }

-- the same slices are lent
pub record SameSlices (old new : lent.Room) : Type 0 where
  pub cells : new.cells.ghost_name ≡ old.cells.ghost_name
  pub marks : new.marks.ghost_name ≡ old.marks.ghost_name
  pub sets : new.sets.ghost_name ≡ old.sets.ghost_name

abbrev pub outcome_of : Result Drawn Refusal → Room → Outcome
outcome_of r l = record { answer = compiled_of r; room = l }

abbrev pub kept_rows : Result Drawn Refusal → ℕ
kept_rows (Ok d) = d.rows
kept_rows (Err r) = 0

-- what is kept of the room: the first n rows, and zeros past them and in all set words
abbrev pub kept : Room → ℕ → Room
kept l n = room (over (take (256 * n) l.cells) l.cells) (over (take n l.marks) l.marks) (over [] l.sets)

-- compiling p with the room old hands back r and leaves the room new
pub record Compiles (p : List ℕ) (old new : Room) (r : Result Drawn Refusal) : Type 0 where
  pub answer : compiled_of r ≡ (compile p old).answer
  pub room : new ≡ (compile p old).room

-- the table w stands at the front of the room
pub record Front (w : Table) (l : Room) (rows head : ℕ) : Type 0 where
  pub count : w.count ≡ rows
  pub first : w.head ≡ head
  pub cells : take (256 * rows) l.cells ≡ w.cells
  pub marks : take rows l.marks ≡ w.marks
  pub cells-long : 256 * rows ≤ length l.cells
  pub marks-long : rows ≤ length l.marks

-- r is the answer a, and a table that it gives stands at the front
abbrev pub AnswerIn : Answer Table → Room → Result Drawn Refusal → Type 0
AnswerIn a new (Ok d) = (w : Table) × (a ≡ given w) × Front w new d.rows d.head.0
AnswerIn a new (Err r) = a ≡ refused (refusal_of r)

-- and the room is as long as it was
pub record DrewAs (a : Answer Table) (old new : Room) (r : Result Drawn Refusal) : Type 0 where
  pub room : SameRoom old new
  pub drew : AnswerIn a new r

-- what is due of the tree whose nodes are given
abbrev pub DrewNodes : List ℕ → List Entry → Room → Room → Result Drawn Refusal → Type 0
DrewNodes program l old new r = (X : Tree) → NodesOf program X (kinds_of l) (firsts_of l) (seconds_of l) (atoms_of l) → DrewAs (limited old X) old new r

-- the first n words are a tree's program
pub record SomeProgram (program : List ℕ) (n : ℕ) : Type 0 where
  pub part : Part program n
  pub within : n ≤ length program
  pub short : n ≤ program_most

-- what is due of the tree whose program is given
abbrev pub DrewProgram : List ℕ → ℕ → Room → Room → Result Drawn Refusal → Type 0
DrewProgram program n old new r = (h : Part program n) → DrewAs (limited old h.tree) old new r

-- what is due of the pattern
abbrev pub Drew : List ℕ → Room → Room → Result Drawn Refusal → Type 0
Drew p old new r = DrewAs (drawn p old) old new r
