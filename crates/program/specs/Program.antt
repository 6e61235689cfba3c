-- The program of a tree.
use Rattle.std.specs.Prelude.{◌≡◌, List, [], ◌∷◌, ℕ, suc, ◌+◌, ◌*◌, ◌-◌, ◌/◌, ◌%◌, ◌^◌, ◌≤◌, ◌<◌, length, get_or, take}
use Rattle.rules.specs.Tools.{find}
use Rattle.rules.specs.Sizes.{pattern_most}
use Rattle.rules.specs.Signs.{dot_bytes}
use Rattle.rules.specs.Tree as rules
use Rattle.rules.specs.Tree.{Tree, nothing, bytes, head, tail, in_row, either, repeated}
use Rattle.signs.specs.Answers.{repeat_of}
use Rattle.signs.specs.declared.count.Repeat.{Repeat}
use Rattle.signs.specs.declared.count.Repeat.TheVariants.{Star, Plus, Maybe, Times, AtLeast}
use Rattle.program.specs.declared.Op.{Op}
use Rattle.program.specs.declared.Op.TheVariants.{Nothing, Head, Tail, Dot, Class, Byte, InRow, Either, Repeated}

-- words of the longest program: at most two for each byte of a pattern, and one
abbrev pub program_most : ℕ
program_most = 2 * pattern_most + 1

-- the operations by their kind, where each carries what it takes from x
abbrev pub kinds : ℕ → List (ℕ × Op)
kinds x =
    (0, Nothing) ∷ (1, Head) ∷ (2, Tail) ∷ (3, Dot) ∷ (4, Class)
    ∷ (5, Repeated Star) ∷ (6, Repeated Plus) ∷ (7, Repeated Maybe)
    ∷ (8, Byte (x % 256))
    ∷ (9, InRow (x % 4294967296))
    ∷ (10, Either (x % 4294967296))
    ∷ (11, Repeated (Times (x % 65536) (x / 65536 % 65536)))
    ∷ []

-- the operation of a word: its kind is the remainder by 16
unfoldable pub operation_of : ℕ → Op
operation_of w = find (Repeated (AtLeast (w / 16 % 65536))) (w % 16) (kinds (w / 16))

-- the operation at a place of the program
abbrev pub operation_at : List ℕ → ℕ → Op
operation_at p i = operation_of (get_or p i 0)

-- the words of an atom with this operation; 0 where it is no atom's
abbrev pub atom_words : Op → ℕ
atom_words Nothing = 0
atom_words Head = 0
atom_words Tail = 0
atom_words Dot = 1
atom_words Class = 5
atom_words (Byte b) = 1
atom_words (InRow n) = 0
atom_words (Either n) = 0
atom_words (Repeated k) = 0

-- the set that four words are, the lowest first
abbrev pub four_words : List ℕ → ℕ → ℕ
four_words p i = get_or p i 0 + 2 ^ 64 * (get_or p (1 + i) 0 + 2 ^ 64 * (get_or p (2 + i) 0 + 2 ^ 64 * get_or p (3 + i) 0))

abbrev pub bytes_of : List ℕ → ℕ → Op → ℕ
bytes_of p i Nothing = 0
bytes_of p i Head = 0
bytes_of p i Tail = 0
bytes_of p i Dot = dot_bytes
bytes_of p i Class = four_words p (i - 4)
bytes_of p i (Byte b) = 2 ^ b
bytes_of p i (InRow n) = 0
bytes_of p i (Either n) = 0
bytes_of p i (Repeated k) = 0

-- the bytes of the atom whose operation stands at i
unfoldable pub atom_bytes : List ℕ → ℕ → ℕ
atom_bytes p i = bytes_of p i (operation_at p i)

-- the operation at i is an atom's, and all its words are there
pub record AtomAt (p : List ℕ) (i : ℕ) : Type 0 where
  pub within : i < length p
  pub some : 0 < atom_words (operation_at p i)
  pub room : atom_words (operation_at p i) ≤ suc i

-- ---- one more operation

-- new is old with the operation o at the place n, which was the end
pub record Puts (old new : List ℕ) (n : ℕ) (o : Op) : Type 0 where
  pub is : operation_at new n ≡ o
  pub kept : take n new ≡ take n old

-- new is old with a class of the bytes B from the place n on
pub record PutsClass (old new : List ℕ) (n B : ℕ) : Type 0 where
  pub is : operation_at new (n + 4) ≡ Class
  pub bytes : four_words new n ≡ B
  pub kept : take n new ≡ take n old

-- ---- the words from s on and before e are the program of a tree

-- one operation
pub record Single (p : List ℕ) (o : Op) (s e : ℕ) : Type 0 where
  pub ends : e ≡ suc s
  pub is : operation_at p s ≡ o

-- the words of an atom and its operation
pub record Atom (p : List ℕ) (B : ℕ) (s e : ℕ) : Type 0 where
  pub last : ℕ
  pub ends : e ≡ suc last
  pub is : atom_bytes p last ≡ B
  pub some : 0 < atom_words (operation_at p last)
  pub words : e ≡ s + atom_words (operation_at p last)

-- two parts, and an operation that has the length of the right one
pub record Pair (p : List ℕ) (o : ℕ → Op) (L R : ℕ → ℕ → Type 0) (s e : ℕ) : Type 0 where
  pub middle : ℕ
  pub last : ℕ
  pub left : L s middle
  pub right : R middle last
  pub ends : e ≡ suc last
  pub is : operation_at p last ≡ o (last - middle)

-- a part and a repeat sign
pub record Signed (p : List ℕ) (k : rules.Repeat) (P : ℕ → ℕ → Type 0) (s e : ℕ) : Type 0 where
  pub sign : Repeat
  pub last : ℕ
  pub part : P s last
  pub ends : e ≡ suc last
  pub is : operation_at p last ≡ Repeated sign
  pub names : repeat_of sign ≡ k

abbrev pub Program : List ℕ → Tree → ℕ → ℕ → Type 0
Program p nothing = Single p Nothing
Program p (bytes B) = Atom p B
Program p head = Single p Head
Program p tail = Single p Tail
Program p (in_row X Y) = Pair p InRow (Program p X) (Program p Y)
Program p (either X Y) = Pair p Either (Program p X) (Program p Y)
Program p (repeated k X) = Signed p k (Program p X)
