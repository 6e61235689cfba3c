-- Runs of bytes that no atom parts, and the nodes whose edge is crossed on the bytes of each.
use Rattle.std.specs.Prelude.{◌≡◌, ◌↔◌, true, false, List, ℕ, ◌+◌, ◌*◌, ◌≤◌, ◌<◌, T, length, get_or}
use Rattle.rules.specs.Tools.{has, with}
use Rattle.rules.specs.Sizes.{nodes_most, words_a_row}
use Rattle.sets.specs.Sets.{member}
use Rattle.program.specs.Program.{atom_bytes, AtomAt}
use Rattle.entries.specs.Entries.{kinds_of, atoms_of}
use Rattle.entries.specs.declared.Entry.{Entry}
use Rattle.nodesets.specs.NodeSets.{mask_of, row_words}

-- each node with an edge on bytes names an atom of the program
pub record Atoms (program kind atom : List ℕ) : Type 0 where
  pub few : length kind ≤ nodes_most
  pub long : length atom ≡ length kind
  pub are : (u : ℕ) → u < length kind → get_or kind u 0 ≡ 4 → AtomAt program (get_or atom u 0)

abbrev pub AtomsIn : List ℕ → List Entry → Type 0
AtomsIn program l = Atoms program (kinds_of l) (atoms_of l)

-- an edge of node u is crossed on byte b
abbrev pub Crosses : List ℕ → List ℕ → List ℕ → ℕ → ℕ → Type 0
Crosses program kind atom b u = (u < length kind) × (get_or kind u 0 ≡ 4) × T (has (atom_bytes program (get_or atom u 0)) b)

-- the first byte of each of the runs, and 256
pub record Starts (starts : List ℕ) (runs : ℕ) : Type 0 where
  pub long : length starts ≡ 257
  pub few : runs ≤ 256
  pub first : get_or starts 0 0 ≡ 0
  pub last : get_or starts runs 0 ≡ 256
  pub rises : (k : ℕ) → k < runs → (get_or starts k 0 < get_or starts (k + 1) 0) × (get_or starts (k + 1) 0 ≤ 256)

-- byte b is of run k
abbrev pub InRun : List ℕ → ℕ → ℕ → Type 0
InRun starts k b = (get_or starts k 0 ≤ b) × (b < get_or starts (k + 1) 0)

-- there are so many runs, and a node's atom has the bytes of a run, all or none
pub record PartedInto (program kind atom starts : List ℕ) (runs : ℕ) : Type 0 where
  pub are : Starts starts runs
  pub alike : (k b u : ℕ) → k < runs → InRun starts k b → u < length kind → get_or kind u 0 ≡ 4
      → has (atom_bytes program (get_or atom u 0)) (get_or starts k 0) ≡ has (atom_bytes program (get_or atom u 0)) b

-- there are so many runs; mask k, in any number of words that is wide enough, has the nodes whose edge is crossed on the bytes of run k
pub record Runs (program kind atom starts masks : List ℕ) (runs : ℕ) : Type 0 where
  pub are : Starts starts runs
  pub long : words_a_row * runs ≤ length masks
  pub masked : (words k b u : ℕ) → length kind ≤ 64 * words → words ≤ words_a_row → k < runs → InRun starts k b
      → T (has (mask_of (row_words words masks k)) u) ↔ Crosses program kind atom b u

-- ---- bytes that are parted from the byte before

-- where bit j of r is 0, the word has bit j as it has the bit below; `below` is the bit below the lowest
abbrev pub Changes : ℕ → ℕ → ℕ → Type 0
Changes word below r = (j : ℕ) → j < 64 → (T (has r j) → ⊥) → has word j ≡ has (word * 2 + below) j

-- where a byte is not parted, B has it as it has the byte before
abbrev pub Parts : List ℕ → ℕ → Type 0
Parts parted B = (b : ℕ) → b < 255 → (T (member parted (b + 1)) → ⊥) → has B (b + 1) ≡ has B b

-- those that B parts are parted too
pub record PartedBy (old new : List ℕ) (B : ℕ) : Type 0 where
  pub long : length new ≡ length old
  pub keeps : (b : ℕ) → T (member old b) → T (member new b)
  pub parts : Parts new B

-- so for the bytes of each of the first n nodes
abbrev pub PartedTo : ℕ → List ℕ → List ℕ → List ℕ → List ℕ → Type 0
PartedTo n program kind atom parted = (u : ℕ) → u < n → get_or kind u 0 ≡ 4 → Parts parted (atom_bytes program (get_or atom u 0))

-- of a run's bytes only the first is parted
abbrev pub Whole : List ℕ → List ℕ → ℕ → Type 0
Whole parted starts runs = (k b : ℕ) → k < runs → get_or starts k 0 < b → b < get_or starts (k + 1) 0 → T (member parted b) → ⊥

-- ---- masks

abbrev pub mask_at : List ℕ → ℕ → ℕ
mask_at masks k = mask_of (row_words words_a_row masks k)

-- node u is put into the mask of each run whose first byte B has
pub record NodePut (old new : List ℕ) (B u : ℕ) (starts : List ℕ) (runs : ℕ) : Type 0 where
  pub long : length new ≡ length old
  pub masks : (k : ℕ) → k < runs → mask_at new k ≡ elim (has B (get_or starts k 0)) [ true ↦ with (mask_at old k) u | false ↦ mask_at old k ]

-- mask k has those of the first n nodes whose edge is crossed on the first byte of run k
abbrev pub MaskedTo : ℕ → List ℕ → List ℕ → List ℕ → List ℕ → List ℕ → ℕ → Type 0
MaskedTo n program kind atom starts masks runs = (k u : ℕ) → k < runs → T (has (mask_at masks k) u) ↔ ((u < n) × Crosses program kind atom (get_or starts k 0) u)
