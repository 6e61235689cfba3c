-- What the builders promise: the nodes of a fragment stand in the array from its start node on, but for its end node.
use Rattle.std.specs.Prelude.{◌≡◌, Bool, true, ℕ, zero, suc, ◌+◌, ◌≤◌, ◌<◌, length, Option, Some, None}
use mathlib.Core.List.{List, ◌∷◌, ◌++◌, Memᴰ}
use Rattle.rules.specs.Tools.{copies}
use Rattle.rules.specs.Sizes.{nodes_most}
use Rattle.rules.specs.Nodes.{Edge, Frag, size, around, frag}
use Rattle.program.specs.Program.{program_most}
use Rattle.kinds.specs.declared.Node.{Node}
use Rattle.spine.specs.Parts.{Part}
use Rattle.entries.specs.Entries.{Room, entry_at, edges_of, Sound}
use Rattle.entries.specs.declared.Entry.{Entry}
use Rattle.nodes.specs.declared.fragment.Copies.{Copies}

-- x is an edge of a node from b on and before e
abbrev pub Between : List ℕ → List Entry → ℕ → ℕ → Edge → Type 0
Between p l b e x = (b ≤ x.from) × (x.from < e) × Memᴰ x (edges_of p (entry_at l x.from) x.from)

-- each edge of node u is in the list es, and one on bytes names an atom
pub record Among (p : List ℕ) (l : List Entry) (es : List Edge) (u : ℕ) : Type 0 where
  pub edges : (x : Edge) → Memᴰ x (edges_of p (entry_at l u) u) → Memᴰ x es
  pub sound : Sound p (entry_at l u)

-- the edges of F, where b is its start node, are those of the nodes from b on and before its end node
pub record Drawn (p : List ℕ) (F : Frag) (b : ℕ) (l : List Entry) : Type 0 where
  pub edges : (x : Edge) → Memᴰ x (F.edges b) → Between p l b (b + F.last) x
  pub nodes : (u : ℕ) → b ≤ u → u < b + F.last → Among p l (F.edges b) u

-- F is drawn from b on and ends at e; what stands before b is as it was
pub record Fits (p : List ℕ) (F : Frag) (b : ℕ) (old new : List Entry) (e : ℕ) : Type 0 where
  pub ends : e ≡ b + F.last
  pub low : e < nodes_most
  pub room : Room new
  pub kept : (u : ℕ) → u < b → entry_at new u ≡ entry_at old u
  pub drawn : Drawn p F b new

-- what a builder answers: the end node of F, or that there are too many nodes up to it
abbrev pub BuiltAs : List ℕ → Frag → ℕ → List Entry → List Entry → Option Node → Type 0
BuiltAs p F b old new (Some e) = Fits p F b old new e.0
BuiltAs p F b old new None = nodes_most < b + size F

-- Where X stands from a to x and Y after it up to y, f X Y from b on is what is then written.
abbrev pub Binds : (Frag → Frag → Frag) → ℕ → ℕ → ℕ → ℕ → List Entry → List Entry → Option Node → Type 0
Binds f b a x y l new r = (p : List ℕ) (X Y : Frag) (old m : List Entry) → Fits p X a old m x → Fits p Y (x + 1) m l y → BuiltAs p (f X Y) b old new r

-- the part of the program p that ends at e can be built from b on
pub record Ready (p : List ℕ) (e b : ℕ) : Type 0 where
  pub part : Part p e
  pub within : e ≤ length p
  pub short : e ≤ program_most
  pub low : b < nodes_most

-- the part that ends at e is built as f says
abbrev pub Builds : List ℕ → ℕ → (Frag → Frag) → ℕ → List Entry → List Entry → Option Node → Type 0
Builds p e f b old new r = (h : Part p e) → BuiltAs p (f (frag h.tree)) b old new r

-- m copies of X, then d copies of a repeat of X that may be skipped
abbrev pub copies_of : ℕ → ℕ → Bool → Frag → List Frag
copies_of m d back X = copies m X ++ copies d (around true back X)

-- the first of them
abbrev pub copy_of : ℕ → Bool → Frag → Frag
copy_of zero back X = around true back X
copy_of (suc m) back X = X

-- r is c less the first copy
pub record Fewer (c r : Copies) : Type 0 where
  pub count : suc (r.plain + r.extra) ≡ c.plain + c.extra
  pub first : (back : Bool) (X : Frag) → copies_of c.plain c.extra back X ≡ copy_of c.plain back X ∷ copies_of r.plain r.extra back X
