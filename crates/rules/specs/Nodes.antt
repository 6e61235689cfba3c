-- "Nodes and sets": the nodes and edges of a tree.
use Rattle.std.specs.Prelude.{Bool, true, false, List, [], ◌∷◌, ◌++◌, ℕ, suc, ◌+◌}
use Rattle.rules.specs.Tools.{copies}
use Rattle.rules.specs.Tree.{Repeat, star, plus, maybe, times, at_least, Tree, nothing, bytes, head, tail, in_row, either, repeated}

-- what an edge is crossed on
pub data Kind : Type 0 where
  empty on_head on_tail : Kind
  on_bytes : ℕ → Kind

pub record Edge : Type 0 where
  pub from : ℕ
  pub on : Kind
  pub to : ℕ

abbrev pub edge : ℕ → Kind → ℕ → Edge
edge s k e = record { from = s; on = k; to = e }

-- A fragment. Where its nodes are numbered from b on, b is its start node, b + last is its end node, and `edges b` are its edges.
pub record Frag : Type 0 where
  pub last : ℕ
  pub edges : ℕ → List Edge

abbrev pub size : Frag → ℕ
size F = suc F.last

-- two nodes and an edge: an empty branch, a byte atom, `^`, `$`
abbrev pub one : Kind → Frag
one k = record { last = 1; edges = λ b. edge b k (1 + b) ∷ [] }

-- in a row: an empty edge from X's end to Y's start
abbrev pub joined : Frag → Frag → Frag
joined X Y = record {
  last = size X + Y.last;
  edges = λ b. edge (b + X.last) empty (b + size X) ∷ X.edges b ++ Y.edges (b + size X);
}

-- X|Y: S to both starts, both ends to E
abbrev pub forked : Frag → Frag → Frag
forked X Y = record {
  last = 1 + size X + size Y;
  edges = λ b. let x : ℕ = 1 + b in let y : ℕ = 1 + b + size X in let e : ℕ = 1 + b + size X + size Y in
      edge b empty x ∷ edge b empty y ∷ edge (x + X.last) empty e ∷ edge (y + Y.last) empty e ∷ X.edges x ++ Y.edges y;
}

abbrev pub only : Bool → Edge → List Edge
only true x = x ∷ []
only false x = []

-- a repeat: S to X's start and X's end to E; where skip says so S to E; where back says so X's end to X's start
abbrev pub around : Bool → Bool → Frag → Frag
around skip back X = record {
  last = 1 + size X;
  edges = λ b. let x : ℕ = 1 + b in let e : ℕ = 1 + b + size X in
      edge b empty x ∷ edge (x + X.last) empty e ∷ only skip (edge b empty e) ++ (only back (edge (x + X.last) empty x) ++ X.edges x);
}

abbrev pub starred : Frag → Frag
starred = around true true

abbrev pub plussed : Frag → Frag
plussed = around false true

abbrev pub skippable : Frag → Frag
skippable = around true false

-- fragments in a row; none of them is one empty branch
abbrev pub all_joined : List Frag → Frag
all_joined [] = one empty
all_joined (X ∷ []) = X
all_joined (X ∷ Y ∷ Zs) = joined X (all_joined (Y ∷ Zs))

-- `{m,n}` is m copies of X then n − m copies of X?; `{m,}` is m copies then X*
abbrev pub repeatedly : Repeat → Frag → Frag
repeatedly star X = starred X
repeatedly plus X = plussed X
repeatedly maybe X = skippable X
repeatedly (times m d) X = all_joined (copies m X ++ copies d (skippable X))
repeatedly (at_least m) X = all_joined (copies m X ++ (starred X ∷ []))

abbrev pub frag : Tree → Frag
frag nothing = one empty
frag (bytes B) = one (on_bytes B)
frag head = one on_head
frag tail = one on_tail
frag (in_row X Y) = joined (frag X) (frag Y)
frag (either X Y) = forked (frag X) (frag Y)
frag (repeated r X) = repeatedly r (frag X)

-- the number of nodes
unfoldable pub node_count : Tree → ℕ
node_count X = size (frag X)
