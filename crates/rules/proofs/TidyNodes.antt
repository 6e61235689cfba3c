-- The nodes of a tree are tidy: nothing enters the start, and an edge on bytes goes to the next node, which no other edge enters.
use mathlib.Core.Path.{◌≡◌}
use mathlib.Core.Logic.{◌≢◌}
use mathlib.Core.Bool.{Bool, true, false}
use mathlib.Core.List.{List, [], ◌∷◌, ◌++◌, append-nil}
use Prim.Native.Nat.{ℕ, zero, suc, ◌+◌, ◌<◌, ◌≤◌}
use native.Mathlib.Omega.{arith}
use lib.Dec.{T}
use Rattle.rules.specs.Tools.{copies}
use Rattle.rules.specs.Tree.{Repeat, star, plus, maybe, times, at_least, Tree, nothing, bytes, head, tail, in_row, either, repeated}
use Rattle.rules.specs.Nodes.{Kind, empty, on_head, on_tail, on_bytes, Edge, Frag, size, one, joined, forked, around, starred, skippable, all_joined, repeatedly, frag}
use Rattle.rules.specs.SetRows.{Machine, machine}
use Rattle.rules.proofs.Edges.{◌∈◌, All, all_one, all-joined, all-forked, all-around}
use Rattle.rules.proofs.Walks.{Rel, Right, one_right, joined-right, forked-right, around-right}
use Rattle.rules.proofs.Closing.{Below}
use Rattle.rules.proofs.RowsRight.{nodes-below}

-- ---- what holds of the fragment of each tree

module _ (C : Frag → Type 1) (ones : (k : Kind) → C (one k)) (joins : (X Y : Frag) → C X → C Y → C (joined X Y))
    (forks : (X Y : Frag) → C X → C Y → C (forked X Y)) (arounds : (skip back : Bool) (X : Frag) → C X → C (around skip back X)) where
  more : (X : Frag) (Fs : List Frag) → C X → C (all_joined Fs) → C (all_joined (X ∷ Fs))
  more X [] x r = x
  more X (Y ∷ Fs) x r = joins X (all_joined (Y ∷ Fs)) x r

  copied : (n : ℕ) (X : Frag) (Fs : List Frag) → C X → C (all_joined Fs) → C (all_joined (copies n X ++ Fs))
  copied zero X Fs x r = r
  copied (suc n) X Fs x r = more X (copies n X ++ Fs) x (copied n X Fs x r)

  repeats : (r : Repeat) (X : Frag) → C X → C (repeatedly r X)
  repeats star X x = arounds true true X x
  repeats plus X x = arounds false true X x
  repeats maybe X x = arounds true false X x
  repeats (times m d) X x = copied m X (copies d (skippable X)) x (rw append-nil at (copied d (skippable X) [] (arounds true false X x) (ones empty)))
  repeats (at_least m) X x = copied m X (starred X ∷ []) x (arounds true true X x)

  pub by_parts : (X : Tree) → C (frag X)
  by_parts nothing = ones empty
  by_parts (bytes B) = ones (on_bytes B)
  by_parts head = ones on_head
  by_parts tail = ones on_tail
  by_parts (in_row X Y) = joins (frag X) (frag Y) (by_parts X) (by_parts Y)
  by_parts (either X Y) = forks (frag X) (frag Y) (by_parts X) (by_parts Y)
  by_parts (repeated r X) = repeats r (frag X) (by_parts X)

-- ---- edges on bytes

abbrev pub is_bytes : Kind → Bool
is_bytes empty = false
is_bytes on_head = false
is_bytes on_tail = false
is_bytes (on_bytes B) = true

-- an edge on bytes goes to the next node, and the edges that enter that node are on bytes
abbrev Alone : List Edge → Edge → Type 0
Alone es x = T (is_bytes x.on) → (x.to ≡ suc x.from) × All (λ y. y.to ≡ x.to → T (is_bytes y.on)) es

record Tidy (F : Frag) : Type 1 where
  P : Rel
  right : Right [] F P
  alone : (b : ℕ) → All (Alone (F.edges b)) (F.edges b)

-- the edge is of the part X from node x on, if it enters one of its nodes other than the start
abbrev Own : Frag → ℕ → Edge → Type 0
Own X x y = x < y.to → y.to ≤ x + X.last → y ∈ X.edges x

part-alone : {X : Frag} → Tidy X → (x : ℕ) (es : List Edge) → All (Own X x) es → All (Alone es) (X.edges x)
part-alone {X} X-tidy x es own y h s =
    let (up, alone) = X-tidy.alone x y h s in
    (up, λ z g e. alone z (own z g (omega (arith, X-tidy.right.inner x y h)) (omega (arith, X-tidy.right.inner x y h))) e)

one-tidy : (k : Kind) → Tidy (one k)
one-tidy k = record {
  P = _;
  right = one_right [] k;
  alone = λ b. all_one (Alone ((one k).edges b)) b k (λ s. (omega arith, all_one (λ y. y.to ≡ 1 + b → T (is_bytes y.on)) b k (λ e. s)));
}

module _ (X Y : Frag) (X-tidy : Tidy X) (Y-tidy : Tidy Y) where
  joined-tidy : Tidy (joined X Y)
  joined-tidy = record { P = _; right = joined-right X-tidy.right Y-tidy.right; alone = sole }
    where
      sole : (b : ℕ) → All (Alone ((joined X Y).edges b)) ((joined X Y).edges b)
      sole b = all-joined (Alone es) b X Y (λ s. absurd s)
          (part-alone X-tidy b es (all-joined (Own X b) b X Y (λ l g. absurd (omega arith)) (λ z h l g. h) (λ z h l g. absurd (omega (arith, Y-tidy.right.inner y z h)))))
          (part-alone Y-tidy y es (all-joined (Own Y y) b X Y (λ l g. absurd (omega arith)) (λ z h l g. absurd (omega (arith, X-tidy.right.inner b z h))) (λ z h l g. h)))
        where
          y : ℕ
          y = b + size X

          es : List Edge
          es = (joined X Y).edges b

  forked-tidy : Tidy (forked X Y)
  forked-tidy = record { P = _; right = forked-right X-tidy.right Y-tidy.right; alone = sole }
    where
      sole : (b : ℕ) → All (Alone ((forked X Y).edges b)) ((forked X Y).edges b)
      sole b = all-forked (Alone es) b X Y (λ s. absurd s) (λ s. absurd s) (λ s. absurd s) (λ s. absurd s)
          (part-alone X-tidy x es (all-forked (Own X x) b X Y (λ l g. absurd (omega arith)) (λ l g. absurd (omega arith)) (λ l g. absurd (omega arith)) (λ l g. absurd (omega arith))
          (λ z h l g. h) (λ z h l g. absurd (omega (arith, Y-tidy.right.inner y z h)))))
          (part-alone Y-tidy y es (all-forked (Own Y y) b X Y (λ l g. absurd (omega arith)) (λ l g. absurd (omega arith)) (λ l g. absurd (omega arith)) (λ l g. absurd (omega arith))
          (λ z h l g. absurd (omega (arith, X-tidy.right.inner x z h))) (λ z h l g. h)))
        where
          x : ℕ
          x = 1 + b

          y : ℕ
          y = 1 + b + size X

          es : List Edge
          es = (forked X Y).edges b

around-tidy : (skip back : Bool) (X : Frag) → Tidy X → Tidy (around skip back X)
around-tidy skip back X X-tidy = record {
  P = _;
  right = around-right X-tidy.right skip back;
  alone = λ b. all-around (Alone ((around skip back X).edges b)) b skip back X (λ s. absurd s) (λ s. absurd s) (λ t s. absurd s) (λ t s. absurd s)
      (part-alone X-tidy (1 + b) ((around skip back X).edges b) (all-around (Own X (1 + b)) b skip back X
      (λ l g. absurd (omega arith)) (λ l g. absurd (omega arith)) (λ t l g. absurd (omega arith)) (λ t l g. absurd (omega arith)) (λ z h l g. h)));
}

-- ---- every tree

pub record Neat (w : Machine) : Type 0 where
  pub below : Below w
  -- nothing enters the start
  pub free : All (λ x. x.to ≢ 0) w.links
  -- no edge leaves the final node
  pub ends : All (λ x. x.from ≢ w.final) w.links
  -- an edge on bytes goes to the next node, and no other edge enters that
  pub up : All (λ x. T (is_bytes x.on) → x.to ≡ suc x.from) w.links
  pub alone : All (λ x. T (is_bytes x.on) → All (λ y. y.to ≡ x.to → T (is_bytes y.on) × (y.from ≡ x.from)) w.links) w.links

pub neat : (X : Tree) → Neat (machine X)
unfolding machine
neat X = record {
  below = nodes-below X;
  free = λ x h e. omega (arith, tidied.right.inner 0 x h);
  ends = λ x h e. omega (arith, tidied.right.inner 0 x h);
  up = λ x h s. (tidied.alone 0 x h s).0;
  alone = λ x h s y g e. let t : T (is_bytes y.on) = (tidied.alone 0 x h s).1 y g e in (t, omega (arith, e, (tidied.alone 0 x h s).0, (tidied.alone 0 y g t).0));
}
  where
    tidied : Tidy (frag X)
    tidied = by_parts Tidy one-tidy joined-tidy forked-tidy around-tidy X
