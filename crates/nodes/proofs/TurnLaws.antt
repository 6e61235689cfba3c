-- What is built next, and the way up again from a part's last left part.
use mathlib.Core.Path.{◌≡◌, subst}
use mathlib.Core.List.{List}
use Prim.Native.Nat.{ℕ, suc, ◌+◌, ◌-◌, ◌≤◌, ◌<◌}
use native.Mathlib.Omega.{arith}
use lib.ListN.{length, get_or, take, drop, length-take, length-drop}
use borrow.Rule.Slice.PartMut.{put_mid}
use Rattle.rules.specs.Sizes.{nodes_most}
use Rattle.rules.specs.Nodes.{size, frag}
use Rattle.program.specs.Program.{program_most, operation_at}
use Rattle.program.specs.declared.Op.{Op}
use Rattle.kinds.specs.declared.Node.{Node}
use Rattle.spine.specs.Parts.{Part}
use Rattle.spine.specs.Spine.{joint, Down}
use Rattle.spine.proofs.SpineLaws.{Both, parted, Reached, reached, down-lent}
use Rattle.entries.specs.declared.Entry.{Entry}
use Rattle.std.specs.Prelude.{Option, Some, None}
use Rattle.nodes.specs.Fragments.{Fits, BuiltAs, Binds, Ready}

-- a part of what is ready, from another node on
pub again : {p : List ℕ} {e b d c : ℕ} → Ready p e b → d ≤ e → Part p d → c < nodes_most → Ready p d c
again k i h low = record { part = h; within = omega (arith, k.within); short = omega (arith, k.short); low = low }

-- there is room in what is lent of a spine from k on
pub lent : (k n : ℕ) (s : List ℕ) → n + k ≤ length s → n ≤ length (take (length s - k) (drop k s))
lent k n s h = simp (length-take, length-drop) (omega arith)

-- what is at the bottom of the way down
pub bottom : {p : List ℕ} {e b c : ℕ} (s : List ℕ) (k d a : ℕ) → Ready p e c → Down p s k e b d a → (h : Part p e) → Reached p k e b d a h
bottom {p} {e} {b} s k d a r D h = reached p s k e b d a r.within D h

-- ---- up

-- On the way up to the part that ends at e and starts at b: what was built since the lists were `old` stands from a to x, and k operations
-- of the spine are left above it.
pub record Stands (p : List ℕ) (e b : ℕ) (old : List Entry) (s : List ℕ) (k a : ℕ) (l : List Entry) (x : ℕ) : Type 0 where
  pub end : ℕ
  pub down : Down p s k e b end a
  pub built : (h : Part p end) → Fits p (frag h.tree) a old l x

-- what is at the bottom is built; the spine from k on was lent
pub stands-bottom : {p : List ℕ} {e b : ℕ} {old : List Entry} {k d a : ℕ} {l : List Entry} {x : ℕ} (s t : List ℕ) (m : ℕ) → k ≤ length s → Down p s k e b d a
    → ((h : Part p d) → Fits p (frag h.tree) a old l x) → Stands p e b old (put_mid k m s t) k a l x
stands-bottom {p} {e} {b} {k = k} {d} {a} s t m h D f = record { end = d; down = down-lent p s t k m e b d a h D; built = f }

-- nothing is left above
pub stands-all : {p : List ℕ} {e b : ℕ} {old : List Entry} {s : List ℕ} {k a : ℕ} {l : List Entry} {x : ℕ} → k ≡ 0 → Stands p e b old s k a l x
    → (h : Part p e) → Fits p (frag h.tree) b old l x
stands-all {p} {e} {b} {old} {s} {k} {a} {l} {x} q S =
    let T : Stands p e b old s 0 a l x = subst (λ j. Stands p e b old s j a l x) q S in
    rw (T.down.0, T.down.1) at T.built

-- the operation that is next on the way up
module _ {p : List ℕ} {e b : ℕ} {old : List Entry} {s : List ℕ} {u a : ℕ} {l : List Entry} {x : ℕ} (w : e ≤ length p) (v : 1 ≤ u) (S : Stands p e b old s u a l x) where
  abbrev place : ℕ
  place = get_or s (u - 1) 0

  abbrev op : Op
  op = operation_at p place

  next : Stands p e b old s (suc (u - 1)) a l x
  next = let q : u ≡ suc (u - 1) = omega arith in subst (λ k. Stands p e b old s k a l x) q S

  above : (h : Part p e) → Reached p (u - 1) e b (suc place) next.down.0 h
  above h = reached p s (u - 1) e b (suc place) next.down.0 w next.down.1 h

  -- its two parts
  parts : (h : Part p e) → Both p (frag (above h).part.tree) place op
  parts h = parted (omega (arith, (above h).room)) next.down.2.two (above h).part

  left : (h : Part p (place - (joint op).right)) → Fits p (frag h.tree) (next.down.0 + (joint op).before) old l x
  left = rw (next.down.2.ends, next.down.2.starts) at next.built

  pub turn-back : (joint op).before ≤ a
  turn-back = omega (arith, next.down.2.starts)

  pub turn-within : Part p e → suc place + (u - 1) ≤ e
  turn-within h = (above h).room

  pub turn-right : Part p e → Part p place
  turn-right h = (parts h).right

  pub turn_last : Part p e → (a ≤ x) × (x < nodes_most)
  turn_last h = let f = left (parts h).left in (omega (arith, f.ends, next.down.2.starts), f.low)

  -- there are too many nodes in the right part
  pub turn-over : ((g : Part p place) → nodes_most < x + 1 + size (frag g.tree)) → (h : Part p e) → nodes_most < b + size (frag h.tree)
  turn-over g h = omega (arith, g (parts h).right, (left (parts h).left).ends, (above h).deep, (parts h).deep)

  -- the right part is built; n is the start node of both
  module _ (n : ℕ) (l₁ : List Entry) (y : ℕ) (q : a ≡ n + (joint op).before) (g : (d : Part p place) → Fits p (frag d.tree) (x + 1) l l₁ y) (h : Part p e) where
    start : next.down.0 ≡ n
    start = omega (arith, next.down.2.starts)

    bound : (l₂ : List Entry) (r : Option Node) → Binds (joint op).makes n (n + (joint op).before) x y l₁ l₂ r → (d : Part p (suc place)) → BuiltAs p (frag d.tree) n old l₂ r
    bound l₂ r f d =
        let B = parted (omega (arith, (above h).room)) next.down.2.two d in
        rw B.is (f p (frag B.left.tree) (frag B.right.tree) old l (rw start at (left B.left)) (g B.right))

    pub turn-full : Binds (joint op).makes n (n + (joint op).before) x y l₁ l₁ None → nodes_most < b + size (frag h.tree)
    turn-full f = omega (arith, bound l₁ None f (above h).part, (above h).deep, start)

    pub turn_up : (l₂ : List Entry) (z : Node) (t : List ℕ) (m : ℕ) → u ≤ length s → Binds (joint op).makes n (n + (joint op).before) x y l₁ l₂ (Some z)
        → Stands p e b old (put_mid (u - 1) m s t) (u - 1) n l₂ z.0
    turn_up l₂ z t m i f = record {
      end = suc place;
      down = down-lent p s t (u - 1) m e b (suc place) n (omega arith) (subst (Down p s (u - 1) e b (suc place)) start next.down.1);
      built = bound l₂ (Some z) f;
    }

-- what is known at a turn of the way up to a part that is ready
pub record Turn (p s : List ℕ) (e u a x : ℕ) : Type 0 where
  pub some : 1 ≤ u
  pub room : suc (get_or s (u - 1) 0) + (u - 1) ≤ e
  pub within : e ≤ length p
  pub short : e ≤ program_most
  pub right : Part p (get_or s (u - 1) 0)
  pub back : (joint (operation_at p (get_or s (u - 1) 0))).before ≤ a
  pub order : a ≤ x
  pub low : x < nodes_most

pub turn : {p : List ℕ} {e b : ℕ} {old : List Entry} {s : List ℕ} {u a : ℕ} {l : List Entry} {x c : ℕ} → Ready p e c → 1 ≤ u
    → Stands p e b old s u a l x → Turn p s e u a x
turn k v S =
    let L = turn_last k.within v S k.part in
    record {
      some = v;
      room = turn-within k.within v S k.part;
      within = k.within;
      short = k.short;
      right = turn-right k.within v S k.part;
      back = turn-back k.within v S;
      order = L.0;
      low = L.1;
    }
