-- Laws of copies in a row.
use mathlib.Core.Path.{◌≡◌, refl}
use mathlib.Core.Bool.{Bool, true}
use mathlib.Core.List.{List, [], ◌∷◌}
use Prim.Native.Nat.{ℕ, zero, suc, ◌+◌, ◌≤◌, ◌<◌}
use native.Mathlib.Omega.{arith}
use Rattle.rules.specs.Tools.{copies}
use Rattle.rules.specs.Sizes.{nodes_most}
use Rattle.rules.specs.Nodes.{empty, Frag, size, one, around, joined, all_joined, frag}
use Rattle.kinds.specs.declared.Node.{Node}
use Rattle.spine.specs.Parts.{Part}
use Rattle.nodes.specs.declared.fragment.Copies.{Copies}
use Rattle.entries.specs.Entries.{Links}
use Rattle.entries.specs.declared.Entry.{Entry}
use Rattle.entries.specs.declared.Kind.TheVariants.{Empty}
use Rattle.std.specs.Prelude.{Some}
use Rattle.nodes.specs.Fragments.{Fits, Builds, copies_of, copy_of, Fewer}
use Rattle.nodes.proofs.BuiltLaws.{Rest, rest_more, rest-built}

pub no_copies : (m d : ℕ) (back : Bool) (X : Frag) → m + d ≡ 0 → all_joined (copies_of m d back X) ≡ one empty
no_copies m d back X e = let h : m ≡ 0 = omega arith in let k : d ≡ 0 = omega arith in rw (h, k)

pub plain_copy : (m : ℕ) (back : Bool) (X : Frag) → 0 < m → copy_of m back X ≡ X
plain_copy zero back X h = absurd (omega arith)
plain_copy (suc m) back X h = refl

pub extra-copy : (m : ℕ) (back : Bool) (X : Frag) → m ≤ 0 → copy_of m back X ≡ around true back X
extra-copy zero back X h = refl
extra-copy (suc m) back X h = absurd (omega arith)

more : (m d : ℕ) (back : Bool) (X Y : Frag) → 0 < m + d → all_joined (Y ∷ copies_of m d back X) ≡ joined Y (all_joined (copies_of m d back X))
more zero zero back X Y h = absurd (omega arith)
more zero (suc d) back X Y h = refl
more (suc m) d back X Y h = refl

last : (m d : ℕ) (back : Bool) (X Y : Frag) → m + d ≡ 0 → all_joined (Y ∷ copies_of m d back X) ≡ Y
last m d back X Y e = let h : m ≡ 0 = omega arith in let k : d ≡ 0 = omega arith in rw (h, k)

first-within : (Y : Frag) (Zs : List Frag) → Y.last ≤ (all_joined (Y ∷ Zs)).last
first-within Y [] = omega arith
first-within Y (Z ∷ Zs) = omega arith

copy_within : (m d : ℕ) (back : Bool) (X : Frag) → 0 < m + d → (copy_of m back X).last ≤ (all_joined (copies_of m d back X)).last
copy_within zero zero back X h = absurd (omega arith)
copy_within zero (suc d) back X h = first-within (around true back X) (copies d (around true back X))
copy_within (suc m) d back X h = first-within X (copies_of m d back X)

abbrev pub all_of : Copies → Bool → Frag → Frag
all_of c back X = all_joined (copies_of c.plain c.extra back X)

-- The copies c₀ were begun at b; those that are left, c, come from a on.
pub record Copying (p : List ℕ) (e : ℕ) (back : Bool) (c₀ c : Copies) (b a : ℕ) (old now : List Entry) : Type 0 where
  pub some : 0 < c.plain + c.extra
  pub low : a < nodes_most
  pub rest : (h : Part p e) → Rest p (all_of c₀ back (frag h.tree)) b (all_of c back (frag h.tree)) a old now

-- the first copy is built, from a to x, and r is left
module _ {p : List ℕ} {e : ℕ} {back : Bool} {c₀ c r : Copies} {b a : ℕ} {old l₀ l₁ : List Entry} (w : Copying p e back c₀ c b a old l₀) (f : Fewer c r) where
  pub copying-more : {l₂ : List Entry} {x y : Node} → Builds p e (copy_of c.plain back) a l₀ l₁ (Some x) → 0 < r.plain + r.extra → Links l₁ l₂ x.0 Empty 0 (Some y)
      → Copying p e back c₀ r b y.0 old l₂
  copying-more {l₂} {x} {y} g s k = record {
    some = s;
    low = k.1;
    rest = λ h. let X : Frag = frag h.tree in rest_more p (all_of c₀ back X) (copy_of c.plain back X) (all_of r back X) b a x.0 y old l₀ l₁ l₂
        (rw (f.first back X, more r.plain r.extra back X (copy_of c.plain back X) s) at (w.rest h)) (g h) k;
  }

  pub copying-last : {x : Node} → Builds p e (copy_of c.plain back) a l₀ l₁ (Some x) → r.plain + r.extra ≡ 0 → Builds p e (all_of c₀ back) b old l₁ (Some x)
  copying-last {x} g s h = let X : Frag = frag h.tree in
      rest-built p (all_of c₀ back X) (copy_of c.plain back X) b a old l₀ l₁ (Some x)
      (rw (f.first back X, last r.plain r.extra back X (copy_of c.plain back X) s) at (w.rest h)) (g h)

  -- it leaves no room for the rest
  pub copying-full : {x : ℕ} (h : Part p e) → Fits p (copy_of c.plain back (frag h.tree)) a l₀ l₁ x → 0 < r.plain + r.extra → nodes_most ≤ suc x
      → nodes_most < b + size (all_of c₀ back (frag h.tree))
  copying-full h g s k = let X : Frag = frag h.tree in
      omega (arith, k, g.ends, rw (f.first back X, more r.plain r.extra back X (copy_of c.plain back X) s) at (w.rest h).ends)

-- there are too many nodes in the first copy
pub copying-over : {p : List ℕ} {e : ℕ} {back : Bool} {c₀ c : Copies} {b a : ℕ} {old now : List Entry} → Copying p e back c₀ c b a old now → (h : Part p e)
    → nodes_most < a + size (copy_of c.plain back (frag h.tree)) → nodes_most < b + size (all_of c₀ back (frag h.tree))
copying-over {back = back} {c = c} w h k =
    omega (arith, (w.rest h).ends, copy_within c.plain c.extra back (frag h.tree) w.some)
