-- A part of the program, seen by its last operation.
use mathlib.Core.Path.{◌≡◌, refl, sym, ap, subst, subst⁻¹}
use mathlib.Core.Bool.{false, true≢false}
use mathlib.Core.List.{List}
use Prim.Native.Nat.{ℕ, suc, ◌-◌, ◌≤◌, ◌<◌}
use native.Mathlib.Omega.{arith}
use lib.ListN.{length}
use Rattle.rules.specs.Tree.{Tree, nothing, bytes, head, tail, in_row, either, repeated}
use Rattle.rules.specs.Nodes.{empty, on_head, on_tail, on_bytes, Frag, one, joined, forked, repeatedly, frag}
use Rattle.signs.specs.Answers.{repeat_of}
use Rattle.signs.specs.declared.count.Repeat.{Repeat}
use Rattle.program.specs.Program.{Pair, Program, operation_at, atom_words, atom_bytes, AtomAt}
use Rattle.program.specs.declared.Op.{Op}
use Rattle.program.specs.declared.Op.TheVariants.{Nothing, Head, Tail, Dot, Class, Byte, InRow, Either, Repeated}
use Rattle.spine.specs.Parts.{Part}
use Rattle.spine.specs.Spine.{joint}

-- an atom ends at i
pub record Leaf (p : List ℕ) (F : Frag) (i : ℕ) : Type 0 where
  pub is : F ≡ one (on_bytes (atom_bytes p i))
  pub atom : AtomAt p i

-- two parts end at i, of which the right one has n words
pub record Two (p : List ℕ) (f : Frag → Frag → Frag) (F : Frag) (i n : ℕ) : Type 0 where
  pub left : Part p (i - n)
  pub right : Part p i
  pub fits : n ≤ i
  pub is : F ≡ f (frag left.tree) (frag right.tree)

-- a part ends at i
pub record Under (p : List ℕ) (f : Frag → Frag) (F : Frag) (i : ℕ) : Type 0 where
  pub part : Part p i
  pub is : F ≡ f (frag part.tree)

-- what stands before the operation at i of a part whose fragment is F
abbrev pub Shape : List ℕ → Frag → ℕ → Op → Type 0
Shape p F i Nothing = F ≡ one empty
Shape p F i Head = F ≡ one on_head
Shape p F i Tail = F ≡ one on_tail
Shape p F i Dot = Leaf p F i
Shape p F i Class = Leaf p F i
Shape p F i (Byte b) = Leaf p F i
Shape p F i (InRow n) = Two p joined F i n
Shape p F i (Either n) = Two p forked F i n
Shape p F i (Repeated k) = Under p (repeatedly (repeat_of k)) F i

module _ (p : List ℕ) where
  pub some : (X : Tree) (s e : ℕ) → Program p X s e → s < e
  some nothing s e h = omega (arith, h.ends)
  some (bytes B) s e h = omega (arith, h.words, h.some)
  some head s e h = omega (arith, h.ends)
  some tail s e h = omega (arith, h.ends)
  some (in_row X Y) s e h = omega (arith, h.ends, some X s h.middle h.left, some Y h.middle h.last h.right)
  some (either X Y) s e h = omega (arith, h.ends, some X s h.middle h.left, some Y h.middle h.last h.right)
  some (repeated k X) s e h = omega (arith, h.ends, some X s h.last h.part)

  module _ (i : ℕ) (within : i < length p) where
    at_op : (F : Frag) (j : ℕ) (o : Op) → j ≡ i → operation_at p j ≡ o → Shape p F i o → Shape p F i (operation_at p i)
    at_op F j o e q h = subst (λ k. Shape p F i (operation_at p k)) e (subst⁻¹ (Shape p F i) q h)

    leaf : (F : Frag) (o : Op) → 0 < atom_words o → Leaf p F i → Shape p F i o
    leaf F Nothing h l = absurd (omega arith)
    leaf F Head h l = absurd (omega arith)
    leaf F Tail h l = absurd (omega arith)
    leaf F Dot h l = l
    leaf F Class h l = l
    leaf F (Byte b) h l = l
    leaf F (InRow n) h l = absurd (omega arith)
    leaf F (Either n) h l = absurd (omega arith)
    leaf F (Repeated k) h l = absurd (omega arith)

    two : (X Y : Tree) (o : ℕ → Op) (f : Frag → Frag → Frag) {s e : ℕ} → Pair p o (Program p X) (Program p Y) s e → e ≡ suc i
        → ((n : ℕ) → Two p f (f (frag X) (frag Y)) i n → Shape p (f (frag X) (frag Y)) i (o n)) → Shape p (f (frag X) (frag Y)) i (operation_at p i)
    two X Y o f {s} h q k =
        let j : h.last ≡ i = omega (arith, h.ends) in
        let m : h.middle ≡ i - (h.last - h.middle) = omega (arith, some Y h.middle h.last h.right) in
        at_op (f (frag X) (frag Y)) h.last (o (h.last - h.middle)) j h.is
        (k (h.last - h.middle)
        (record {
          left = record { tree = X; start = s; is = subst (Program p X s) m h.left };
          right = record { tree = Y; start = h.middle; is = subst (Program p Y h.middle) j h.right };
          fits = omega arith;
          is = refl;
        }))

    pub shape : (X : Tree) (s e : ℕ) → Program p X s e → e ≡ suc i → Shape p (frag X) i (operation_at p i)
    shape nothing s e h q = at_op (one empty) s Nothing (omega (arith, h.ends)) h.is refl
    shape (bytes B) s e h q =
        let j : h.last ≡ i = omega (arith, h.ends) in
        at_op (one (on_bytes B)) h.last (operation_at p h.last) j refl
        (leaf (one (on_bytes B)) (operation_at p h.last) h.some
        (subst (Leaf p (one (on_bytes B))) j
        (record {
          is = ap (λ C. one (on_bytes C)) (sym h.is);
          atom = record { within = rw j within; some = h.some; room = omega (arith, h.words) };
        })))
    shape head s e h q = at_op (one on_head) s Head (omega (arith, h.ends)) h.is refl
    shape tail s e h q = at_op (one on_tail) s Tail (omega (arith, h.ends)) h.is refl
    shape (in_row X Y) s e h q = two X Y InRow joined h q (λ n t. t)
    shape (either X Y) s e h q = two X Y Either forked h q (λ n t. t)
    shape (repeated k X) s e h q =
        let j : h.last ≡ i = omega (arith, h.ends) in
        at_op (repeatedly k (frag X)) h.last (Repeated h.sign) j h.is
        (record {
          part = record { tree = X; start = s; is = subst (Program p X s) j h.part };
          is = ap (λ r. repeatedly r (frag X)) (sym h.names);
        })

pub nonempty : {p : List ℕ} {e : ℕ} → Part p e → 1 ≤ e
nonempty {p} {e} h = omega (arith, some p h.tree h.start e h.is)

-- a part, by the operation that ends it
pub shaped : (p : List ℕ) (e : ℕ) {o : Op} → e ≤ length p → operation_at p (e - 1) ≡ o → (h : Part p e) → Shape p (frag h.tree) (e - 1) o
shaped p e w q h =
    subst (Shape p (frag h.tree) (e - 1)) q (shape p (e - 1) (omega (arith, nonempty h)) h.tree h.start e h.is (omega (arith, nonempty h)))

-- an atom, by what its operation is not
pub leaf-shaped : (p : List ℕ) (e : ℕ) (o : Op) → e ≤ length p → operation_at p (e - 1) ≡ o → (o ≡ Nothing → ⊥) → (o ≡ Head → ⊥) → (o ≡ Tail → ⊥)
    → ((k : Repeat) → o ≡ Repeated k → ⊥) → (joint o).two ≡ false → (h : Part p e) → Leaf p (frag h.tree) (e - 1)
leaf-shaped p e o w q n₁ n₂ n₃ n₄ b h = go o n₁ n₂ n₃ n₄ b (shaped p e w q h)
  where
    go : (o : Op) → (o ≡ Nothing → ⊥) → (o ≡ Head → ⊥) → (o ≡ Tail → ⊥) → ((k : Repeat) → o ≡ Repeated k → ⊥) → (joint o).two ≡ false
        → Shape p (frag h.tree) (e - 1) o → Leaf p (frag h.tree) (e - 1)
    go Nothing n₁ n₂ n₃ n₄ b s = absurd (n₁ refl)
    go Head n₁ n₂ n₃ n₄ b s = absurd (n₂ refl)
    go Tail n₁ n₂ n₃ n₄ b s = absurd (n₃ refl)
    go Dot n₁ n₂ n₃ n₄ b s = s
    go Class n₁ n₂ n₃ n₄ b s = s
    go (Byte n) n₁ n₂ n₃ n₄ b s = s
    go (InRow n) n₁ n₂ n₃ n₄ b s = absurd (true≢false b)
    go (Either n) n₁ n₂ n₃ n₄ b s = absurd (true≢false b)
    go (Repeated k) n₁ n₂ n₃ n₄ b s = absurd (n₄ k refl)
