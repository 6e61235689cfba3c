-- Rows and choices by their operations, and the way down to a left part.
use mathlib.Core.Path.{◌≡◌, refl, sym, ◌∙◌, subst}
use mathlib.Core.Bool.{true, true≢false}
use mathlib.Core.List.{List, ◌++◌}
use Prim.Native.Nat.{ℕ, zero, suc, ◌+◌, ◌-◌, ◌≤◌, ◌<◌}
use native.Mathlib.Numerals.{add-one}
use native.Mathlib.Omega.{arith}
use lib.ListN.{length, get_or, set, take, drop, length-take, get_or-append}
use lib.Seq.{get_or-set_same, get_or-set_other, get_or-take}
use borrow.Rule.Slice.PartMut.{put_mid}
use Rattle.rules.specs.Nodes.{Frag, size, frag}
use Rattle.program.specs.Program.{operation_at}
use Rattle.program.specs.declared.Op.{Op}
use Rattle.program.specs.declared.Op.TheVariants.{Nothing, Head, Tail, Dot, Class, Byte, InRow, Either, Repeated}
use Rattle.spine.specs.Parts.{Part}
use Rattle.spine.specs.Spine.{joint, Splits, Down}
use Rattle.spine.proofs.PartLaws.{Shape, shape}

-- ---- a row or a choice

-- its two parts, and that their nodes are among its own
pub record Both (p : List ℕ) (F : Frag) (i : ℕ) (o : Op) : Type 0 where
  pub left : Part p (i - (joint o).right)
  pub right : Part p i
  pub fits : (joint o).right ≤ i
  pub is : F ≡ (joint o).makes (frag left.tree) (frag right.tree)
  pub near : (joint o).before ≤ 1
  pub deep : (joint o).before + size (frag left.tree) + (frag right.tree).last ≤ F.last

pub both : {p : List ℕ} {F : Frag} {i : ℕ} (o : Op) → (joint o).two ≡ true → Shape p F i o → Both p F i o
both Nothing e t = absurd (true≢false (sym e))
both Head e t = absurd (true≢false (sym e))
both Tail e t = absurd (true≢false (sym e))
both Dot e t = absurd (true≢false (sym e))
both Class e t = absurd (true≢false (sym e))
both (Byte b) e t = absurd (true≢false (sym e))
both (InRow n) e t = record { left = t.left; right = t.right; fits = t.fits; is = t.is; near = omega arith; deep = rw t.is (omega arith) }
both (Either n) e t = record { left = t.left; right = t.right; fits = t.fits; is = t.is; near = omega arith; deep = rw t.is (omega arith) }
both (Repeated k) e t = absurd (true≢false (sym e))

-- of a part that ends after i
pub parted : {p : List ℕ} {i : ℕ} → i < length p → (joint (operation_at p i)).two ≡ true → (h : Part p (suc i)) → Both p (frag h.tree) i (operation_at p i)
parted {p} {i} w e h = both (operation_at p i) e (shape p i w h.tree h.start (suc i) h.is refl)

-- ---- down

-- what is reached from the part h, past k operations
pub record Reached (p : List ℕ) (k e b d a : ℕ) (h : Part p e) : Type 0 where
  pub part : Part p d
  pub room : d + k ≤ e
  pub near : a ≤ b + k
  pub deep : a + (frag part.tree).last ≤ b + (frag h.tree).last

module _ (p : List ℕ) where
  pub reached : (s : List ℕ) (k e b d a : ℕ) → e ≤ length p → Down p s k e b d a → (h : Part p e) → Reached p k e b d a h
  reached s zero e b d a w D h = rw (D.0, D.1) (record { part = h; room = omega arith; near = omega arith; deep = omega arith })
  reached s (suc k) e b d a w D h =
      let R = reached s k e b (suc (get_or s k 0)) D.0 w D.1 h in
      let B = parted (omega (arith, R.room)) D.2.two R.part in
      rw (D.2.ends, D.2.starts) (record { part = B.left; room = omega (arith, R.room); near = omega (arith, R.near, B.near); deep = omega (arith, R.deep, B.deep) })

  -- only the first k places of the spine matter
  pub down-kept : (s t : List ℕ) (k e b d a : ℕ) → ((j : ℕ) → j < k → get_or t j 0 ≡ get_or s j 0) → Down p s k e b d a → Down p t k e b d a
  down-kept s t zero e b d a h D = D
  down-kept s t (suc k) e b d a h D = rw (h k (omega arith)) (D.0, down-kept s t k e b (suc (get_or s k 0)) D.0 (λ j i. h j (omega arith)) D.1, D.2)

  -- the operation that ends the part is passed
  pub down-more : (s : List ℕ) (k e b c : ℕ) {n d a : ℕ} → k < length s → 1 ≤ c → Down p s k e b c n → Splits (operation_at p (c - 1)) (c - 1) n d a
      → Down p (set s k (c - 1)) (k + 1) e b d a
  down-more s k e b c {n} h l D S =
      let q : c ≡ suc (c - 1) = omega arith in
      rw (add-one, get_or-set_same s k (c - 1) 0 h)
      (n, down-kept s (set s k (c - 1)) k e b (suc (c - 1)) n (λ j l. get_or-set_other s k j (c - 1) 0 (λ v. omega arith)) (subst (λ m. Down p s k e b m n) q D), S)

  -- the part of the spine from k on was lent
  pub down-lent : (s t : List ℕ) (k m e b d a : ℕ) → k ≤ length s → Down p s k e b d a → Down p (put_mid k m s t) k e b d a
  down-lent s t k m e b d a h = down-kept s (put_mid k m s t) k e b d a
      (λ j i. get_or-append (take k s) (t ++ drop m (drop k s)) 0 j (simp length-take (omega arith)) ∙ get_or-take k s j 0 i)
