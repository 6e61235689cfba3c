-- A program stays one where the words up to its end stay, and a part written after it makes it longer.
use mathlib.Core.Path.{◌≡◌, refl, sym, ap, ◌∙◌}
use mathlib.Core.List.{List}
use Prim.Native.Nat.{ℕ, suc, ◌+◌, ◌-◌, ◌^◌, ◌≤◌, ◌<◌}
use native.Mathlib.Omega.{arith}
use lib.ListN.{get_or, take}
use lib.Seq.{get_or-take, take-take}
use Rattle.rules.specs.Tree.{Tree, nothing, bytes, head, tail, in_row, either, repeated}
use Rattle.rules.specs.Signs.{dot_bytes}
use Rattle.signs.specs.Answers.{repeat_of}
use Rattle.program.specs.Program.{operation_of, operation_at, atom_words, bytes_of, four_words, Puts, PutsClass, Single, Atom, Pair, Program}
use Rattle.signs.specs.declared.count.Repeat.{Repeat}
use Rattle.program.specs.declared.Op.{Op}
use Rattle.program.specs.declared.Op.TheVariants.{Nothing, Head, Tail, Dot, Class, Byte, InRow, Either, Repeated}
use Rattle.program.proofs.ProgramLaws.{bytes-at}

-- ---- a program has at least one word

pub program-longer : (p : List ℕ) (X : Tree) (s e : ℕ) → Program p X s e → s < e
program-longer p nothing s e w = omega (arith, w.ends)
program-longer p (bytes B) s e w = omega (arith, w.some, w.words)
program-longer p head s e w = omega (arith, w.ends)
program-longer p tail s e w = omega (arith, w.ends)
program-longer p (in_row X Y) s e w = omega (arith, w.ends, program-longer p X s w.middle w.left, program-longer p Y w.middle w.last w.right)
program-longer p (either X Y) s e w = omega (arith, w.ends, program-longer p X s w.middle w.left, program-longer p Y w.middle w.last w.right)
program-longer p (repeated k X) s e w = omega (arith, w.ends, program-longer p X s w.last w.part)

-- ---- it stays one

module _ (p q : List ℕ) where
  -- the words before e are the same
  abbrev Same : ℕ → Type 0
  Same e = take e q ≡ take e p

  same_word : (e i : ℕ) → Same e → i < e → get_or q i 0 ≡ get_or p i 0
  same_word e i h l = sym (get_or-take e q i 0 l) ∙ ap (λ (x : List ℕ). get_or x i 0) h ∙ get_or-take e p i 0 l

  same_operation : (e i : ℕ) → Same e → i < e → operation_at q i ≡ operation_at p i
  same_operation e i h l = ap operation_of (same_word e i h l)

  fewer : (e k : ℕ) → Same e → k ≤ e → Same k
  fewer e k h l = sym (take-take k e q l) ∙ ap (λ (x : List ℕ). take k x) h ∙ take-take k e p l

  same-bytes-of : (e i : ℕ) → Same e → i < e → (o : Op) → atom_words o ≤ suc i → bytes_of q i o ≡ bytes_of p i o
  same-bytes-of e i h l Nothing r = refl
  same-bytes-of e i h l Head r = refl
  same-bytes-of e i h l Tail r = refl
  same-bytes-of e i h l Dot r = refl
  same-bytes-of e i h l Class r =
      rw (same_word e (i - 4) h (omega arith), same_word e (1 + (i - 4)) h (omega arith), same_word e (2 + (i - 4)) h (omega arith), same_word e (3 + (i - 4)) h (omega arith))
  same-bytes-of e i h l (Byte b) r = refl
  same-bytes-of e i h l (InRow n) r = refl
  same-bytes-of e i h l (Either n) r = refl
  same-bytes-of e i h l (Repeated k) r = refl

  single-keeps : (o : Op) (s e : ℕ) → Same e → Single p o s e → Single q o s e
  single-keeps o s e h w = record { ends = w.ends; is = same_operation e s h (omega (arith, w.ends)) ∙ w.is }

  atom-keeps : (B s e : ℕ) → Same e → Atom p B s e → Atom q B s e
  atom-keeps B s e h w =
      let l : w.last < e = omega (arith, w.ends) in
      let o = same_operation e w.last h l in
      record {
        last = w.last;
        ends = w.ends;
        is = bytes-at q w.last o ∙ same-bytes-of e w.last h l (operation_at p w.last) (omega (arith, w.ends, w.words)) ∙ sym (bytes-at p w.last refl) ∙ w.is;
        some = rw o w.some;
        words = rw o w.words;
      }

  module _ (o : ℕ → Op) (L R L' R' : ℕ → ℕ → Type 0) (longer : (m k : ℕ) → R m k → m < k) (left : (m k : ℕ) → Same k → L m k → L' m k) (right : (m k : ℕ) → Same k → R m k → R' m k) where
    pair_keeps : (s e : ℕ) → Same e → Pair p o L R s e → Pair q o L' R' s e
    pair_keeps s e h w = record {
      middle = w.middle;
      last = w.last;
      left = left s w.middle (fewer e w.middle h (omega (arith, w.ends, longer w.middle w.last w.right))) w.left;
      right = right w.middle w.last (fewer e w.last h (omega (arith, w.ends))) w.right;
      ends = w.ends;
      is = same_operation e w.last h (omega (arith, w.ends)) ∙ w.is;
    }

  pub program-keeps : (X : Tree) (s e : ℕ) → Same e → Program p X s e → Program q X s e
  program-keeps nothing s e h w = single-keeps Nothing s e h w
  program-keeps (bytes B) s e h w = atom-keeps B s e h w
  program-keeps head s e h w = single-keeps Head s e h w
  program-keeps tail s e h w = single-keeps Tail s e h w
  program-keeps (in_row X Y) s e h w = pair_keeps InRow (Program p X) (Program p Y) (Program q X) (Program q Y) (program-longer p Y) (program-keeps X) (program-keeps Y) s e h w
  program-keeps (either X Y) s e h w = pair_keeps Either (Program p X) (Program p Y) (Program q X) (Program q Y) (program-longer p Y) (program-keeps X) (program-keeps Y) s e h w
  program-keeps (repeated k X) s e h w = record {
    sign = w.sign;
    last = w.last;
    part = program-keeps X s w.last (fewer e w.last h (omega (arith, w.ends))) w.part;
    ends = w.ends;
    is = same_operation e w.last h (omega (arith, w.ends)) ∙ w.is;
    names = w.names;
  }

-- ---- one operation is written

module _ {old new : List ℕ} {n : ℕ} where
  pub wrote_one : {o : Op} → Puts old new n o → Single new o n (n + 1)
  wrote_one w = record { ends = omega arith; is = w.is }

  wrote-atom : (o : Op) → atom_words o ≡ 1 → Puts old new n o → Atom new (bytes_of new n o) n (n + 1)
  wrote-atom o e w = record {
    last = n;
    ends = omega arith;
    is = bytes-at new n w.is;
    some = rw (w.is, e) (omega arith);
    words = rw (w.is, e);
  }

  pub wrote-byte : {b : ℕ} → Puts old new n (Byte b) → Atom new (2 ^ b) n (n + 1)
  wrote-byte {b} w = wrote-atom (Byte b) refl w

  pub wrote-dot : Puts old new n Dot → Atom new dot_bytes n (n + 1)
  wrote-dot w = wrote-atom Dot refl w

  pub wrote-class : {B : ℕ} → PutsClass old new n B → Atom new B n (n + 5)
  wrote-class w = record {
    last = n + 4;
    ends = omega arith;
    is = let e : n + 4 - 4 ≡ n = omega arith in bytes-at new (n + 4) w.is ∙ ap (λ (i : ℕ). four_words new i) e ∙ w.bytes;
    some = rw w.is (omega arith);
    words = rw w.is;
  }

-- ---- an operation is written after its parts

-- what was kept up to k was kept up to any n before it
pub kept-below : (p q : List ℕ) (n k : ℕ) → take k q ≡ take k p → n ≤ k → take n q ≡ take n p
kept-below p q n k h l = fewer p q k n h l

module _ (mid new : List ℕ) (s k : ℕ) where
  pub wrote-sign : (X : Tree) (sign : Repeat) → Program mid X s k → Puts mid new k (Repeated sign) → Program new (repeated (repeat_of sign) X) s (k + 1)
  wrote-sign X sign w h = record {
    sign = sign;
    last = k;
    part = program-keeps mid new X s k h.kept w;
    ends = omega arith;
    is = h.is;
    names = refl;
  }

  pub wrote-pair : (o : ℕ → Op) (X Y : Tree) (old : List ℕ) (n : ℕ) → Program old X s n → take n mid ≡ take n old → Program mid Y n k → Puts mid new k (o (k - n))
      → Pair new o (Program new X) (Program new Y) s (k + 1)
  wrote-pair o X Y old n x kept y h =
      let l = program-longer mid Y n k y in
      record {
        middle = n;
        last = k;
        left = program-keeps old new X s n (fewer mid new k n h.kept (omega arith) ∙ kept) x;
        right = program-keeps mid new Y n k h.kept y;
        ends = omega arith;
        is = h.is;
      }
