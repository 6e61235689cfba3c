-- Laws of writing: pieces one after the other, what is left to write, a text from the buffer's start on.
use mathlib.Core.Path.{◌≡◌, refl, sym, ap, ap₂, ◌∙◌}
use mathlib.Core.List.{List, [], ◌∷◌, ◌++◌}
use Prim.Native.Nat.{ℕ, suc, ◌+◌}
use native.Mathlib.Nat.{add-zero}
use native.Mathlib.Omega.{arith}
use lib.ListN.{length, take, drop, set, length-append}
use lib.Seq.{sets, take-nil}
use Rattle.writing.specs.Writing.{WritesFrom, Puts}
use Rattle.writing.specs.declared.Page.{Page}

sets-append : (xs ys old : List ℕ) (at : ℕ) → sets old at (xs ++ ys) ≡ sets (sets old at xs) (at + length xs) ys
sets-append [] ys old at = ap (λ (n : ℕ). sets old n ys) (sym (add-zero at))
sets-append (x ∷ xs) ys old at = sets-append xs ys (set old at x) (suc at) ∙ ap (λ (n : ℕ). sets (sets (set old at x) (suc at) xs) n ys) shift
  where
    shift : suc at + length xs ≡ at + suc (length xs)
    shift = omega arith

pub nothing : {page : Page} → Puts page [] page
nothing {page} = record { writes = λ _. record { buffer = refl; next = sym (add-zero page.at) }; same_reference = refl }

-- one piece after another
pub join-writes : {old mid new xs ys : List ℕ} {at m n : ℕ} → WritesFrom old at xs mid m → WritesFrom mid m ys new n → WritesFrom old at (xs ++ ys) new n
join-writes {old} {mid} {new} {xs} {ys} {at} a b room =
    let front = a (omega (arith, length-append xs ys)) in
    let back = b (omega (arith, length-append xs ys, front.next)) in
    record {
      buffer = back.buffer ∙ ap₂ (λ (l : List ℕ) (n : ℕ). sets l n ys) front.buffer front.next ∙ sym (sets-append xs ys old at);
      next = omega (arith, length-append xs ys, front.next, back.next);
    }

pub join : {old mid new : Page} {xs ys : List ℕ} → Puts old xs mid → Puts mid ys new → Puts old (xs ++ ys) new
join a b = record { writes = join-writes a.writes b.writes; same_reference = b.same_reference ∙ a.same_reference }

-- What is left to write: the rest put on the page makes the whole text.
pub record Left (old : Page) (text : List ℕ) (now : Page) (rest : List ℕ) : Type 0 where
  pub whole : {new : Page} → Puts now rest new → Puts old text new

pub left-all : {page : Page} {text rest : List ℕ} → rest ≡ text → Left page text page rest
left-all {page} e = record { whole = λ w. rw e at w }

module _ {old now : Page} {text rest : List ℕ} (left : Left old text now rest) where
  pub left_less : {piece more : List ℕ} {new : Page} → rest ≡ piece ++ more → Puts now piece new → Left old text new more
  left_less {piece} {more} e w = record { whole = λ v. left.whole (rw e (join w v)) }

  pub left-none : rest ≡ [] → Puts old text now
  left-none e = left.whole (rw e nothing)

-- ---- from the buffer's start on

sets-later : (y : ℕ) (old : List ℕ) (i : ℕ) (text : List ℕ) → sets (y ∷ old) (suc i) text ≡ y ∷ sets old i text
sets-later y old i [] = refl
sets-later y old i (b ∷ text) = sets-later y (set old i b) (suc i) text

sets-nowhere : (i : ℕ) (text : List ℕ) → sets [] i text ≡ []
sets-nowhere i [] = refl
sets-nowhere i (b ∷ text) = sets-nowhere (suc i) text

pub from_start : (text old : List ℕ) → sets old 0 text ≡ take (length old) text ++ drop (length text) old
from_start [] old = sym (ap (λ (l : List ℕ). l ++ old) (take-nil (length old)))
from_start (b ∷ text) [] = sets-nowhere 1 text
from_start (b ∷ text) (y ∷ old) = sets-later b old 0 text ∙ ap (λ (l : List ℕ). b ∷ l) (from_start text old)
