-- A text in which given bytes are read from a given place, at the end of the text or not.
use mathlib.Core.Path.{◌≡◌, ◌∙◌, ap, ap₂}
use mathlib.Core.Bool.{Bool, true, false}
use mathlib.Core.List.{List, [], ◌∷◌, ◌++◌}
use Prim.Native.Nat.{ℕ, zero, suc, ◌+◌, ◌≤◌, ◌<◌}
use native.Mathlib.Omega.{arith}
use borrow.Author.Tests.{eq-eqb, ne_eqb}
use lib.Dec.{eqb}
use lib.ListN.{length, get_or, take, drop, replicate, length-append, length-replicate}
use lib.Seq.{slice, take_at, drop_at, take-suc, drop-append-le, length-take-le}
use Rattle.rules.specs.Table.{Table, after, begins, fits, takes}
use Rattle.rules.specs.Drawing.{Bytes}

pub bytes_of : (t : List ℕ) → ((i : ℕ) → i < length t → get_or t i 0 < 256) → Bytes t
bytes_of [] h = tt
bytes_of (x ∷ t) h = (h 0 (omega arith), bytes_of t (λ i l. h (suc i) (omega arith)))

pub byte_at : (t : List ℕ) → Bytes t → (i : ℕ) → i < length t → get_or t i 0 < 256
byte_at [] h i l = absurd (omega (arith, l))
byte_at (x ∷ t) h zero l = h.0
byte_at (x ∷ t) h (suc i) l = byte_at t h.1 i (omega arith)

pub bytes_on : (xs ys : List ℕ) → Bytes xs → Bytes ys → Bytes (xs ++ ys)
bytes_on [] ys h g = g
bytes_on (x ∷ xs) ys h g = (h.0, bytes_on xs ys h.1 g)

bytes-zeros : (n : ℕ) → Bytes (replicate n 0)
bytes-zeros zero = tt
bytes-zeros (suc n) = (omega arith, bytes-zeros n)

pub bytes-slice : (t : List ℕ) → Bytes t → (s e : ℕ) → Bytes (slice s e t)
bytes-slice t h s e = drops s (take e t) (takes-ok e t h)
  where
    takes-ok : (e : ℕ) (t : List ℕ) → Bytes t → Bytes (take e t)
    takes-ok zero t h = tt
    takes-ok (suc e) [] h = tt
    takes-ok (suc e) (x ∷ xs) h = (h.0, takes-ok e xs h.1)

    drops : (s : ℕ) (xs : List ℕ) → Bytes xs → Bytes (drop s xs)
    drops zero xs h = h
    drops (suc s) [] h = tt
    drops (suc s) (x ∷ xs) h = drops s xs h.1

abbrev tail_of : Bool → List ℕ
tail_of true = []
tail_of false = 0 ∷ []

abbrev pub text : ℕ → List ℕ → Bool → List ℕ
text s bs at_end = (replicate s 0 ++ bs) ++ tail_of at_end

module _ (s : ℕ) (bs : List ℕ) where
  long-part : length (replicate s 0 ++ bs) ≡ s + length bs
  long-part = length-append (replicate s 0) bs ∙ ap {B = ℕ} (λ (n : ℕ). n + length bs) (length-replicate s 0)

  slice-text : (f : Bool) → slice s (s + length bs) (text s bs f) ≡ bs
  slice-text f = ap {B = List ℕ} (λ (l : List ℕ). drop s l) (take_at (replicate s 0 ++ bs) (tail_of f) (s + length bs) long-part) ∙ drop_at (replicate s 0) bs s (length-replicate s 0)

  pub end-text : (f : Bool) → (eqb (s + length bs) (length (text s bs f)) ≡ f) × (s + length bs ≤ length (text s bs f))
  end-text true = (eq-eqb (s + length bs) (length (text s bs true)) (omega (arith, all_of, long-part)), omega (arith, all_of, long-part))
    where
      all_of : length (text s bs true) ≡ length (replicate s 0 ++ bs) + 0
      all_of = length-append (replicate s 0 ++ bs) []
  end-text false = (ne_eqb (s + length bs) (length (text s bs false)) (λ e. omega (arith, e, all_of, long-part)), omega (arith, all_of, long-part))
    where
      all_of : length (text s bs false) ≡ length (replicate s 0 ++ bs) + 1
      all_of = length-append (replicate s 0 ++ bs) (0 ∷ [])

  pub takes-text : (v : Table) (f : Bool) → takes v (text s bs f) s (s + length bs) ≡ fits (get_or v.marks (after v (begins v s) bs) 0) f
  unfolding takes
  takes-text v f = ap₂ {C = Bool} (λ (l : List ℕ) (b : Bool). fits (get_or v.marks (after v (begins v s) l) 0) b) (slice-text f) (end-text f).0

  pub bytes-text : Bytes bs → (f : Bool) → Bytes (text s bs f)
  bytes-text h f = bytes_on (replicate s 0 ++ bs) (tail_of f) (bytes_on (replicate s 0) bs (bytes-zeros s) h) (tail-ok f)
    where
      tail-ok : (f : Bool) → Bytes (tail_of f)
      tail-ok true = tt
      tail-ok false = (omega arith, tt)

-- a stretch read one byte further
pub slice-more : (t : List ℕ) (s p : ℕ) → s ≤ p → p < length t → slice s (suc p) t ≡ slice s p t ++ (get_or t p 0 ∷ [])
slice-more t s p sp l = rw (take-suc t p 0) (drop-append-le s (take p t) (get_or t p 0 ∷ []) (rw (length-take-le p t (omega arith)) sp))
