-- Escapes, counts and classes: the functions of specs/Reader find just what the relations of specs/Leaves allow, and each takes at least a byte.
use mathlib.Core.Path.{◌≡◌, refl, sym, ap, ◌∙◌, subst}
use mathlib.Core.Logic.{◌≢◌}
use mathlib.Core.Bool.{Bool, true, false}
use mathlib.Core.Option.{Option, none, some}
use mathlib.Core.List.{List, [], ◌∷◌, ◌++◌}
use Prim.Native.Nat.{ℕ, zero, suc, ◌+◌, ◌*◌, ◌-◌, ◌≤◌, ◌<◌}
use native.Mathlib.Omega.{arith}
use lib.Dec.{leb, ltb, eqb}
use lib.ListN.{length, length-append}
use borrow.Author.Tests.{le-leb, leb-true, lt-ltb, ltb-true, eqb-true, ne_eqb}
use Rattle.rules.specs.Tools.{◌>>=◌, guard, or_else, if_some}
use Rattle.rules.specs.Sizes.{count_most}
use Rattle.rules.specs.Signs.{every_byte, digit, hex_digit, after_backslash, bare, named}
use Rattle.rules.specs.Tree.{Repeat}
use Rattle.rules.specs.Leaves.{Escape, Digits, Count, Member, byte, escaped, Name, this, later, Item, single, from_to, a_name, Items, last, next, Class, these, but_these}
use Rattle.rules.specs.Reader.{past, past_all, hex_byte, escape, digits, number, count, named_class, member, item, items, class}

-- f finds what R allows: no less, and no more
pub record Finds {A : Type 0} (f : List ℕ → Option (A × List ℕ)) (R : List ℕ → A → List ℕ → Type 0) : Type 0 where
  pub complete : {s u : List ℕ} {a : A} → R s a u → f s ≡ some (a, u)
  pub sound : (s : List ℕ) {u : List ℕ} {a : A} → f s ≡ some (a, u) → R s a u

-- ---- what a result tells of its parts

pub none-some {ℓ} : {A : Type 0} {B : Type ℓ} {a : A} → none ≡ some a → B
none-some e = absurd (let z : ◌≡◌ {A = ℕ} 0 1 = cc in omega arith)

record Bound {A B : Type 0} (o : Option A) (k : A → Option B) (b : B) : Type 0 where
  val : A
  found : o ≡ some val
  then : k val ≡ some b

bound : {A B : Type 0} {b : B} (o : Option A) (k : A → Option B) → (o >>= k) ≡ some b → Bound o k b
bound none k e = none-some e
bound (some a) k e = record { val = a; found = refl; then = e }

guarded : {A : Type 0} {a b : A} (t : Bool) → guard t a ≡ some b → (t ≡ true) × (some a ≡ some b)
guarded true e = (refl, e)
guarded false e = none-some e

or_else-cases : {A C : Type 0} {b : A} (x y : Option A) → or_else x y ≡ some b → (x ≡ some b → C) → (y ≡ some b → C) → C
or_else-cases none y e f g = g e
or_else-cases (some a) y e f g = f e

or_else-bound : {A B C : Type 0} {b : B} (o : Option A) (k : A → Option B) (y : Option B) → or_else (o >>= k) y ≡ some b
    → ((a : A) → o ≡ some a → k a ≡ some b → C) → (y ≡ some b → C) → C
or_else-bound none k y e f g = g e
or_else-bound (some a) k y e f g = or_else-cases (k a) y e (f a refl) g

if_some-cases : {A B C : Type 0} {b : B} (o : Option A) (f : A → B) (d : B) → if_some o f d ≡ b
    → ((a : A) → o ≡ some a → f a ≡ b → C) → (o ≡ none → d ≡ b → C) → C
if_some-cases none f d e g h = h refl e
if_some-cases (some a) f d e g h = g a refl e

-- what R says of a result, it says of an equal one
told : {A : Type 0} (R : A → List ℕ → Type 0) {a b : A} {u v : List ℕ} → R a u → ◌≡◌ {A = Option (A × List ℕ)} (some (a, u)) (some (b, v)) → R b v
told {A} R {a} {b} {u} {v} h e = let q : ◌≡◌ {A = A × List ℕ} (a, u) (b, v) = cc in subst (λ x. R x.0 x.1) q h

past_is : (c : ℕ) (s : List ℕ) {u : List ℕ} → past c s ≡ some u → s ≡ c ∷ u
past_is c [] e = none-some e
past_is c (x ∷ s) e = let g = guarded (eqb x c) e in let q = eqb-true x c g.0 in cc

past-not : (c a : ℕ) (s : List ℕ) → a ≢ c → past c (a ∷ s) ≡ none
past-not c a s h = simp (ne_eqb a c h)

past-all-is : (cs s : List ℕ) {u : List ℕ} → past_all cs s ≡ some u → s ≡ cs ++ u
past-all-is [] s e = cc
past-all-is (c ∷ cs) [] e = none-some e
past-all-is (c ∷ cs) (x ∷ s) e =
    let g = bound (guard (eqb x c) s) (past_all cs) e in
    let h = guarded (eqb x c) g.found in
    let q = eqb-true x c h.0 in
    cc (past-all-is cs g.val g.then)

-- the bytes begin with one that is P
data Begins (P : ℕ → Type 0) : List ℕ → Type 0 where
  begins : {a : ℕ} {s : List ℕ} → P a → Begins P (a ∷ s)

no-past : {P : ℕ → Type 0} {s : List ℕ} (c : ℕ) → Begins P s → (P c → ⊥) → past c s ≡ none
no-past {P} c (begins {a} {s} h) other = past-not c a s (λ q. other (subst P q h))

-- ---- escapes

escape-complete : {s u : List ℕ} {b : ℕ} → Escape s b u → escape s ≡ some (b, u)
unfolding escape
escape-complete (Escape.two e) = simp e
escape-complete (Escape.hex e f) = simp (e, f)

hex-sound : (s : List ℕ) {u : List ℕ} {b : ℕ} → hex_byte s ≡ some (b, u) → Escape (120 ∷ s) b u
hex-sound [] e = none-some e
hex-sound (a ∷ []) e = none-some e
hex-sound (a ∷ b ∷ s) e =
    let x = bound (hex_digit a) _ e in
    let y = bound (hex_digit b) _ x.then in
    told (Escape (120 ∷ a ∷ b ∷ s)) (Escape.hex x.found y.found) y.then

escape-sound : (s : List ℕ) {u : List ℕ} {b : ℕ} → escape s ≡ some (b, u) → Escape s b u
unfolding escape
escape-sound [] e = none-some e
escape-sound (c ∷ s) e = or_else-bound (after_backslash c) _ _ e
    (λ b f h. told (Escape (c ∷ s)) (Escape.two f) h)
    (λ h. let x = bound (past 120 (c ∷ s)) hex_byte h in rw (past_is 120 (c ∷ s) x.found) (hex-sound x.val x.then))

pub escape-finds : Finds escape Escape
escape-finds = record { complete = escape-complete; sound = escape-sound }

pub escape-shorter : {s u : List ℕ} {b : ℕ} → Escape s b u → length u < length s
escape-shorter (Escape.two e) = omega arith
escape-shorter (Escape.hex e f) = omega arith

-- ---- counts

-- digits that a byte ends which is no digit
number-complete : {s u : List ℕ} {c m : ℕ} → Digits s m (c ∷ u) → digit c ≡ none → m ≤ count_most → number s ≡ some (m, c ∷ u)
unfolding number
number-complete (Digits.one e) n h = simp (e, n, le-leb _ _ h)
number-complete (Digits.two e f) n h = simp (e, f, n, le-leb _ _ h)
number-complete (Digits.three e f g) n h = simp (e, f, g, le-leb _ _ h)

record Number (s : List ℕ) (m : ℕ) (u : List ℕ) : Type 0 where
  spelled : Digits s m u
  small : m ≤ count_most

third-digit : {a b x y m : ℕ} (s : List ℕ) {u : List ℕ} → digit a ≡ some x → digit b ≡ some y → digits 1 (10 * x + y) s ≡ (m, u) → Digits (a ∷ b ∷ s) m u
third-digit {a} {b} [] e f h = told (Digits (a ∷ b ∷ [])) (Digits.two e f) (ap some h)
third-digit {a} {b} (c ∷ s) e f h = if_some-cases (digit c) _ _ h
    (λ z g q. told (Digits (a ∷ b ∷ c ∷ s)) (Digits.three e f g) (ap some q))
    (λ g q. told (Digits (a ∷ b ∷ c ∷ s)) (Digits.two e f) (ap some q))

second-digit : {a x m : ℕ} (s : List ℕ) {u : List ℕ} → digit a ≡ some x → digits 2 x s ≡ (m, u) → Digits (a ∷ s) m u
second-digit {a} [] e h = told (Digits (a ∷ [])) (Digits.one e) (ap some h)
second-digit {a} (b ∷ s) e h = if_some-cases (digit b) _ _ h
    (λ y f q. third-digit s e f q)
    (λ f q. told (Digits (a ∷ b ∷ s)) (Digits.one e) (ap some q))

number-sound : (s : List ℕ) {u : List ℕ} {m : ℕ} → number s ≡ some (m, u) → Number s m u
unfolding number
number-sound [] e = none-some e
number-sound (c ∷ s) e =
    let x = bound (digit c) _ e in
    let g = guarded (leb (digits 2 x.val s).0 count_most) x.then in
    told (Number (c ∷ s)) (record { spelled = second-digit s x.found refl; small = leb-true _ _ g.0 }) g.1

digits-begin : {s u : List ℕ} {n : ℕ} → Digits s n u → Begins (λ a. digit a ≢ none) s
digits-begin (Digits.one e) = begins (λ q. none-some (sym q ∙ e))
digits-begin (Digits.two e f) = begins (λ q. none-some (sym q ∙ e))
digits-begin (Digits.three e f g) = begins (λ q. none-some (sym q ∙ e))

count-complete : {s u : List ℕ} {k : Repeat} → Count s k u → count s ≡ some (k, u)
unfolding count
count-complete (Count.exactly d h) = simp (number-complete d refl h)
count-complete (Count.or_more d h) = simp (number-complete d refl h)
count-complete (Count.up_to {m = m} {n = n} d e l h) = simp (number-complete d refl (omega arith), no-past 125 (digits-begin e) (λ h. h refl), number-complete e refl h, le-leb m n l)

count-sound : (s : List ℕ) {u : List ℕ} {k : Repeat} → count s ≡ some (k, u) → Count s k u
unfolding count
count-sound s e =
    let x = bound (number s) _ e in
    let m = number-sound s x.found in
    or_else-bound (past 125 x.val.1) _ _ x.then
    (λ v p h. told (Count s) (Count.exactly (rw (past_is 125 x.val.1 p) at m.spelled) m.small) h)
    (λ h. let v = bound (past 44 x.val.1) _ h in
    let d = rw (past_is 44 x.val.1 v.found) at m.spelled in
    or_else-bound (past 125 v.val) _ _ v.then
    (λ w p i. told (Count s) (Count.or_more (rw (past_is 125 v.val p) at d) m.small) i)
    (λ i. let y = bound (number v.val) _ i in
    let n = number-sound v.val y.found in
    let w = bound (past 125 y.val.1) _ y.then in
    let g = guarded (leb x.val.0 y.val.0) w.then in
    told (Count s) (Count.up_to d (rw (past_is 125 y.val.1 w.found) at n.spelled) (leb-true _ _ g.0) n.small) g.1))

digits-shorter : {s u : List ℕ} {b : ℕ} → Digits s b u → length u < length s
digits-shorter (Digits.one e) = omega arith
digits-shorter (Digits.two e f) = omega arith
digits-shorter (Digits.three e f g) = omega arith

pub count-finds : Finds count Count
count-finds = record { complete = count-complete; sound = count-sound }

pub count-shorter : {s u : List ℕ} {k : Repeat} → Count s k u → length u < length s
count-shorter (Count.exactly d h) = omega (arith, digits-shorter d)
count-shorter (Count.or_more d h) = omega (arith, digits-shorter d)
count-shorter (Count.up_to d e l h) = omega (arith, digits-shorter d, digits-shorter e)

-- ---- members

member-complete : {s u : List ℕ} {b : ℕ} → Member s b u → member s ≡ some (b, u)
unfolding member
member-complete (byte e) = simp e
member-complete (escaped e) = simp (escape-complete e)

member-sound : (s : List ℕ) {u : List ℕ} {b : ℕ} → member s ≡ some (b, u) → Member s b u
unfolding member
member-sound [] e = none-some e
member-sound (c ∷ s) e = or_else-cases (guard {A = ℕ × List ℕ} (bare c) (c, s)) _ e
    (λ h. let g = guarded (bare c) h in told (Member (c ∷ s)) (byte g.0) g.1)
    (λ h. let x = bound (past 92 (c ∷ s)) escape h in rw (past_is 92 (c ∷ s) x.found) (escaped (escape-sound x.val x.then)))

member-shorter : {s u : List ℕ} {b : ℕ} → Member s b u → length u < length s
member-shorter (byte e) = omega arith
member-shorter (escaped e) = omega (arith, escape-shorter e)

-- ---- named classes

-- no spelling begins another
name-complete : {s bs u : List ℕ} → Name named s bs u → named_class named s ≡ some (bs, u)
unfolding named_class
name-complete this = refl
name-complete (later this) = refl
name-complete (later (later this)) = refl
name-complete (later (later (later this))) = refl
name-complete (later (later (later (later this)))) = refl
name-complete (later (later (later (later (later this))))) = refl
name-complete (later (later (later (later (later (later this)))))) = refl
name-complete (later (later (later (later (later (later (later x))))))) = elim x [ ]

name-sound : (xs : List (List ℕ × List ℕ)) (s : List ℕ) {bs u : List ℕ} → named_class xs s ≡ some (bs, u) → Name xs s bs u
unfolding named_class
name-sound [] s e = none-some e
name-sound (x ∷ xs) s e = or_else-bound (past_all x.0 s) _ _ e
    (λ v f h. rw (past-all-is x.0 s f) (told (Name (x ∷ xs) (x.0 ++ v)) this h))
    (λ h. later (name-sound xs s h))

-- every spelling begins with `[`
abbrev Bracketed : List (List ℕ × List ℕ) → Type 0
Bracketed [] = Unit {0}
Bracketed (x ∷ xs) = Begins (λ a. a ≡ 91) x.0 × Bracketed xs

bracketed : Bracketed named
bracketed = (begins refl, (begins refl, (begins refl, (begins refl, (begins refl, (begins refl, (begins refl, tt)))))))

longer : {P : ℕ → Type 0} {s : List ℕ} (u : List ℕ) → Begins P s → Begins P (s ++ u) × (length u < length (s ++ u))
longer u (begins {s = s} h) = (begins h, omega (arith, length-append s u))

name-begins : {xs : List (List ℕ × List ℕ)} {s bs u : List ℕ} → Bracketed xs → Name xs s bs u → Begins (λ a. a ≡ 91) s × (length u < length s)
name-begins h (this {u = u}) = longer u h.0
name-begins h (later n) = name-begins h.1 n

no_member : {s : List ℕ} → Begins (λ a. a ≡ 91) s → member s ≡ none
unfolding member
no_member (begins e) = rw e refl

-- ---- items

item-sound : (s : List ℕ) {u bs : List ℕ} → item s ≡ some (bs, u) → Item s bs u
unfolding item
item-sound s e = or_else-bound (member s) _ _ e
    (λ x f h. let lo = member-sound s f in
    if_some-cases (past 45 x.1) _ _ h
    (λ t p i. let y = bound (member t) _ i in
    let g = guarded (leb x.0 y.val.0) y.then in
    told (Item s) (from_to (rw (past_is 45 x.1 p) at lo) (member-sound t y.found) (leb-true _ _ g.0)) g.1)
    (λ p i. told (Item s) (single lo) i))
    (λ h. a_name (name-sound named s h))

item-complete : {s u bs : List ℕ} → Item s bs u → past 45 u ≡ none → item s ≡ some (bs, u)
unfolding item
item-complete (single a) h = simp (member-complete a, h)
item-complete (from_to a b l) h = simp (member-complete a, member-complete b, le-leb _ _ l)
item-complete (a_name n) h = simp (no_member (name-begins bracketed n).0, name-complete n)

item-shorter : {s u bs : List ℕ} → Item s bs u → length u < length s
item-shorter (single a) = member-shorter a
item-shorter (from_to a b l) = omega (arith, member-shorter a, member-shorter b)
item-shorter (a_name n) = (name-begins bracketed n).1

-- an item begins neither with `-` nor with `]`
abbrev FirstOfItem : ℕ → Type 0
FirstOfItem a = (a ≢ 45) × (a ≢ 93)

not-bare : {a : ℕ} (c : ℕ) → bare c ≡ false → bare a ≡ true → a ≢ c
not-bare c h e q = let z : true ≡ false = sym e ∙ ap bare q ∙ h in let y : ◌≡◌ {A = ℕ} 0 1 = cc in omega arith

member-begins : {s u : List ℕ} {b : ℕ} → Member s b u → Begins FirstOfItem s
member-begins (byte e) = begins (not-bare 45 refl e, not-bare 93 refl e)
member-begins (escaped e) = begins {a = 92} (λ q. omega arith, λ q. omega arith)

item-begins : {s u bs : List ℕ} → Item s bs u → Begins FirstOfItem s
item-begins (single a) = member-begins a
item-begins (from_to a b l) = member-begins a
item-begins (a_name n) = bracket (name-begins bracketed n).0
  where
    bracket : {s : List ℕ} → Begins (λ a. a ≡ 91) s → Begins FirstOfItem s
    bracket (begins {a} e) = begins {a = a} (λ q. omega arith, λ q. omega arith)

items-begin : {s u : List ℕ} {B C : ℕ} → Items B s C u → Begins FirstOfItem s
items-begin (last i) = item-begins i
items-begin (next i r) = item-begins i

items-shorter : {s u : List ℕ} {B C : ℕ} → Items B s C u → length u < length s
items-shorter (last i) = omega (arith, item-shorter i)
items-shorter (next i r) = omega (arith, item-shorter i, items-shorter r)

items-complete : {s u : List ℕ} {B C : ℕ} (f : ℕ) → Items B s C u → length s ≤ f → items f B s ≡ some (C, u)
unfolding items
items-complete zero (last i) l = absurd (omega (arith, item-shorter i))
items-complete (suc f) (last i) l = simp (item-complete i refl)
items-complete zero (next i r) l = absurd (omega (arith, item-shorter i))
items-complete {s = s} {u = u} {B = B} {C = C} (suc f) (next {bs = bs} {t = t} i r) l =
    simp (item-complete i (no-past 45 (items-begin r) (λ h. h.0 refl)), no-past 93 (items-begin r) (λ h. h.1 refl), items-complete {s = t} f r (omega (arith, item-shorter i)))

items-sound : (f B : ℕ) (s : List ℕ) {u : List ℕ} {C : ℕ} → items f B s ≡ some (C, u) → Items B s C u
unfolding items
items-sound zero B s e = none-some e
items-sound (suc f) B s e =
    let x = bound (item s) _ e in
    let i = item-sound s x.found in
    if_some-cases (past 93 x.val.1) _ _ x.then
    (λ v p h. told (Items B s) (last (rw (past_is 93 x.val.1 p) at i)) h)
    (λ p h. next i (items-sound f _ _ h))

-- ---- classes

class-complete : {s u : List ℕ} {B : ℕ} → Class s B u → class s ≡ some (B, u)
unfolding class
class-complete (these {c = c} {s = s} h i) = simp (past-not 94 c s h, items-complete (length (c ∷ s)) i (omega arith))
class-complete (but_these {B = B} {s = s} i h) = simp (items-complete (length s) i (omega arith), lt-ltb 0 (every_byte - B) h)

no-hat : (s : List ℕ) {u : List ℕ} {B : ℕ} → past 94 s ≡ none → Items 0 s B u → Class s B u
no-hat [] p i = absurd (omega (arith, items-shorter i))
no-hat (c ∷ s) p i = these {c = c} (λ q. none-some {a = s} (sym p ∙ rw q refl)) i

class-sound : (s : List ℕ) {u : List ℕ} {B : ℕ} → class s ≡ some (B, u) → Class s B u
unfolding class
class-sound s e = if_some-cases (past 94 s) _ _ e
    (λ t p h. let x = bound (items (length t) 0 t) _ h in
    let g = guarded (ltb 0 (every_byte - x.val.0)) x.then in
    rw (past_is 94 s p) (told (Class (94 ∷ t)) (but_these (items-sound _ 0 t x.found) (ltb-true _ _ g.0)) g.1))
    (λ p h. no-hat s p (items-sound _ 0 s h))

pub class-finds : Finds class Class
class-finds = record { complete = class-complete; sound = class-sound }

pub class-shorter : {s u : List ℕ} {B : ℕ} → Class s B u → length u < length s
class-shorter (these h i) = items-shorter i
class-shorter (but_these i h) = omega (arith, items-shorter i)
