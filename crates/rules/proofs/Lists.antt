-- Lists by place: equal lists, the first place that passes, numbers in a row, kept numbers, rows laid end to end.
use mathlib.Core.Path.{◌≡◌, refl, ◌∙◌, sym, ap, ap₂, subst}
use mathlib.Core.Bool.{Bool, true, false}
use mathlib.Core.List.{List, [], ◌∷◌, ◌++◌, map}
use Prim.Native.Nat.{ℕ, zero, suc, ◌+◌, ◌-◌, ◌*◌, ◌<◌, ◌≤◌}
use native.Mathlib.Omega.{arith}
use native.Mathlib.Decide.{dec_lt, ℕ_discrete}
use borrow.Author.Tests.{eq-eqb}
use lib.Dec.{T, eqb, eqb→eq}
use lib.ListN.{length, get_or, length-append, get_or-append}
use lib.Seq.{get_or-append-add}
use Rattle.rules.specs.Tools.{up_from, place, kept, flat, same, any}
use Rattle.rules.proofs.Tests.{eq_test, by-test}

abbrev pub at : List ℕ → ℕ → ℕ
at c i = get_or c i 0

-- ---- same

pub same-eq : (xs ys : List ℕ) → T (same xs ys) → xs ≡ ys
same-eq [] [] h = refl
same-eq [] (y ∷ ys) h = absurd h
same-eq (x ∷ xs) [] h = absurd h
same-eq (x ∷ xs) (y ∷ ys) h = by-test (eqb x y) (λ b. T (elim b [ true ↦ same xs ys | false ↦ false ]) → x ∷ xs ≡ y ∷ ys)
    (λ t g. ap₂ {C = List ℕ} (λ (a : ℕ) (l : List ℕ). a ∷ l) (eqb→eq x y t) (same-eq xs ys g)) (λ n g. absurd g) h

pub same_refl : (xs : List ℕ) → T (same xs xs)
same_refl [] = tt
same_refl (x ∷ xs) = subst (λ (b : Bool). T (elim b [ true ↦ same xs xs | false ↦ false ])) (sym (eq-eqb x x refl)) (same_refl xs)

-- ---- place

module _ {A : Type 0} (f : A → Bool) where
  place-case : (C : ℕ → Type 0) (x : A) (xs : List A) → (T (f x) → C 0) → ((T (f x) → ⊥) → C (suc (place f xs))) → C (place f (x ∷ xs))
  place-case C x xs = by-test (f x) (λ c. C (elim c [ true ↦ 0 | false ↦ suc (place f xs) ]))

  -- the first place that passes is at most any place that passes, and passes
  pub place-le : (xs : List A) (i : ℕ) (d : A) → i < length xs → T (f (get_or xs i d)) → place f xs ≤ i
  place-le [] i d l h = absurd (omega (arith, l))
  place-le (x ∷ xs) zero d l h = place-case (λ p. p ≤ 0) x xs (λ t. omega arith) (λ n. absurd (n h))
  place-le (x ∷ xs) (suc i) d l h = up (place-le xs i d (omega arith) h)
    where
      up : place f xs ≤ i → place f (x ∷ xs) ≤ suc i
      up q = place-case (λ p. p ≤ suc i) x xs (λ t. omega arith) (λ n. omega arith)

  pub place-hit : (xs : List A) (i : ℕ) (d : A) → i < length xs → T (f (get_or xs i d)) → T (f (get_or xs (place f xs) d))
  place-hit [] i d l h = absurd (omega (arith, l))
  place-hit (x ∷ xs) zero d l h = place-case (λ p. T (f (get_or (x ∷ xs) p d))) x xs (λ t. t) (λ n. absurd (n h))
  place-hit (x ∷ xs) (suc i) d l h = up (place-hit xs i d (omega arith) h)
    where
      up : T (f (get_or xs (place f xs) d)) → T (f (get_or (x ∷ xs) (place f (x ∷ xs)) d))
      up q = place-case (λ p. T (f (get_or (x ∷ xs) p d))) x xs (λ t. t) (λ n. q)

pub get_or-map-in : {A B : Type 0} (f : A → B) (l : List A) (i : ℕ) (a : A) (b : B) → i < length l → get_or (map f l) i b ≡ f (get_or l i a)
get_or-map-in f [] i a b l = absurd (omega (arith, l))
get_or-map-in f (x ∷ xs) zero a b l = refl
get_or-map-in f (x ∷ xs) (suc i) a b l = get_or-map-in f xs i a b (omega arith)

pub length-map : {A B : Type 0} (f : A → B) (l : List A) → length (map f l) ≡ length l
length-map f [] = refl
length-map f (x ∷ xs) = ap suc (length-map f xs)

-- ---- any

module _ {A : Type 0} (f : A → Bool) where
  any-case : (C : Bool → Type 0) (x : A) (xs : List A) → (T (f x) → C true) → ((T (f x) → ⊥) → C (any f xs)) → C (any f (x ∷ xs))
  any-case C x xs = by-test (f x) (λ c. C (elim c [ true ↦ true | false ↦ any f xs ]))

  -- some element passes just where one at some place does
  pub any_some : (xs : List A) (d : A) → T (any f xs) → (i : ℕ) × (i < length xs) × T (f (get_or xs i d))
  any_some [] d = λ h. absurd h
  any_some (x ∷ xs) d = any-case (λ b. T b → (i : ℕ) × (i < suc (length xs)) × T (f (get_or (x ∷ xs) i d))) x xs (λ t h. (0, omega arith, t))
      (λ n h. let y : (i : ℕ) × (i < length xs) × T (f (get_or xs i d)) = any_some xs d h in (suc y.0, omega (arith, y.1), y.2))

  pub some-any : (xs : List A) (i : ℕ) (d : A) → i < length xs → T (f (get_or xs i d)) → T (any f xs)
  some-any [] i d l h = absurd (omega (arith, l))
  some-any (x ∷ xs) zero d l h = any-case T x xs (λ t. tt) (λ n. absurd (n h))
  some-any (x ∷ xs) (suc i) d l h = any-case T x xs (λ t. tt) (λ n. some-any xs i d (omega arith) h)

-- ---- numbers from n on

pub length-up_from : (n c : ℕ) → length (up_from n c) ≡ c
length-up_from n zero = refl
length-up_from n (suc c) = ap suc (length-up_from (suc n) c)

pub at-up_from : (n c i : ℕ) → i < c → at (up_from n c) i ≡ n + i
at-up_from n zero i l = absurd (omega (arith, l))
at-up_from n (suc c) zero l = omega arith
at-up_from n (suc c) (suc i) l = at-up_from (suc n) c i (omega arith) ∙ shift
  where
    shift : suc n + i ≡ n + suc i
    shift = omega arith

-- a number of a range stands in it
pub in-up_from : (n c x : ℕ) → n ≤ x → x < n + c → (x - n < length (up_from n c)) × (at (up_from n c) (x - n) ≡ x)
in-up_from n c x a b = (subst (λ (z : ℕ). x - n < z) (sym (length-up_from n c)) (omega arith), at-up_from n c (x - n) (omega arith) ∙ back)
  where
    back : n + (x - n) ≡ x
    back = omega arith

-- ---- the numbers of a range that are kept

unfoldable pub Among : ℕ → List ℕ → Type 0
Among x xs = (k : ℕ) × (k < length xs) × (at xs k ≡ x)

module _ (f : ℕ → Bool) where
  kept_case : (C : List ℕ → Type 0) (x : ℕ) (xs : List ℕ) → (T (f x) → C (x ∷ kept f xs)) → ((T (f x) → ⊥) → C (kept f xs)) → C (kept f (x ∷ xs))
  kept_case C x xs = by-test (f x) (λ c. C (elim c [ true ↦ x ∷ kept f xs | false ↦ kept f xs ]))

  abbrev pub Passes : ℕ → ℕ → ℕ → Type 0
  Passes n c x = (n ≤ x) × (x < n + c) × T (f x)

  pub kept_at : (n c k : ℕ) → k < length (kept f (up_from n c)) → Passes n c (at (kept f (up_from n c)) k)
  kept_at n zero k l = absurd (omega (arith, l))
  kept_at n (suc c) k l = kept_case (λ z. (k : ℕ) → k < length z → Passes n (suc c) (at z k)) n (up_from (suc n) c)
      (λ t. here t (kept_at (suc n) c)) (λ x j lj. wide (at (kept f (up_from (suc n) c)) j) (kept_at (suc n) c j lj)) k l
    where
      wide : (x : ℕ) → Passes (suc n) c x → Passes n (suc c) x
      wide x h = (omega (arith, h.0), omega (arith, h.1), h.2)

      here : T (f n) → ((j : ℕ) → j < length (kept f (up_from (suc n) c)) → Passes (suc n) c (at (kept f (up_from (suc n) c)) j))
          → (k : ℕ) → k < suc (length (kept f (up_from (suc n) c))) → Passes n (suc c) (at (n ∷ kept f (up_from (suc n) c)) k)
      here t rec zero l = (omega arith, omega arith, t)
      here t rec (suc k) l = wide (at (kept f (up_from (suc n) c)) k) (rec k (omega arith))

  pub kept-has : (n c x : ℕ) → Passes n c x → Among x (kept f (up_from n c))
  unfolding Among
  kept-has n zero x h = absurd (omega (arith, h.0, h.1))
  kept-has n (suc c) x h = go (ℕ_discrete n x) (λ l. kept-has (suc n) c x (l, omega (arith, h.1), h.2))
    where
      go : Dec (n ≡ x) → (suc n ≤ x → Among x (kept f (up_from (suc n) c))) → Among x (kept f (n ∷ up_from (suc n) c))
      go (yes e) rec = kept_case (Among x) n (up_from (suc n) c) (λ t. (0, omega arith, e)) (λ no-so. absurd (no-so (subst (λ (y : ℕ). T (f y)) (sym e) h.2)))
      go (no e) rec = let y : Among x (kept f (up_from (suc n) c)) = rec (omega (arith, h.0)) in
          kept_case (Among x) n (up_from (suc n) c) (λ t. (suc y.0, omega (arith, y.1), y.2)) (λ no-so. y)

  pub kept-up : (n c j k : ℕ) → j < k → k < length (kept f (up_from n c)) → at (kept f (up_from n c)) j < at (kept f (up_from n c)) k
  kept-up n zero j k l h = absurd (omega (arith, h))
  kept-up n (suc c) j k l h = kept_case (λ z. (j k : ℕ) → j < k → k < length z → at z j < at z k) n (up_from (suc n) c) (λ t. here (kept-up (suc n) c)) (λ x. kept-up (suc n) c) j k l h
    where
      here : ((j k : ℕ) → j < k → k < length (kept f (up_from (suc n) c)) → at (kept f (up_from (suc n) c)) j < at (kept f (up_from (suc n) c)) k)
          → (j k : ℕ) → j < k → k < suc (length (kept f (up_from (suc n) c))) → at (n ∷ kept f (up_from (suc n) c)) j < at (n ∷ kept f (up_from (suc n) c)) k
      here rec j zero l h = absurd (omega (arith, l))
      here rec zero (suc k) l h = (kept_at (suc n) c k (omega arith)).0
      here rec (suc j) (suc k) l h = rec j k (omega arith) (omega arith)

  pub kept-inj : (n c k j : ℕ) → k < length (kept f (up_from n c)) → j < length (kept f (up_from n c)) → at (kept f (up_from n c)) k ≡ at (kept f (up_from n c)) j → k ≡ j
  kept-inj n c k j lk lj e = go (dec_lt k j) (dec_lt j k)
    where
      go : Dec (k < j) → Dec (j < k) → k ≡ j
      go (yes a) d = absurd (omega (arith, e, kept-up n c k j a lj))
      go (no a) (yes b) = absurd (omega (arith, e, kept-up n c j k b lk))
      go (no a) (no b) = omega arith

-- ---- places, and rows laid end to end

-- the place of a number that is in the list
pub place_at : (xs : List ℕ) (x : ℕ) → Among x xs → (place (eqb x) xs < length xs) × (at xs (place (eqb x) xs) ≡ x)
unfolding Among
place_at xs x y = (omega (arith, y.1, place-le (eqb x) xs y.0 0 y.1 hit), sym (eqb→eq x (at xs (place (eqb x) xs)) (place-hit (eqb x) xs y.0 0 y.1 hit)))
  where
    hit : T (eqb x (at xs y.0))
    hit = eq_test x (at xs y.0) (sym y.2)

pub flat-at : (g : ℕ → List ℕ) (ks : List ℕ) → ((k : ℕ) → k < length ks → length (g (at ks k)) ≡ 256) → (k b : ℕ) → k < length ks → b < 256
    → at (flat (map g ks)) (256 * k + b) ≡ at (g (at ks k)) b
flat-at g [] h k b l lb = absurd (omega (arith, l))
flat-at g (x ∷ ks) h zero b l lb = ap {B = ℕ} (λ (n : ℕ). at (g x ++ flat (map g ks)) n) start ∙ get_or-append (g x) (flat (map g ks)) 0 b (omega (arith, h 0 (omega arith)))
  where
    start : 256 * 0 + b ≡ b
    start = omega arith
flat-at g (x ∷ ks) h (suc k) b l lb =
    ap {B = ℕ} (λ (n : ℕ). at (g x ++ flat (map g ks)) n) later ∙ get_or-append-add (g x) (flat (map g ks)) (256 * k + b) 0
    ∙ flat-at g ks (λ j lj. h (suc j) (omega arith)) k b (omega arith) lb
  where
    later : 256 * suc k + b ≡ length (g x) + (256 * k + b)
    later = omega (arith, h 0 (omega arith))

pub flat-length : (g : ℕ → List ℕ) (ks : List ℕ) → ((k : ℕ) → k < length ks → length (g (at ks k)) ≡ 256) → length (flat (map g ks)) ≡ 256 * length ks
flat-length g [] h = omega arith
flat-length g (x ∷ ks) h = length-append (g x) (flat (map g ks)) ∙ sum (h 0 (omega arith)) (flat-length g ks (λ j l. h (suc j) (omega arith)))
  where
    sum : length (g x) ≡ 256 → length (flat (map g ks)) ≡ 256 * length ks → length (g x) + length (flat (map g ks)) ≡ 256 * suc (length ks)
    sum a b = omega arith
