-- Classes of rows: rows of one class go alike, rows of two classes are told apart by some bytes.
use mathlib.Core.Path.{◌≡◌, refl, ◌∙◌, sym, ap, ap₂, subst}
use mathlib.Core.Logic.{◌≢◌}
use mathlib.Core.Bool.{Bool, true, false}
use mathlib.Core.List.{List, [], ◌∷◌, map}
use Prim.Native.Nat.{ℕ, zero, suc, ◌+◌, ◌*◌, ◌<◌, ◌≤◌}
use native.Mathlib.Omega.{arith}
use native.Mathlib.Nat.{suc-mul}
use native.Mathlib.Decide.{ℕ_discrete, dec_lt}
use lib.Dec.{T}
use lib.ListN.{length, get_or}
use lib.Seq.{ext_get_or}
use Rattle.rules.specs.Tools.{place, same}
use Rattle.rules.specs.Drawing.{Bytes}
use Rattle.rules.specs.Grid.{Grid}
use Rattle.rules.specs.Compiled.{leasts, signs, round, settled, classes}
use Rattle.rules.proofs.Tests.{is_true, is_false}
use Rattle.rules.proofs.Lists.{same-eq, same_refl, place-le, place-hit, get_or-map-in, length-map, at}

-- ---- leasts

least_at : (sigs : List (List ℕ)) (i : ℕ) → i < length sigs → at (leasts sigs) i ≡ place (same (get_or sigs i [])) sigs
least_at sigs i l = get_or-map-in (λ s. place (same s) sigs) sigs i [] 0 l

pub least-le : (sigs : List (List ℕ)) (i : ℕ) → i < length sigs → at (leasts sigs) i ≤ i
least-le sigs i l = subst (λ (x : ℕ). x ≤ i) (sym (least_at sigs i l)) (place-le (same (get_or sigs i [])) sigs i [] l (same_refl (get_or sigs i [])))

pub least-same : (sigs : List (List ℕ)) (i : ℕ) → i < length sigs → get_or sigs (at (leasts sigs) i) [] ≡ get_or sigs i []
least-same sigs i l =
    sym (same-eq (get_or sigs i []) (get_or sigs (at (leasts sigs) i) [])
    (subst (λ (x : ℕ). T (same (get_or sigs i []) (get_or sigs x []))) (sym (least_at sigs i l)) (place-hit (same (get_or sigs i [])) sigs i [] l (same_refl (get_or sigs i [])))))

pub least-only : (sigs : List (List ℕ)) (i j : ℕ) → i < length sigs → j < length sigs → at (leasts sigs) i ≡ at (leasts sigs) j → get_or sigs i [] ≡ get_or sigs j []
least-only sigs i j li lj e = sym (least-same sigs i li) ∙ ap {B = List ℕ} (λ (x : ℕ). get_or sigs x []) e ∙ least-same sigs j lj

pub least-all : (sigs : List (List ℕ)) (i j : ℕ) → i < length sigs → j < length sigs → get_or sigs i [] ≡ get_or sigs j [] → at (leasts sigs) i ≡ at (leasts sigs) j
least-all sigs i j li lj e = least_at sigs i li ∙ ap {B = ℕ} (λ (s : List ℕ). place (same s) sigs) e ∙ sym (least_at sigs j lj)

-- p is the least place that f takes to what it takes i to
abbrev pub LeastLike : {A : Type 0} → (ℕ → A) → ℕ → ℕ → Type 0
LeastLike f i p = (p ≤ i) × (f p ≡ f i) × ((j : ℕ) → j < p → f j ≢ f i)

-- no other list has these places
leasts-only : (sigs : List (List ℕ)) (c : List ℕ) → length c ≡ length sigs → ((i : ℕ) → i < length sigs → LeastLike (λ j. get_or sigs j []) i (at c i)) → c ≡ leasts sigs
leasts-only sigs c e h = ext_get_or 0 c (leasts sigs) (e ∙ sym (length-map (λ s. place (same s) sigs) sigs)) (λ i l. one i (subst (λ (n : ℕ). i < n) e l))
  where
    one : (i : ℕ) → i < length sigs → at c i ≡ at (leasts sigs) i
    one i l = go (dec_lt (at (leasts sigs) i) (at c i))
      where
        p-in : at c i < length sigs
        p-in = omega (arith, (h i l).0)

        go : Dec (at (leasts sigs) i < at c i) → at c i ≡ at (leasts sigs) i
        go (yes a) = absurd ((h i l).2 (at (leasts sigs) i) a (least-same sigs i l))
        go (no a) = omega (arith, a, least-all sigs (at c i) i p-in l (h i l).1, least-le sigs (at c i) p-in)

-- ---- signs

abbrev pub sign_of : List ℕ → List ℕ → ℕ → List ℕ
sign_of c r k = k ∷ map (λ q. at c q) r

sign_at : (c : List ℕ) (rs : List (List ℕ)) (ks : List ℕ) (i : ℕ) → length ks ≡ length rs → i < length rs → get_or (signs c rs ks) i [] ≡ sign_of c (get_or rs i []) (at ks i)
sign_at c [] ks i e l = absurd (omega (arith, l))
sign_at c (r ∷ rs) [] i e l = absurd (omega (arith, e))
sign_at c (r ∷ rs) (k ∷ ks) zero e l = refl
sign_at c (r ∷ rs) (k ∷ ks) (suc i) e l = sign_at c rs ks i (omega arith) (omega arith)

length-signs : (c : List ℕ) (rs : List (List ℕ)) (ks : List ℕ) → length ks ≡ length rs → length (signs c rs ks) ≡ length rs
length-signs c [] ks e = refl
length-signs c (r ∷ rs) [] e = e
length-signs c (r ∷ rs) (k ∷ ks) e = ap suc (length-signs c rs ks (omega arith))

-- ---- lists of numbers, place by place

differ : (xs ys : List ℕ) → length xs ≡ length ys → xs ≢ ys → (k : ℕ) × (k < length xs) × (at xs k ≢ at ys k)
differ [] [] e n = absurd (n refl)
differ [] (y ∷ ys) e n = absurd (omega (arith, e))
differ (x ∷ xs) [] e n = absurd (omega (arith, e))
differ (x ∷ xs) (y ∷ ys) e n = go (ℕ_discrete x y) (λ g. differ xs ys (omega arith) g)
  where
    go : Dec (x ≡ y) → (xs ≢ ys → (k : ℕ) × (k < length xs) × (at xs k ≢ at ys k)) → (k : ℕ) × (k < suc (length xs)) × (at (x ∷ xs) k ≢ at (y ∷ ys) k)
    go (no q) f = (0, omega arith, q)
    go (yes q) f = let r : (k : ℕ) × (k < length xs) × (at xs k ≢ at ys k) = f (λ z. n (ap₂ {C = List ℕ} (λ (a : ℕ) (l : List ℕ). a ∷ l) q z)) in
        (suc r.0, omega (arith, r.1), r.2)

pub total : List ℕ → ℕ
total [] = 0
total (x ∷ xs) = x + total xs

total-le : (xs ys : List ℕ) → length xs ≡ length ys → ((i : ℕ) → i < length xs → at xs i ≤ at ys i) → total xs ≤ total ys
unfolding total
total-le [] ys e h = omega arith
total-le (x ∷ xs) [] e h = absurd (omega (arith, e))
total-le (x ∷ xs) (y ∷ ys) e h = omega (arith, h 0 (omega arith), total-le xs ys (omega arith) (λ i l. h (suc i) (omega arith)))

total-lt : (xs ys : List ℕ) → length xs ≡ length ys → ((i : ℕ) → i < length xs → at xs i ≤ at ys i) → (k : ℕ) → k < length xs → at xs k ≢ at ys k → total xs < total ys
unfolding total
total-lt [] ys e h k l n = absurd (omega (arith, l))
total-lt (x ∷ xs) [] e h k l n = absurd (omega (arith, e))
total-lt (x ∷ xs) (y ∷ ys) e h zero l n = omega (arith, h 0 (omega arith), n, total-le xs ys (omega arith) (λ i l. h (suc i) (omega arith)))
total-lt (x ∷ xs) (y ∷ ys) e h (suc k) l n = omega (arith, h 0 (omega arith), total-lt xs ys (omega arith) (λ i l. h (suc i) (omega arith)) k (omega arith) n)

total-most : (n : ℕ) (xs : List ℕ) → ((i : ℕ) → i < length xs → at xs i ≤ n) → total xs ≤ length xs * n
unfolding total
total-most n [] h = omega arith
total-most n (x ∷ xs) h =
    subst (λ (z : ℕ). x + total xs ≤ z) (sym (suc-mul (length xs) n)) (sum (h 0 (omega arith)) (total-most n xs (λ i l. h (suc i) (omega arith))))
  where
    sum : x ≤ n → total xs ≤ length xs * n → x + total xs ≤ length xs * n + n
    sum a b = omega arith

-- ---- rounds

abbrev pub run : List (List ℕ) → ℕ → List ℕ → ℕ
run rs i [] = i
run rs i (b ∷ bs) = run rs (at (get_or rs i []) b) bs

module _ {rs : List (List ℕ)} {ms : List ℕ} (G : Grid rs ms) where
  -- some bytes tell the rows apart
  abbrev pub Apart : ℕ → ℕ → Type 0
  Apart i j = (bs : List ℕ) × Bytes bs × (at ms (run rs i bs) ≢ at ms (run rs j bs))

  pub record Classes (c : List ℕ) : Type 0 where
    pub long : length c ≡ length rs
    pub low : (i : ℕ) → i < length rs → at c i ≤ i
    pub marks : (i j : ℕ) → i < length rs → j < length rs → at c i ≡ at c j → at ms i ≡ at ms j
    pub apart : (i j : ℕ) → i < length rs → j < length rs → at c i ≢ at c j → Apart i j

  abbrev pub sig : List ℕ → ℕ → List ℕ
  sig c i = sign_of c (get_or rs i []) (at c i)

  module _ (c : List ℕ) (C : Classes c) where
    round-long : length (round rs c) ≡ length rs
    round-long = length-map (λ s. place (same s) (signs c rs c)) (signs c rs c) ∙ length-signs c rs c C.long

    in-signs : (i : ℕ) → i < length rs → i < length (signs c rs c)
    in-signs i l = subst (λ (x : ℕ). i < x) (sym (length-signs c rs c C.long)) l

    pub together : (i j : ℕ) → i < length rs → j < length rs → at (round rs c) i ≡ at (round rs c) j → sig c i ≡ sig c j
    together i j li lj e =
        sym (sign_at c rs c i C.long li) ∙ least-only (signs c rs c) i j (in-signs i li) (in-signs j lj) e ∙ sign_at c rs c j C.long lj

    -- a list that names each row by the least of one sign
    pub round-only : (d : List ℕ) → length d ≡ length rs → ((i : ℕ) → i < length rs → LeastLike (sig c) i (at d i)) → d ≡ round rs c
    round-only d e h = leasts-only (signs c rs c) d (e ∙ sym (length-signs c rs c C.long)) (λ i l. one i (subst (λ (n : ℕ). i < n) (length-signs c rs c C.long) l))
      where
        sign : (i : ℕ) → i < length rs → get_or (signs c rs c) i [] ≡ sig c i
        sign i l = sign_at c rs c i C.long l

        one : (i : ℕ) → i < length rs → LeastLike (λ j. get_or (signs c rs c) j []) i (at d i)
        one i l = ((h i l).0, sign (at d i) (omega (arith, (h i l).0)) ∙ (h i l).1 ∙ sym (sign i l), λ j lj q. (h i l).2 j lj (sym (sign j (omega (arith, (h i l).0))) ∙ q ∙ sign i l))

    stay : (i j : ℕ) → i < length rs → j < length rs → sig c i ≡ sig c j → at (round rs c) i ≡ at (round rs c) j
    stay i j li lj e = least-all (signs c rs c) i j (in-signs i li) (in-signs j lj) (sign_at c rs c i C.long li ∙ e ∙ sym (sign_at c rs c j C.long lj))

    pub round-low : (i : ℕ) → i < length rs → at (round rs c) i ≤ i
    round-low i l = least-le (signs c rs c) i (in-signs i l)

    pub class-of-sig : (i j : ℕ) → sig c i ≡ sig c j → at c i ≡ at c j
    class-of-sig i j e = ap {B = ℕ} (λ (l : List ℕ). at l 0) e

    pub round_same : (i : ℕ) → i < length rs → sig c (at (round rs c) i) ≡ sig c i
    round_same i l = sym (sign_at c rs c (at (round rs c) i) C.long small) ∙ least-same (signs c rs c) i (in-signs i l) ∙ sign_at c rs c i C.long l
      where
        small : at (round rs c) i < length rs
        small = omega (arith, round-low i l, l)

    round-ge : (i : ℕ) → i < length rs → at c i ≤ at (round rs c) i
    round-ge i l = omega (arith, class-of-sig (at (round rs c) i) i (round_same i l), C.low (at (round rs c) i) (omega (arith, round-low i l)))

    target : (i b : ℕ) → i < length rs → b < 256 → at (map (λ q. at c q) (get_or rs i [])) b ≡ at c (at (get_or rs i []) b)
    target i b l lb = get_or-map-in (λ q. at c q) (get_or rs i []) b 0 0 (subst (λ (x : ℕ). b < x) (sym (G.wide i l)) lb)

    pub alike : (i j b : ℕ) → i < length rs → j < length rs → b < 256 → sig c i ≡ sig c j → at c (at (get_or rs i []) b) ≡ at c (at (get_or rs j []) b)
    alike i j b li lj lb e = sym (target i b li lb) ∙ ap {B = ℕ} (λ (l : List ℕ). at l (suc b)) e ∙ target j b lj lb

    pub same-sig : (i j : ℕ) → i < length rs → j < length rs → at c i ≡ at c j → ((b : ℕ) → b < 256 → at c (at (get_or rs i []) b) ≡ at c (at (get_or rs j []) b)) → sig c i ≡ sig c j
    same-sig i j li lj e h = ap₂ {C = List ℕ} (λ (k : ℕ) (l : List ℕ). k ∷ l) e
        (ext_get_or 0 (map (λ q. at c q) (get_or rs i [])) (map (λ q. at c q) (get_or rs j [])) (wide i li ∙ sym (wide j lj))
        (λ b l. let lb : b < 256 = subst (λ (n : ℕ). b < n) (wide i li) l in target i b li lb ∙ h b lb ∙ sym (target j b lj lb)))
      where
        wide : (i : ℕ) → i < length rs → length (map (λ q. at c q) (get_or rs i [])) ≡ 256
        wide i l = length-map (λ q. at c q) (get_or rs i []) ∙ G.wide i l

    round-apart : (i j : ℕ) → i < length rs → j < length rs → at (round rs c) i ≢ at (round rs c) j → Apart i j
    round-apart i j li lj n = found (differ (sig c i) (sig c j) lengths (λ e. n (stay i j li lj e)))
      where
        lengths : length (sig c i) ≡ length (sig c j)
        lengths = ap suc (length-map (λ q. at c q) (get_or rs i []) ∙ G.wide i li ∙ sym (G.wide j lj) ∙ sym (length-map (λ q. at c q) (get_or rs j [])))

        found : (k : ℕ) × (k < length (sig c i)) × (at (sig c i) k ≢ at (sig c j) k) → Apart i j
        found x = go x.0 x.1 x.2
          where
            go : (k : ℕ) → k < length (sig c i) → at (sig c i) k ≢ at (sig c j) k → Apart i j
            go zero l ne = C.apart i j li lj ne
            go (suc b) l ne =
                let lb : b < 256 = subst (λ (z : ℕ). b < z) (length-map (λ q. at c q) (get_or rs i []) ∙ G.wide i li) (omega arith) in
                let y : Apart (at (get_or rs i []) b) (at (get_or rs j []) b) = C.apart (at (get_or rs i []) b) (at (get_or rs j []) b) (G.rows i b li lb) (G.rows j b lj lb)
                (λ e. ne (target i b li lb ∙ e ∙ sym (target j b lj lb))) in
                (b ∷ y.0, (lb, y.1), y.2)

    pub round-classes : Classes (round rs c)
    round-classes = record {
      long = round-long;
      low = round-low;
      marks = λ i j li lj e. C.marks i j li lj (class-of-sig i j (together i j li lj e));
      apart = round-apart;
    }

    pub round-more : round rs c ≢ c → total c < total (round rs c)
    round-more n =
        let x : (k : ℕ) × (k < length c) × (at c k ≢ at (round rs c) k) = differ c (round rs c) (C.long ∙ sym round-long) (λ e. n (sym e)) in
        total-lt c (round rs c) (C.long ∙ sym round-long) (λ i l. round-ge i (subst (λ (z : ℕ). i < z) C.long l)) x.0 x.1 x.2

    pub total-all : total c ≤ length rs * length rs
    total-all = subst (λ (z : ℕ). total c ≤ z * length rs) C.long
        (total-most (length rs) c (λ i l. small (C.low i (subst (λ (z : ℕ). i < z) C.long l)) (subst (λ (z : ℕ). i < z) C.long l)))
      where
        small : {i x : ℕ} → x ≤ i → i < length rs → x ≤ length rs
        small a b = omega arith

  pub settled-right : (f : ℕ) (c : List ℕ) → Classes c → length rs * length rs ≤ f + total c → Classes (settled f rs c) × (round rs (settled f rs c) ≡ settled f rs c)
  settled-right zero c C h = (C, go (same (round rs c) c) refl)
    where
      go : (b : Bool) → same (round rs c) c ≡ b → round rs c ≡ c
      go true e = same-eq (round rs c) c (is_true (same (round rs c) c) e)
      go false e = absurd (omega (arith, h, round-more c C (λ q. is_false (same (round rs c) c) e (subst (λ (l : List ℕ). T (same (round rs c) l)) q (same_refl (round rs c)))), total-all (round rs c) (round-classes c C)))
  settled-right (suc f) c C h = go (same (round rs c) c) refl (λ g. settled-right f (round rs c) (round-classes c C) g)
    where
      go : (b : Bool) → same (round rs c) c ≡ b → (length rs * length rs ≤ f + total (round rs c) → Classes (settled f rs (round rs c)) × (round rs (settled f rs (round rs c)) ≡ settled f rs (round rs c)))
          → Classes (elim b [ true ↦ c | false ↦ settled f rs (round rs c) ]) × (round rs (elim b [ true ↦ c | false ↦ settled f rs (round rs c) ]) ≡ elim b [ true ↦ c | false ↦ settled f rs (round rs c) ])
      go true e rec = (C, same-eq (round rs c) c (is_true (same (round rs c) c) e))
      go false e rec = rec (omega (arith, h, round-more c C (λ q. is_false (same (round rs c) c) e (subst (λ (l : List ℕ). T (same (round rs c) l)) q (same_refl (round rs c))))))

  one-sig : (i : ℕ) → i < length rs → get_or (map (λ m. m ∷ []) ms) i [] ≡ at ms i ∷ []
  one-sig i l = get_or-map-in (λ m. m ∷ []) ms i 0 [] (subst (λ (z : ℕ). i < z) (sym G.marked) l)

  pub first-classes : Classes (leasts (map (λ m. m ∷ []) ms))
  first-classes = record {
    long = length-map (λ s. place (same s) (map (λ m. m ∷ []) ms)) (map (λ m. m ∷ []) ms) ∙ len;
    low = λ i l. least-le (map (λ m. m ∷ []) ms) i (inside i l);
    marks = λ i j li lj q. ap {B = ℕ} (λ (x : List ℕ). at x 0) (sym (one-sig i li) ∙ least-only (map (λ m. m ∷ []) ms) i j (inside i li) (inside j lj) q ∙ one-sig j lj);
    apart = λ i j li lj n. ([], tt, λ q. n (least-all (map (λ m. m ∷ []) ms) i j (inside i li) (inside j lj) (one-sig i li ∙ ap {B = List ℕ} (λ (x : ℕ). x ∷ []) q ∙ sym (one-sig j lj))));
  }
    where
      len : length (map (λ m. m ∷ []) ms) ≡ length rs
      len = length-map (λ m. m ∷ []) ms ∙ G.marked

      inside : (i : ℕ) → i < length rs → i < length (map (λ m. m ∷ []) ms)
      inside i l = subst (λ (z : ℕ). i < z) (sym len) l

  -- a list that names each row by the least with its mark
  pub first-only : (c : List ℕ) → length c ≡ length rs → ((i : ℕ) → i < length rs → LeastLike (at ms) i (at c i)) → c ≡ leasts (map (λ m. m ∷ []) ms)
  first-only c e h = leasts-only (map (λ m. m ∷ []) ms) c (e ∙ sym long) (λ i l. one i (subst (λ (n : ℕ). i < n) long l))
    where
      long : length (map (λ m. m ∷ []) ms) ≡ length rs
      long = length-map (λ m. m ∷ []) ms ∙ G.marked

      one : (i : ℕ) → i < length rs → LeastLike (λ j. get_or (map (λ m. m ∷ []) ms) j []) i (at c i)
      one i l = (
        (h i l).0,
        one-sig (at c i) (omega (arith, (h i l).0)) ∙ ap (λ (m : ℕ). m ∷ []) (h i l).1 ∙ sym (one-sig i l),
        λ j lj q. (h i l).2 j lj (ap (λ (x : List ℕ). at x 0) (sym (one-sig j (omega (arith, (h i l).0))) ∙ q ∙ one-sig i l)),
      )

  pub classes-right : Classes (classes rs ms) × (round rs (classes rs ms) ≡ classes rs ms)
  unfolding classes
  classes-right = settled-right (length rs * length rs) (leasts (map (λ m. m ∷ []) ms)) (first-classes) (omega arith)

  -- ---- no other classes

  -- rows of one class go alike
  abbrev pub Stable : List ℕ → Type 0
  Stable c = (i j b : ℕ) → i < length rs → j < length rs → b < 256 → at c i ≡ at c j → at c (at (get_or rs i []) b) ≡ at c (at (get_or rs j []) b)

  pub record Named (c : List ℕ) : Type 0 where
    pub sorted : Classes c
    pub stable : Stable c
    pub named : (i : ℕ) → i < length rs → at c (at c i) ≡ at c i

  not-apart : (c : List ℕ) → Named c → (bs : List ℕ) (i j : ℕ) → Bytes bs → i < length rs → j < length rs → at c i ≡ at c j → at ms (run rs i bs) ≡ at ms (run rs j bs)
  not-apart c N [] i j h li lj e = N.sorted.marks i j li lj e
  not-apart c N (b ∷ bs) i j h li lj e =
      not-apart c N bs (at (get_or rs i []) b) (at (get_or rs j []) b) h.1 (G.rows i b li h.0) (G.rows j b lj h.0) (N.stable i j b li lj h.0 e)

  class-le : (c d : List ℕ) → Named c → Named d → (i : ℕ) → i < length rs → at c i ≤ at d i
  class-le c d N M i l = go (ℕ_discrete (at c (at d i)) (at c i))
    where
      low : at d i < length rs
      low = omega (arith, M.sorted.low i l)

      go : Dec (at c (at d i) ≡ at c i) → at c i ≤ at d i
      go (yes e) = omega (arith, e, N.sorted.low (at d i) low)
      go (no n) = let x : Apart (at d i) i = N.sorted.apart (at d i) i low l n in absurd (x.2 (not-apart d M x.0 (at d i) i x.1 low l (M.named i l)))

  -- classes that a round leaves as they are
  pub fixed_named : (c : List ℕ) → Classes c → round rs c ≡ c → Named c
  fixed_named c C f = record {
    sorted = C;
    stable = λ i j b li lj lb e. alike c C i j b li lj lb (sym (own i li) ∙ ap {B = List ℕ} (λ (q : ℕ). sig c q) e ∙ own j lj);
    named = λ i l. class-of-sig c C (at c i) i (own i l);
  }
    where
      own : (q : ℕ) → q < length rs → sig c (at c q) ≡ sig c q
      own q l = subst (λ (x : ℕ). sig c x ≡ sig c q) (ap {B = ℕ} (λ (x : List ℕ). at x q) f) (round_same c C q l)

  pub classes-named : Named (classes rs ms)
  classes-named = fixed_named (classes rs ms) classes-right.0 classes-right.1

  pub classes-only : (c : List ℕ) → Named c → c ≡ classes rs ms
  classes-only c N = ext_get_or 0 c (classes rs ms) (N.sorted.long ∙ sym classes-right.0.long)
      (λ i l. both (class-le c (classes rs ms) N classes-named i (inside i l)) (class-le (classes rs ms) c classes-named N i (inside i l)))
    where
      inside : (i : ℕ) → i < length c → i < length rs
      inside i l = subst (λ (n : ℕ). i < n) N.sorted.long l

      both : {x y : ℕ} → x ≤ y → y ≤ x → x ≡ y
      both a b = omega arith
