-- The list of set rows: its rows differ, each is reached, and the targets of each are in it.
use mathlib.Core.Path.{◌≡◌, refl, ◌∙◌, sym, ap, ap₂, subst}
use mathlib.Core.Logic.{◌≢◌, ◌⊎◌, inl, inr}
use mathlib.Core.Bool.{Bool, true, false, beq}
use mathlib.Core.List.{List, [], ◌∷◌, ◌++◌}
use Prim.Native.Nat.{ℕ, zero, suc, ◌+◌, ◌<◌, ◌≤◌}
use native.Mathlib.Omega.{arith}
use native.Mathlib.Nat.{le_trans}
use native.Mathlib.Decide.{ℕ_discrete, dec_lt}
use lib.Dec.{T, eqb→eq, eqb_refl, ltb}
use lib.ListN.{length}
use Rattle.rules.specs.Tools.{any}
use Rattle.rules.specs.SetRows.{SetRow, same_row, row_at, RowIn, append_new, listed}
use Rattle.rules.proofs.Tests.{both_left, both_right, both, lt_test, by-test}
use Rattle.rules.proofs.Lists.{any_some, some-any}
use Rattle.rules.proofs.Pigeon.{pigeon}

-- ---- same_row

beq-eq : (a b : Bool) → T (beq a b) → a ≡ b
beq-eq true true h = refl
beq-eq true false h = absurd h
beq-eq false true h = absurd h
beq-eq false false h = refl

beq-refl : (a : Bool) → T (beq a a)
beq-refl true = tt
beq-refl false = tt

pub same-row : (r q : SetRow) → T (same_row r q) → r ≡ q
same-row r q h = ap₂ {C = SetRow} (λ (a : Bool) (n : ℕ). record { is_head = a; nodes = n }) (beq-eq r.is_head q.is_head (both_left (beq r.is_head q.is_head) _ h))
    (eqb→eq r.nodes q.nodes (both_right (beq r.is_head q.is_head) _ h))

pub row_same : (r : SetRow) → T (same_row r r)
row_same r = both (beq r.is_head r.is_head) _ (beq-refl r.is_head) (eqb_refl r.nodes)

-- ---- a row is in a list

any-in : (r : SetRow) (rs : List SetRow) → T (any (same_row r) rs) → RowIn r rs
any-in r rs h = let x : (q : ℕ) × (q < length rs) × T (same_row r (row_at rs q)) = any_some (same_row r) rs _ h in
    (x.0, x.1, sym (same-row r (row_at rs x.0) x.2))

any_out : (r : SetRow) (rs : List SetRow) → (T (any (same_row r) rs) → ⊥) → (q : ℕ) → q < length rs → row_at rs q ≢ r
any_out r rs n q l e = n (some-any (same_row r) rs q _ l (subst (λ (z : SetRow). T (same_row r z)) (sym e) (row_same r)))

-- ---- appending

length-snoc : (rs : List SetRow) (r : SetRow) → length (rs ++ (r ∷ [])) ≡ suc (length rs)
length-snoc [] r = refl
length-snoc (x ∷ xs) r = ap suc (length-snoc xs r)

snoc_old : (rs : List SetRow) (r : SetRow) (q : ℕ) → q < length rs → row_at (rs ++ (r ∷ [])) q ≡ row_at rs q
snoc_old [] r q l = absurd (omega (arith, l))
snoc_old (x ∷ xs) r zero l = refl
snoc_old (x ∷ xs) r (suc q) l = snoc_old xs r q (omega arith)

snoc-last : (rs : List SetRow) (r : SetRow) → row_at (rs ++ (r ∷ [])) (length rs) ≡ r
snoc-last [] r = refl
snoc-last (x ∷ xs) r = snoc-last xs r

abbrev pub Extends : List SetRow → List SetRow → Type 0
Extends old rs = (length old ≤ length rs) × ((q : ℕ) → q < length old → row_at rs q ≡ row_at old q)

extends-trans : (a b c : List SetRow) → Extends a b → Extends b c → Extends a c
extends-trans a b c x y = (le_trans x.0 y.0, λ q l. y.1 q (omega (arith, l, x.0)) ∙ x.1 q l)

extends-snoc : (rs : List SetRow) (r : SetRow) → Extends rs (rs ++ (r ∷ []))
extends-snoc rs r = (omega (arith, length-snoc rs r), snoc_old rs r)

in-extends : (a b : List SetRow) (r : SetRow) → Extends a b → RowIn r a → RowIn r b
in-extends a b r x y = (y.0, omega (arith, y.1, x.0), x.1 y.0 y.1 ∙ y.2)

abbrev pub Distinct : List SetRow → Type 0
Distinct rs = (p q : ℕ) → p < length rs → q < length rs → row_at rs p ≡ row_at rs q → p ≡ q

append-case : (C : List SetRow → Type 0) (old : List SetRow) (r : SetRow) (new : List SetRow) → (RowIn r old → C (append_new old new))
    → (((q : ℕ) → q < length old → row_at old q ≢ r) → C (append_new (old ++ (r ∷ [])) new)) → C (append_new old (r ∷ new))
append-case C old r new f g = by-test (any (same_row r) old) (λ b. C (elim b [ true ↦ append_new old new | false ↦ append_new (old ++ (r ∷ [])) new ]))
    (λ t. f (any-in r old t)) (λ n. g (any_out r old n))

append-extends : (new old : List SetRow) → Extends old (append_new old new)
append-extends [] old = (omega arith, λ q l. refl)
append-extends (r ∷ new) old = append-case (Extends old) old r new (λ i. append-extends new old)
    (λ n. extends-trans old (old ++ (r ∷ [])) (append_new (old ++ (r ∷ [])) new) (extends-snoc old r) (append-extends new (old ++ (r ∷ []))))

append-has : (new old : List SetRow) (q : ℕ) → q < length new → RowIn (row_at new q) (append_new old new)
append-has [] old q l = absurd (omega (arith, l))
append-has (r ∷ new) old zero l = append-case (RowIn r) old r new (λ i. in-extends old (append_new old new) r (append-extends new old) i)
    (λ n. in-extends (old ++ (r ∷ [])) (append_new (old ++ (r ∷ [])) new) r (append-extends new (old ++ (r ∷ [])))
    (length old, omega (arith, length-snoc old r), snoc-last old r))
append-has (r ∷ new) old (suc q) l = append-case (RowIn (row_at new q)) old r new (λ i. append-has new old q (omega arith)) (λ n. append-has new (old ++ (r ∷ [])) q (omega arith))

snoc-distinct : (old : List SetRow) (r : SetRow) → Distinct old → ((q : ℕ) → q < length old → row_at old q ≢ r) → Distinct (old ++ (r ∷ []))
snoc-distinct old r d n p q lp lq e = go (dec_lt p (length old)) (dec_lt q (length old))
  where
    size : length (old ++ (r ∷ [])) ≡ suc (length old)
    size = length-snoc old r

    top : (x : ℕ) → x < length (old ++ (r ∷ [])) → (x < length old → ⊥) → x ≡ length old
    top x l h = omega (arith, size)

    last-is : (x : ℕ) → x ≡ length old → row_at (old ++ (r ∷ [])) x ≡ r
    last-is x h = ap {B = SetRow} (λ (y : ℕ). row_at (old ++ (r ∷ [])) y) h ∙ snoc-last old r

    go : Dec (p < length old) → Dec (q < length old) → p ≡ q
    go (yes a) (yes b) = d p q a b (sym (snoc_old old r p a) ∙ e ∙ snoc_old old r q b)
    go (yes a) (no b) = absurd (n p a (sym (snoc_old old r p a) ∙ e ∙ last-is q (top q lq b)))
    go (no a) (yes b) = absurd (n q b (sym (snoc_old old r q b) ∙ sym e ∙ last-is p (top p lp a)))
    go (no a) (no b) = top p lp a ∙ sym (top q lq b)

append-distinct : (new old : List SetRow) → Distinct old → Distinct (append_new old new)
append-distinct [] old d = d
append-distinct (r ∷ new) old d = append-case Distinct old r new (λ i. append-distinct new old d) (λ n. append-distinct new (old ++ (r ∷ [])) (snoc-distinct old r d n))

abbrev Every : (SetRow → Type 0) → List SetRow → Type 0
Every P rs = (q : ℕ) → q < length rs → P (row_at rs q)

snoc-every : (P : SetRow → Type 0) (old : List SetRow) (r : SetRow) → Every P old → P r → Every P (old ++ (r ∷ []))
snoc-every P old r h pr q l = go (dec_lt q (length old))
  where
    top : (q < length old → ⊥) → q ≡ length old
    top n = omega (arith, length-snoc old r)

    go : Dec (q < length old) → P (row_at (old ++ (r ∷ [])) q)
    go (yes a) = subst P (sym (snoc_old old r q a)) (h q a)
    go (no a) = subst P (sym (ap {B = SetRow} (λ (y : ℕ). row_at (old ++ (r ∷ [])) y) (top a) ∙ snoc-last old r)) pr

append-every : (P : SetRow → Type 0) (new old : List SetRow) → Every P old → Every P new → Every P (append_new old new)
append-every P [] old h g = h
append-every P (r ∷ new) old h g = append-case (Every P) old r new (λ i. append-every P new old h (λ q l. g (suc q) (omega arith)))
    (λ n. append-every P new (old ++ (r ∷ [])) (snoc-every P old r h (g 0 (omega arith))) (λ q l. g (suc q) (omega arith)))

-- ---- the list

module _ (f : SetRow → List SetRow) where
  listed-case : (C : List SetRow → Type 0) (n i : ℕ) (rs : List SetRow) → (i < length rs → C (listed n f (suc i) (append_new rs (f (row_at rs i))))) → ((i < length rs → ⊥) → C rs) → C (listed (suc n) f i rs)
  listed-case C n i rs on stop = by-test (ltb i (length rs)) (λ b. C (elim b [ true ↦ listed n f (suc i) (append_new rs (f (row_at rs i))) | false ↦ rs ]))
      (λ t. on ((lt_test i (length rs)).0 t)) (λ no-so. stop (λ l. no-so ((lt_test i (length rs)).1 l)))

  pub listed-step : (n i : ℕ) (rs : List SetRow) → i < length rs → listed (suc n) f i rs ≡ listed n f (suc i) (append_new rs (f (row_at rs i)))
  listed-step n i rs l = listed-case (λ x. x ≡ listed n f (suc i) (append_new rs (f (row_at rs i)))) n i rs (λ h. refl) (λ h. absurd (h l))

  pub listed-done : (n i : ℕ) (rs : List SetRow) → length rs ≤ i → listed n f i rs ≡ rs
  listed-done zero i rs l = refl
  listed-done (suc n) i rs l = listed-case (λ x. x ≡ rs) n i rs (λ h. absurd (omega arith)) (λ h. refl)

  pub listed-extends : (n i : ℕ) (rs : List SetRow) → Extends rs (listed n f i rs)
  listed-extends zero i rs = (omega arith, λ q l. refl)
  listed-extends (suc n) i rs = go (dec_lt i (length rs)) (listed-extends n (suc i) (append_new rs (f (row_at rs i))))
    where
      A : List SetRow
      A = append_new rs (f (row_at rs i))

      go : Dec (i < length rs) → Extends A (listed n f (suc i) A) → Extends rs (listed (suc n) f i rs)
      go (yes l) x = subst (λ (y : List SetRow). Extends rs y) (sym (listed-step n i rs l)) (extends-trans rs A (listed n f (suc i) A) (append-extends (f (row_at rs i)) rs) x)
      go (no l) x = subst (λ (y : List SetRow). Extends rs y) (sym (listed-done (suc n) i rs (omega arith))) (omega arith, λ q lq. refl)

module _ (f : SetRow → List SetRow) (P : SetRow → Type 0) (keeps : (r : SetRow) → P r → Every P (f r))
    (N : ℕ) (code : SetRow → ℕ) (small : (r : SetRow) → P r → code r < N) (told : (r q : SetRow) → P r → P q → code r ≡ code q → r ≡ q) where
  -- the targets of row p are in the list
  abbrev pub Handled : List SetRow → ℕ → Type 0
  Handled rs p = (b : ℕ) → b < length (f (row_at rs p)) → RowIn (row_at (f (row_at rs p)) b) rs

  pub record Listed (rs : List SetRow) : Type 0 where
    pub distinct : Distinct rs
    pub reached : Every P rs
    pub handled : (p : ℕ) → p < length rs → Handled rs p

  pub few : (rs : List SetRow) → Distinct rs → Every P rs → length rs ≤ N
  few rs d e = pigeon (length rs) N (λ i. code (row_at rs i)) (λ i l. small (row_at rs i) (e i l)) (λ i j li lj q. d i j li lj (told (row_at rs i) (row_at rs j) (e i li) (e j lj) q))

  pub listed-right : (n i : ℕ) (rs : List SetRow) → Distinct rs → Every P rs → ((p : ℕ) → p < i → p < length rs → Handled rs p) → N ≤ n + i → Listed (listed n f i rs)
  listed-right zero i rs d e h l = record { distinct = d; reached = e; handled = λ p lp. h p (omega (arith, few rs d e)) lp }
  listed-right (suc n) i rs d e h l = go (dec_lt i (length rs)) (listed-right n (suc i) (append_new rs (f (row_at rs i))) (append-distinct (f (row_at rs i)) rs d))
    where
      A : List SetRow
      A = append_new rs (f (row_at rs i))

      ext : Extends rs A
      ext = append-extends (f (row_at rs i)) rs

      -- a row of rs whose targets are all in A
      moved : (p : ℕ) → p < length rs → ((b : ℕ) → b < length (f (row_at rs p)) → RowIn (row_at (f (row_at rs p)) b) A) → Handled A p
      moved p lp g = subst (λ (r : SetRow). (b : ℕ) → b < length (f r) → RowIn (row_at (f r) b) A) (sym (ext.1 p lp)) g

      handled-now : i < length rs → (p : ℕ) → p < suc i → p < length A → Handled A p
      handled-now li p lp lr = pick (dec_lt p i)
        where
          is-i : (p < i → ⊥) → i ≡ p
          is-i n = omega arith

          pick : Dec (p < i) → Handled A p
          pick (yes a) = moved p (omega arith) (λ b lb. in-extends rs A (row_at (f (row_at rs p)) b) ext (h p a (omega arith) b lb))
          pick (no a) = subst (Handled A) (is-i a) (moved i li (append-has (f (row_at rs i)) rs))

      go : Dec (i < length rs) → (Every P A → ((p : ℕ) → p < suc i → p < length A → Handled A p) → N ≤ n + suc i → Listed (listed n f (suc i) A)) → Listed (listed (suc n) f i rs)
      go (yes li) rec = subst Listed (sym (listed-step f n i rs li)) (rec (append-every P (f (row_at rs i)) rs e (keeps (row_at rs i) (e i li))) (handled-now li) (omega arith))
      go (no past) rec = subst Listed (sym (listed-done f (suc n) i rs (omega arith))) (record { distinct = d; reached = e; handled = λ p lp. h p (omega arith) lp })

-- ---- the order of the list

-- what is appended comes from new, and what stands before a row of new, if it is appended too, comes from an earlier one
pub record Fresh (old new A : List SetRow) : Type 0 where
  pub came : (m : ℕ) → length old ≤ m → m < length A → (b : ℕ) × (b < length new) × (row_at new b ≡ row_at A m)
  pub order : (b m y : ℕ) → b < length new → m < length A → row_at A m ≡ row_at new b → length old ≤ y → y < m → (c : ℕ) × (c < b) × (row_at new c ≡ row_at A y)

append-fresh : (new old : List SetRow) → Distinct (append_new old new) → Fresh old new (append_new old new)
append-fresh [] old = λ d. record { came = λ m l h. absurd (omega arith); order = λ b m y l. absurd (omega (arith, l)) }
append-fresh (r ∷ new) old = append-case (λ A. Distinct A → Fresh old (r ∷ new) A) old r new
    (λ i d. was-in i d (append-fresh new old d)) (λ n d. was-not d (append-fresh new (old ++ (r ∷ [])) d))
  where
    was-in : RowIn r old → Distinct (append_new old new) → Fresh old new (append_new old new) → Fresh old (r ∷ new) (append_new old new)
    was-in i d F = record {
      came = λ m l h. let x : (b : ℕ) × (b < length new) × (row_at new b ≡ row_at (append_new old new) m) = F.came m l h in (suc x.0, omega (arith, x.1), x.2);
      order = ord;
    }
      where
        ext : Extends old (append_new old new)
        ext = append-extends new old

        ord : (b m y : ℕ) → b < suc (length new) → m < length (append_new old new) → row_at (append_new old new) m ≡ row_at (r ∷ new) b → length old ≤ y → y < m
            → (c : ℕ) × (c < b) × (row_at (r ∷ new) c ≡ row_at (append_new old new) y)
        ord zero m y lb lm e ly my = absurd (omega (arith, i.1, d m i.0 lm (omega (arith, i.1, ext.0)) (e ∙ sym (ext.1 i.0 i.1 ∙ i.2))))
        ord (suc b) m y lb lm e ly my = let x : (c : ℕ) × (c < b) × (row_at new c ≡ row_at (append_new old new) y) = F.order b m y (omega arith) lm e ly my in (suc x.0, omega (arith, x.1), x.2)

    was-not : Distinct (append_new (old ++ (r ∷ [])) new) → Fresh (old ++ (r ∷ [])) new (append_new (old ++ (r ∷ [])) new) → Fresh old (r ∷ new) (append_new (old ++ (r ∷ [])) new)
    was-not d F = record { came = cam; order = ord }
      where
        A : List SetRow
        A = append_new (old ++ (r ∷ [])) new

        ext : Extends (old ++ (r ∷ [])) A
        ext = append-extends new (old ++ (r ∷ []))

        size : length (old ++ (r ∷ [])) ≡ suc (length old)
        size = length-snoc old r

        mid : row_at A (length old) ≡ r
        mid = ext.1 (length old) (omega (arith, size)) ∙ snoc-last old r

        cam : (m : ℕ) → length old ≤ m → m < length A → (b : ℕ) × (b < suc (length new)) × (row_at (r ∷ new) b ≡ row_at A m)
        cam m l h = go (ℕ_discrete (length old) m)
          where
            go : Dec (length old ≡ m) → (b : ℕ) × (b < suc (length new)) × (row_at (r ∷ new) b ≡ row_at A m)
            go (yes e) = (0, omega arith, sym mid ∙ ap {B = SetRow} (λ (x : ℕ). row_at A x) e)
            go (no e) = let x : (b : ℕ) × (b < length new) × (row_at new b ≡ row_at A m) = F.came m (omega (arith, size)) h in (suc x.0, omega (arith, x.1), x.2)

        ord : (b m y : ℕ) → b < suc (length new) → m < length A → row_at A m ≡ row_at (r ∷ new) b → length old ≤ y → y < m → (c : ℕ) × (c < b) × (row_at (r ∷ new) c ≡ row_at A y)
        ord zero m y lb lm e ly my = absurd (omega (arith, d m (length old) lm (omega (arith, size, ext.0)) (e ∙ sym mid)))
        ord (suc b) m y lb lm e ly my = go (ℕ_discrete (length old) y)
          where
            go : Dec (length old ≡ y) → (c : ℕ) × (c < suc b) × (row_at (r ∷ new) c ≡ row_at A y)
            go (yes q) = (0, omega arith, sym mid ∙ ap {B = SetRow} (λ (x : ℕ). row_at A x) q)
            go (no q) = let x : (c : ℕ) × (c < b) × (row_at new c ≡ row_at A y) = F.order b m y (omega arith) lm e (omega (arith, size)) my in (suc x.0, omega (arith, x.1), x.2)

module _ (f : SetRow → List SetRow) (k : ℕ) (L : List SetRow) (d : Distinct L) where
  -- row y stands first in the list, or is the target of row p on byte c, before the target of row q on byte b
  abbrev pub Before : ℕ → ℕ → ℕ → Type 0
  Before y q b = (y < k) ⊎ ((p : ℕ) × (c : ℕ) × ((p < q) ⊎ ((p ≡ q) × (c < b))) × (c < length (f (row_at L p))) × (row_at (f (row_at L p)) c ≡ row_at L y))

  pub record InOrder (q : ℕ) : Type 0 where
    pub own : Before q q 0
    pub target : (b m y : ℕ) → b < length (f (row_at L q)) → m < length L → row_at L m ≡ row_at (f (row_at L q)) b → y < m → Before y q b

  pub in_order : (n i : ℕ) (rs : List SetRow) → listed n f i rs ≡ L → length L ≤ n + i → ((y : ℕ) → y < length rs → Before y i 0)
      → (q : ℕ) → i ≤ q → q < length L → InOrder q
  in_order zero i rs e l h q lq lL = absurd (omega arith)
  in_order (suc n) i rs e l h q lq lL = go (dec_lt i (length rs)) (in_order n (suc i) (append_new rs (f (row_at rs i))))
    where
      A : List SetRow
      A = append_new rs (f (row_at rs i))

      go : Dec (i < length rs)
          → (listed n f (suc i) A ≡ L → length L ≤ n + suc i → ((y : ℕ) → y < length A → Before y (suc i) 0) → (q : ℕ) → suc i ≤ q → q < length L → InOrder q) → InOrder q
      go (no past) rec = absurd (omega (arith, ap {B = ℕ} (λ (x : List SetRow). length x) (sym (listed-done f (suc n) i rs (omega arith)) ∙ e)))
      go (yes li) rec = pick (ℕ_discrete i q)
        where
          made : listed n f (suc i) A ≡ L
          made = sym (listed-step f n i rs li) ∙ e

          extA : Extends A L
          extA = subst (λ (x : List SetRow). Extends A x) made (listed-extends f n (suc i) A)

          extR : Extends rs L
          extR = extends-trans rs A L (append-extends (f (row_at rs i)) rs) extA

          dA : Distinct A
          dA p q lp lq x = d p q (omega (arith, extA.0)) (omega (arith, extA.0)) (extA.1 p lp ∙ x ∙ sym (extA.1 q lq))

          F : Fresh rs (f (row_at rs i)) A
          F = append-fresh (f (row_at rs i)) rs dA

          row-i : row_at L i ≡ row_at rs i
          row-i = extR.1 i li

          -- a target of row i, as a target in L
          as-target : (y q b c : ℕ) → (i < q) ⊎ ((i ≡ q) × (c < b)) → y < length A → c < length (f (row_at rs i)) → row_at (f (row_at rs i)) c ≡ row_at A y → Before y q b
          as-target y q b c o ly lc x = inr (
            i,
            c,
            o,
            subst (λ (r : SetRow). c < length (f r)) (sym row-i) lc,
            ap {B = SetRow} (λ (r : SetRow). row_at (f r) c) row-i ∙ x ∙ sym (extA.1 y ly),
          )

          later : (y q b : ℕ) → i ≤ q → Before y i 0 → Before y q b
          later y q b lq (inl x) = inl x
          later y q b lq (inr x) = inr (x.0, x.1, shift x.2, x.3, x.4)
            where
              shift : (x.0 < i) ⊎ ((x.0 ≡ i) × (x.1 < 0)) → (x.0 < q) ⊎ ((x.0 ≡ q) × (x.1 < b))
              shift (inl z) = inl (omega arith)
              shift (inr z) = absurd (omega (arith, z.1))

          at_i : InOrder i
          at_i = record { own = h i li; target = tgt }
            where
              tgt : (b m y : ℕ) → b < length (f (row_at L i)) → m < length L → row_at L m ≡ row_at (f (row_at L i)) b → y < m → Before y i b
              tgt b m y lb lm x ym = sort (dec_lt y (length rs))
                where
                  lb' : b < length (f (row_at rs i))
                  lb' = subst (λ (r : SetRow). b < length (f r)) row-i lb

                  x' : row_at L m ≡ row_at (f (row_at rs i)) b
                  x' = x ∙ ap {B = SetRow} (λ (r : SetRow). row_at (f r) b) row-i

                  place_of : RowIn (row_at (f (row_at rs i)) b) A
                  place_of = append-has (f (row_at rs i)) rs b lb'

                  m-is : m ≡ place_of.0
                  m-is = d m place_of.0 lm (omega (arith, place_of.1, extA.0)) (x' ∙ sym (extA.1 place_of.0 place_of.1 ∙ place_of.2))

                  lmA : m < length A
                  lmA = omega (arith, m-is, place_of.1)

                  sort : Dec (y < length rs) → Before y i b
                  sort (yes ly) = later y i b (omega arith) (h y ly)
                  sort (no ny) = let z : (c : ℕ) × (c < b) × (row_at (f (row_at rs i)) c ≡ row_at A y) = F.order b m y lb' lmA (sym (extA.1 m lmA) ∙ x') (omega arith) ym in
                      as-target y i b z.0 (inr (refl, z.1)) (omega (arith, lmA)) (omega (arith, z.1, lb')) z.2

          beyond : (y : ℕ) → y < length A → Before y (suc i) 0
          beyond y ly = sort (dec_lt y (length rs))
            where
              sort : Dec (y < length rs) → Before y (suc i) 0
              sort (yes l) = later y (suc i) 0 (omega arith) (h y l)
              sort (no n) = let z : (b : ℕ) × (b < length (f (row_at rs i))) × (row_at (f (row_at rs i)) b ≡ row_at A y) = F.came y (omega arith) ly in
                  as-target y (suc i) 0 z.0 (inl (omega arith)) ly z.1 z.2

          pick : Dec (i ≡ q) → InOrder q
          pick (yes z) = subst InOrder z at_i
          pick (no z) = rec made (omega arith) beyond q (omega arith) lL
