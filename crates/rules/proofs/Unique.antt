-- A numbered table no two of whose rows go alike is smallest, and two of these that take the same stretches are equal.
use mathlib.Core.Path.{◌≡◌, refl, ◌∙◌, sym, ap, ap₂, subst}
use mathlib.Core.Logic.{◌≢◌, inl, inr}
use mathlib.Core.Bool.{Bool, true, false}
use mathlib.Core.List.{List, [], ◌∷◌, ◌++◌}
use Prim.Native.Nat.{ℕ, zero, suc, ◌+◌, ◌*◌, ◌-◌, ◌/◌, ◌%◌, ◌<◌, ◌≤◌, max}
use native.Mathlib.Omega.{arith}
use native.Mathlib.Decide.{ℕ_discrete, dec_lt}
use lib.ListN.{length, get_or}
use lib.Seq.{ext_get_or}
use Rattle.rules.specs.Table.{Table, cell, after, begins, fits, takes, Mark, Formed}
use Rattle.rules.specs.Drawing.{Bytes, Alike, Exact, Smallest, SameRows, Merged, listed_by, Numbered}
use Rattle.rules.proofs.Tests.{both_ways}
use Rattle.rules.proofs.Pigeon.{pigeon, pigeon-but}
use Rattle.rules.proofs.TableLaws.{after-append}
use Rattle.rules.proofs.Texts.{bytes_on, text, end-text, takes-text, bytes-text}

-- ---- rows that nothing tells apart

same-begins : (w v : Table) → Alike w v → (s : ℕ) → SameRows w (begins w s) v (begins v s)
same-begins w v like s z hz f =
    sym (takes-text s z w f)
    ∙ both_ways (takes w (text s z f) s (s + length z)) (takes v (text s z f) s (s + length z)) (like (text s z f) (bytes-text s z hz f) s (s + length z) (omega arith) (end-text s z f).1)
    ∙ takes-text s z v f

same_after : (w v : Table) (p q : ℕ) → SameRows w p v q → (xs : List ℕ) → Bytes xs → SameRows w (after w p xs) v (after v q xs)
same_after w v p q h [] hx = h
same_after w v p q h (b ∷ xs) hx = same_after w v (cell w p b) (cell v q b) (λ z hz f. h (b ∷ z) (hx.0, hz) f) xs hx.1

-- a mark is known by what it fits
known : Bool → Bool → ℕ
known a b = elim a [ true ↦ 3 | false ↦ elim b [ true ↦ 2 | false ↦ 0 ] ]

known-mark : (m : ℕ) → Mark m → known (fits m false) (fits m true) ≡ m
unfolding known
known-mark m (inl e) = subst (λ (x : ℕ). known (fits x false) (fits x true) ≡ x) (sym e) refl
known-mark m (inr (inl e)) = subst (λ (x : ℕ). known (fits x false) (fits x true) ≡ x) (sym e) refl
known-mark m (inr (inr e)) = subst (λ (x : ℕ). known (fits x false) (fits x true) ≡ x) (sym e) refl

pub same-mark : (m n : ℕ) → Mark m → Mark n → ((f : Bool) → fits m f ≡ fits n f) → m ≡ n
same-mark m n hm hn h = sym (known-mark m hm) ∙ ap₂ {C = ℕ} known (h false) (h true) ∙ known-mark n hn

-- ---- rows listed

-- a cell's place is its row's and its byte's
pub split : (w : Table) (i : ℕ) → cell w (i / 256) (i % 256) ≡ get_or w.cells i 0
split w i = ap {B = ℕ} (λ (j : ℕ). get_or w.cells j 0) whole
  where
    whole : 256 * (i / 256) + i % 256 ≡ i
    whole = omega arith

pub listed-up : (w : Table) (i j : ℕ) → i ≤ j → listed_by w i ≤ listed_by w j
listed-up w i zero l = subst (λ (n : ℕ). listed_by w n ≤ listed_by w 0) zero_is (omega arith)
  where
    zero_is : 0 ≡ i
    zero_is = omega arith
listed-up w i (suc j) l = go (ℕ_discrete i (suc j)) (λ h. listed-up w i j h)
  where
    go : Dec (i ≡ suc j) → (i ≤ j → listed_by w i ≤ listed_by w j) → listed_by w i ≤ listed_by w (suc j)
    go (yes e) f = subst (λ (n : ℕ). listed_by w n ≤ listed_by w (suc j)) (sym e) (omega arith)
    go (no n) f = omega (arith, f (omega arith))

pub listed-cell : (w : Table) (j i : ℕ) → j < i → get_or w.cells j 0 < listed_by w i
listed-cell w j i l = more (listed-up w (suc j) i l)
  where
    more : listed_by w (suc j) ≤ listed_by w i → get_or w.cells j 0 < listed_by w i
    more h = omega arith

module _ (w : Table) (good : Formed w) (numbered : Numbered w) where
  listed-rows : (i : ℕ) → i ≤ 256 * w.count → listed_by w i ≤ w.count
  listed-rows zero l = omega (arith, good.head-row)
  listed-rows (suc i) l = omega (arith, listed-rows i (omega arith), good.cells-rows i l)

  next-cell : (i : ℕ) → i < 256 * w.count → get_or w.cells i 0 ≤ listed_by w i
  next-cell i l = subst (λ (x : ℕ). x ≤ listed_by w i) (split w i)
      (subst (λ (j : ℕ). cell w (i / 256) (i % 256) ≤ listed_by w j) whole (numbered.cell-next (i / 256) (i % 256) (omega arith) (omega arith)))
    where
      whole : 256 * (i / 256) + i % 256 ≡ i
      whole = omega arith

  own-listed : (i : ℕ) → i < 256 * w.count → i / 256 < listed_by w i
  own-listed i l = up (numbered.row_listed (i / 256) (omega arith)) (listed-up w (256 * (i / 256)) i (omega arith))
    where
      up : i / 256 < listed_by w (256 * (i / 256)) → listed_by w (256 * (i / 256)) ≤ listed_by w i → i / 256 < listed_by w i
      up a b = omega arith

-- ---- smallest

module _ (w : Table) (good : Formed w) (numbered : Numbered w) where
  abbrev Reach : ℕ → Type 0
  Reach q = (s : ℕ) × (z : List ℕ) × Bytes z × (after w (begins w s) z ≡ q)

  reach-on : (q b : ℕ) → b < 256 → Reach q → Reach (cell w q b)
  reach-on q b l x = (x.0, x.1 ++ (b ∷ []), bytes_on x.1 (b ∷ []) x.2 (l, tt), after-append w (begins w x.0) x.1 (b ∷ []) ∙ ap {B = ℕ} (λ (y : ℕ). cell w y b) x.3)

  reach : (i q : ℕ) → i ≤ 256 * w.count → q < listed_by w i → Reach q
  reach zero q l h = go (ℕ_discrete q w.head)
    where
      zero_row : q ≢ w.head → 0 ≡ q
      zero_row n = omega (arith, numbered.head-next)

      go : Dec (q ≡ w.head) → Reach q
      go (yes e) = (0, [], tt, sym e)
      go (no n) = (1, [], tt, zero_row n)
  reach (suc i) q l h = go (dec_lt q (listed_by w i)) (λ p lp. reach i p (omega arith) lp)
    where
      is-cell : (q < listed_by w i → ⊥) → get_or w.cells i 0 ≡ q
      is-cell n = omega (arith, next-cell w good numbered i l)

      go : Dec (q < listed_by w i) → ((p : ℕ) → p < listed_by w i → Reach p) → Reach q
      go (yes a) f = f q a
      go (no n) f = subst Reach (split w i ∙ is-cell n) (reach-on (i / 256) (i % 256) (omega arith) (f (i / 256) (own-listed w good numbered i l)))

  module _ (merged : Merged w) (v : Table) (fine : Formed v) (like : Alike v w) where
    reached : (q : ℕ) → q < w.count → Reach q
    reached q l = reach (256 * q) q (omega arith) (numbered.row_listed q l)

    stays : (xs : List ℕ) (q : ℕ) → Bytes xs → q < v.count → after v q xs < v.count
    stays [] q h l = l
    stays (b ∷ xs) q h l = stays xs (cell v q b) h.1 (fine.cells-rows (256 * q + b) (omega (arith, h.0)))

    begins-in : (s : ℕ) → begins v s < v.count
    begins-in zero = fine.head-row
    begins-in (suc s) = fine.some-row

    -- the row of v that is reached as q is
    mate-of : (q : ℕ) → Dec (q < w.count) → ℕ
    mate-of q (yes l) = let x : Reach q = reached q l in after v (begins v x.0) x.1
    mate-of q (no n) = 0

    mate : ℕ → ℕ
    mate q = mate-of q (dec_lt q w.count)

    mate-same : (q : ℕ) → q < w.count → SameRows v (mate q) w q
    unfolding mate-of mate
    mate-same q l = go (dec_lt q w.count)
      where
        go : (d : Dec (q < w.count)) → SameRows v (mate-of q d) w q
        go (yes a) = subst (λ (y : ℕ). SameRows v (mate-of q (yes a)) w y) (reached q a).3
            (same_after v w (begins v (reached q a).0) (begins w (reached q a).0) (same-begins v w like (reached q a).0) (reached q a).1 (reached q a).2)
        go (no n) = absurd (n l)

    mate-in : (q : ℕ) → mate q < v.count
    unfolding mate-of mate
    mate-in q = go (dec_lt q w.count)
      where
        go : (d : Dec (q < w.count)) → mate-of q d < v.count
        go (yes a) = stays (reached q a).1 (begins v (reached q a).0) (reached q a).2 (begins-in (reached q a).0)
        go (no n) = fine.some-row

    -- rows of w with mates that nothing tells apart are one row
    one-mate : (f : ℕ → ℕ) → ((q : ℕ) → SameRows v (f q) v (mate q)) → (p q : ℕ) → p < w.count → q < w.count → f p ≡ f q → p ≡ q
    one-mate f same p q lp lq e = merged p q lp lq (λ z hz g. sym (mate-same p lp z hz g) ∙ sym (same p z hz g)
        ∙ ap {B = Bool} (λ (y : ℕ). fits (get_or v.marks (after v y z) 0) g) e ∙ same q z hz g ∙ mate-same q lq z hz g)

    fewer : w.count ≤ v.count
    fewer = pigeon w.count v.count mate (λ q l. mate-in q) (one-mate mate (λ q z hz g. refl))

    -- if v has no more rows than w, it is merged too: else p could take the place of q, and a row fewer would do
    merged-too : v.count ≤ w.count → Merged v
    merged-too few p q lp lq same = go (ℕ_discrete p q)
      where
        swap : (m : ℕ) → Dec (m ≡ q) → ℕ
        swap m (yes e) = p
        swap m (no n) = m

        swap-in : (m : ℕ) (d : Dec (m ≡ q)) → m < v.count → swap m d < v.count
        swap-in m (yes e) l = lp
        swap-in m (no n) l = l

        swap-not : p ≢ q → (m : ℕ) (d : Dec (m ≡ q)) → swap m d ≢ q
        swap-not n m (yes e) = n
        swap-not n m (no x) = x

        swap-same : (m : ℕ) (d : Dec (m ≡ q)) → SameRows v (swap m d) v m
        swap-same m (yes e) = subst (λ (x : ℕ). SameRows v p v x) (sym e) same
        swap-same m (no n) = λ z hz g. refl

        at_most : p ≢ q → w.count ≤ v.count - 1
        at_most n = pigeon-but w.count (v.count - 1) (λ k. swap (mate k) (ℕ_discrete (mate k) q)) q (omega (arith, fine.some-row)) (λ k l. swap-not n (mate k) (ℕ_discrete (mate k) q))
            (λ k l. omega (arith, swap-in (mate k) (ℕ_discrete (mate k) q) (mate-in k))) (one-mate (λ k. swap (mate k) (ℕ_discrete (mate k) q)) (λ k. swap-same (mate k) (ℕ_discrete (mate k) q)))

        go : Dec (p ≡ q) → p ≡ q
        go (yes e) = e
        go (no n) = absurd (omega (arith, at_most n, fine.some-row))

pub smallest : (w : Table) → Formed w → Numbered w → Merged w → Smallest w
smallest w good numbered merged v fine like = fewer w good numbered merged v fine like

pub smallest-merged : (w v : Table) → Formed w → Numbered w → Merged w → Formed v → Alike v w → v.count ≤ w.count → Merged v
smallest-merged w v good numbered merged fine like few = merged-too w good numbered merged v fine like few

-- ---- equal

pub flip : (w v : Table) → Alike w v → Alike v w
flip w v like t h s e se le = ((like t h s e se le).1, (like t h s e se le).0)

module _ (w v : Table) (gw : Formed w) (gv : Formed v) (nw : Numbered w) (nv : Numbered v) (dw : Merged w) (dv : Merged v) (like : Alike w v) where
  counts : w.count ≡ v.count
  counts = omega (arith, smallest w gw nw dw v gv (flip w v like), smallest v gv nv dv w gw like)

  -- rows below n are the same in both
  abbrev Agree : ℕ → Type 0
  Agree n = (p : ℕ) → p < n → SameRows w p v p

  -- what is listed next in both, if rows below n are listed and agree
  next-same : (n x y : ℕ) → n ≤ w.count → x ≤ n → y ≤ n → x < w.count → y < v.count → Agree n → SameRows w x v y → x ≡ y
  next-same n x y ln lx ly cx cy agree h = go (dec_lt x n) (dec_lt y n)
    where
      go : Dec (x < n) → Dec (y < n) → x ≡ y
      go (yes a) d = dv x y (omega (arith, counts)) cy (λ z hz f. sym (agree x a z hz f) ∙ h z hz f)
      go (no a) (yes b) = dw x y cx (omega arith) (λ z hz f. h z hz f ∙ sym (agree y b z hz f))
      go (no a) (no b) = omega arith

  agree-zero : Agree 1
  agree-zero p l = subst (λ (x : ℕ). SameRows w x v x) zero_is (same-begins w v like 1)
    where
      zero_is : 0 ≡ p
      zero_is = omega arith

  heads : w.head ≡ v.head
  heads = next-same 1 w.head v.head gw.some-row nw.head-next nv.head-next gw.head-row gv.head-row agree-zero (same-begins w v like 0)

  -- one row more: x is the next row in both
  agree-more : (n x y : ℕ) → Agree n → SameRows w x v y → x ≡ y → (p : ℕ) → (p ≢ x → p < n) → SameRows w p v p
  agree-more n x y agree h e p other = go (ℕ_discrete p x)
    where
      go : Dec (p ≡ x) → SameRows w p v p
      go (yes q) = subst (λ (k : ℕ). SameRows w k v k) (sym q) (subst (λ (k : ℕ). SameRows w x v k) (sym e) h)
      go (no q) = agree p (other q)

  module _ (i : ℕ) (l : i < 256 * w.count) (agree : Agree (listed_by w i)) where
    cell-rows : SameRows w (get_or w.cells i 0) v (get_or v.cells i 0)
    cell-rows = subst (λ (x : ℕ). SameRows w x v (get_or v.cells i 0)) (split w i) (subst (λ (y : ℕ). SameRows w (cell w (i / 256) (i % 256)) v y) (split v i)
        (λ z hz f. agree (i / 256) (own-listed w gw nw i l) (i % 256 ∷ z) (omega arith, hz) f))

    same-cell : listed_by w i ≡ listed_by v i → get_or w.cells i 0 ≡ get_or v.cells i 0
    same-cell e = next-same (listed_by w i) (get_or w.cells i 0) (get_or v.cells i 0) (listed-rows w gw nw i (omega arith)) (next-cell w gw nw i l)
        (omega (arith, next-cell v gv nv i lv)) (gw.cells-rows i l) (gv.cells-rows i lv) agree cell-rows
      where
        lv : i < 256 * v.count
        lv = omega (arith, counts)

  scan : (i : ℕ) → i ≤ 256 * w.count → (listed_by w i ≡ listed_by v i) × Agree (listed_by w i)
  scan zero l = (omega (arith, heads), λ p lp. agree-more 1 w.head v.head agree-zero (same-begins w v like 0) heads p (λ n. omega (arith, nw.head-next)))
  scan (suc i) l = step (scan i (omega arith))
    where
      step : (listed_by w i ≡ listed_by v i) × Agree (listed_by w i) → (listed_by w (suc i) ≡ listed_by v (suc i)) × Agree (listed_by w (suc i))
      step s = (
        ap₂ {C = ℕ} (λ (x y : ℕ). max x (suc y)) s.0 (same-cell i l s.1 s.0),
        λ p lp. agree-more (listed_by w i) (get_or w.cells i 0) (get_or v.cells i 0) s.1 (cell-rows i l s.1) (same-cell i l s.1 s.0) p (λ n. omega (arith, next-cell w gw nw i l)),
      )

  marks : (p : ℕ) → p < w.count → get_or w.marks p 0 ≡ get_or v.marks p 0
  marks p l = same-mark (get_or w.marks p 0) (get_or v.marks p 0) (gw.marks-good p l) (gv.marks-good p (omega (arith, counts)))
      (λ f. (scan (256 * p) (omega arith)).1 p (nw.row_listed p l) [] tt f)

  cells : (j : ℕ) → j < 256 * w.count → get_or w.cells j 0 ≡ get_or v.cells j 0
  cells j l = let s : (listed_by w j ≡ listed_by v j) × Agree (listed_by w j) = scan j (omega arith) in same-cell j l s.1 s.0

  pub equal : Exact w → Exact v → w ≡ v
  equal ew ev = λ i. record { count = counts i; head = heads i; marks = all-marks i; cells = all-cells i }
    where
      all-marks : w.marks ≡ v.marks
      all-marks = ext_get_or 0 w.marks v.marks (omega (arith, ew.marks-exact, ev.marks-exact, counts)) (λ p l. marks p (omega (arith, ew.marks-exact)))

      all-cells : w.cells ≡ v.cells
      all-cells = ext_get_or 0 w.cells v.cells (omega (arith, ew.cells-exact, ev.cells-exact, counts)) (λ j l. cells j (omega (arith, ew.cells-exact)))
