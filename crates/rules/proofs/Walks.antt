-- Walks through a fragment, and when a fragment is right for a relation between places.
use mathlib.Core.Path.{◌≡◌, refl, sym, subst}
use mathlib.Core.Logic.{◌⊎◌, inl, inr, ⊎_elim}
use mathlib.Core.Bool.{Bool, not}
use mathlib.Core.List.Memᴰ.{append_left as in_left}
use mathlib.Core.List.Memᴰ.{append_right as in_right}
use mathlib.Core.List.Memᴰ.{head as first}
use mathlib.Core.List.Memᴰ.{tail as later}
use mathlib.Core.List.{List}
use Prim.Native.Nat.{ℕ, zero, suc, ◌+◌, ◌<◌, ◌≤◌}
use native.Mathlib.Omega.{arith}
use lib.Dec.{T, T_not}
use lib.ListN.{length, get_or}
use Rattle.rules.specs.Tools.{has}
use Rattle.rules.specs.Meaning.{Cuts}
use Rattle.rules.specs.Nodes.{Kind, empty, on_head, on_tail, on_bytes, Edge, Frag, size, one, joined, forked, only, around}
use Rattle.rules.proofs.Edges.{◌∈◌, All, all_one, all-joined, all-forked, all-around, only-there}

-- what may hold of a node at a place, or of a stretch from place to place
abbrev pub Rel : Type 1
Rel = ℕ → ℕ → Type 0

-- ---- walks

-- an edge of the kind k is crossed from place p to place q of the text
abbrev pub Cross : List ℕ → Kind → Rel
Cross t empty p q = p ≡ q
Cross t on_head p q = (p ≡ 0) × (q ≡ 0)
Cross t on_tail p q = (p ≡ length t) × (q ≡ length t)
Cross t (on_bytes B) p q = (q ≡ suc p) × (p < length t) × T (has B (get_or t p 0))

-- a walk along edges of es, from node u at place p to a node at a place
pub data Walk (t : List ℕ) (es : List Edge) (u p : ℕ) : ℕ → ℕ → Type 0 where
  stay : Walk t es u p u p
  step : {x : Edge} {q r : ℕ} → x ∈ es → Cross t x.on q r → Walk t es u p x.from q → Walk t es u p x.to r

-- K goes along the edge x
abbrev pub Keeps : List ℕ → Rel → Edge → Type 0
Keeps t K x = (p q : ℕ) → Cross t x.on p q → K x.from p → K x.to q

module _ {t : List ℕ} {es : List Edge} where
  -- what goes along each edge goes along a walk
  pub along : (K : Rel) → All (Keeps t K) es → {u p v q : ℕ} → Walk t es u p v q → K u p → K v q
  along K keeps stay k = k
  along K keeps (step {x} {q} {r} h c w) k = keeps x h q r c (along K keeps w k)

  -- a walk goes on along edges that are there
  walk-on : {fs : List Edge} {u p v q w r : ℕ} → All (λ x. x ∈ fs) es → Walk t es v q w r → Walk t fs u p v q → Walk t fs u p w r
  walk-on {fs} {u} {p} there = along (Walk t fs u p) (λ x h q r. step (there x h))

  walk-still : {u p q : ℕ} → p ≡ q → Walk t es u p u q
  walk-still {u} {p} e = subst (λ (q : ℕ). Walk t es u p u q) e stay

  walk-to : {u p v w q : ℕ} → v ≡ w → Walk t es u p v q → Walk t es u p w q
  walk-to {u} {p} {q = q} e = subst (λ (x : ℕ). Walk t es u p x q) e

-- ---- what is right

-- the edge leaves a node from b on but not e, and enters a node after b up to e
abbrev Inner : ℕ → ℕ → Edge → Type 0
Inner b e x = (b ≤ x.from) × (x.from < e) × (b < x.to) × (x.to ≤ e)

-- No edge enters the start or leaves the end, or goes to nodes of others; the walks from start to end are those over the stretches of P.
pub record Right (t : List ℕ) (F : Frag) (P : Rel) : Type 0 where
  pub inner : (b : ℕ) → All (Inner b (b + F.last)) (F.edges b)
  pub sound : (b : ℕ) {v s e : ℕ} → v ≡ b + F.last → Walk t (F.edges b) b s v e → P s e
  pub complete : (b : ℕ) {v s e : ℕ} → v ≡ b + F.last → P s e → Walk t (F.edges b) b s v e

-- ---- what holds in each part of the nodes

-- K up to node c, and L past it
record Cut (c : ℕ) (K L : Rel) (u p : ℕ) : Type 0 where
  low : u ≤ c → K u p
  high : c < u → L u p

module _ {c : ℕ} {K L : Rel} where
  to_low : {u p : ℕ} → u ≤ c → K u p → Cut c K L u p
  to_low l k = record { low = λ h. k; high = λ h. absurd (omega arith) }

  to_high : {u p : ℕ} → c < u → L u p → Cut c K L u p
  to_high l k = record { low = λ h. absurd (omega arith); high = λ h. k }

  -- a fragment that lies up to c, or past it
  module _ {t : List ℕ} {X : Frag} {P : Rel} (xr : Right t X P) (x : ℕ) where
    keeps_low : x + X.last ≤ c → All (Keeps t K) (X.edges x) → All (Keeps t (Cut c K L)) (X.edges x)
    keeps_low l keeps y h p q cr k = to_low (omega (arith, xr.inner x y h)) (keeps y h p q cr (k.low (omega (arith, xr.inner x y h))))

    keeps_high : c < x → All (Keeps t L) (X.edges x) → All (Keeps t (Cut c K L)) (X.edges x)
    keeps_high l keeps y h p q cr k = to_high (omega (arith, xr.inner x y h)) (keeps y h p q cr (k.high (omega (arith, xr.inner x y h))))

-- what goes from node to node at each place goes along an empty edge
on-empty : (K : Rel) {u v : ℕ} → ((p : ℕ) → K u p → K v p) → (p q : ℕ) → p ≡ q → K u p → K v q
on-empty K {u} {v} f p q e k = subst (λ (r : ℕ). K v r) e (f p k)

-- a walk from node u, where it was at a place of A
abbrev From : List ℕ → List Edge → ℕ → (ℕ → Type 0) → Rel
From t es u A v q = (m : ℕ) × A m × Walk t es u m v q

module _ {t : List ℕ} {es : List Edge} (u : ℕ) where
  walk-keeps : (p : ℕ) → All (Keeps t (Walk t es u p)) es
  walk-keeps p x h q r = step h

  from-keeps : (A : ℕ → Type 0) → All (Keeps t (From t es u A)) es
  from-keeps A x h q r c k = (k.0, k.1, step h c k.2)

-- ---- one edge

module _ (t : List ℕ) (k : Kind) where
  one-sound : (b : ℕ) {v s e : ℕ} → v ≡ b + 1 → Walk t ((one k).edges b) b s v e → Cross t k s e
  one-sound b {s = s} end w = (along K keeps w (to_low (omega arith) refl)).high (omega arith)
    where
      -- at the start, at the end
      K : Rel
      K = Cut b (λ u p. s ≡ p) (λ u p. Cross t k s p)

      keeps : All (Keeps t K) ((one k).edges b)
      keeps = all_one (Keeps t K) b k (λ p q c h. to_high (omega arith) (rw (h.low (omega arith)) c))

  pub one_right : Right t (one k) (Cross t k)
  one_right = record {
    inner = λ b. all_one (Inner b (b + 1)) b k (omega arith);
    sound = one-sound;
    complete = λ b end c. walk-to (omega arith) (step (first refl) c stay);
  }

-- ---- two fragments

-- a stretch of P and then one of Q
abbrev pub Then : Rel → Rel → Rel
Then P Q s e = (m : ℕ) × P s m × Q m e

module _ {t : List ℕ} {X Y : Frag} {P Q : Rel} (xr : Right t X P) (yr : Right t Y Q) where
  joined-sound : (b : ℕ) {v s e : ℕ} → v ≡ b + (size X + Y.last) → Walk t ((joined X Y).edges b) b s v e → Then P Q s e
  joined-sound b {s = s} end w = let (m, p, h) = (along K keeps w (to_low (omega arith) stay)).high (omega arith) in (m, p, yr.sound y (omega arith) h)
    where
      y : ℕ
      y = b + size X

      -- in X, in Y
      K : Rel
      K = Cut (b + X.last) (Walk t (X.edges b) b s) (From t (Y.edges y) y (P s))

      keeps : All (Keeps t K) ((joined X Y).edges b)
      keeps = all-joined (Keeps t K) b X Y
          (on-empty K (λ p k. to_high (omega arith) (p, xr.sound b refl (k.low (omega arith)), stay)))
          (keeps_low xr b (omega arith) (walk-keeps b s)) (keeps_high yr y (omega arith) (from-keeps y (P s)))

  pub joined-right : Right t (joined X Y) (Then P Q)
  joined-right = record {
    inner = λ b. all-joined (Inner b (b + (size X + Y.last))) b X Y (omega arith)
        (λ x h. omega (arith, xr.inner b x h)) (λ x h. omega (arith, yr.inner (b + size X) x h));
    sound = joined-sound;
    complete = λ b end h. walk-on (λ x g. later (in_right (X.edges b) g)) (yr.complete (b + size X) (omega arith) h.2)
        (step (first refl) refl (walk-on (λ x g. later (in_left (Y.edges (b + size X)) g)) (xr.complete b refl h.1) stay));
  }

  forked-sound : (b : ℕ) {v s e : ℕ} → v ≡ b + (1 + size X + size Y) → Walk t ((forked X Y).edges b) b s v e → P s e ⊎ Q s e
  forked-sound b {s = s} end w = (((along K keeps w (to_low (omega arith) refl)).high (omega arith)).high (omega arith)).high (omega arith)
    where
      x : ℕ
      x = 1 + b

      y : ℕ
      y = 1 + b + size X

      -- at S, in X, in Y, at E
      K : Rel
      K = Cut b (λ u p. s ≡ p) (Cut (x + X.last) (Walk t (X.edges x) x s) (Cut (y + Y.last) (Walk t (Y.edges y) y s) (λ u p. P s p ⊎ Q s p)))

      ended : {p : ℕ} → P s p ⊎ Q s p → K (y + size Y) p
      ended r = to_high (omega arith) (to_high (omega arith) (to_high (omega arith) r))

      keeps : All (Keeps t K) ((forked X Y).edges b)
      keeps = all-forked (Keeps t K) b X Y
          (on-empty K (λ p k. to_high (omega arith) (to_low (omega arith) (walk-still (k.low (omega arith))))))
          (on-empty K (λ p k. to_high (omega arith) (to_high (omega arith) (to_low (omega arith) (walk-still (k.low (omega arith)))))))
          (on-empty K (λ p k. ended (inl (xr.sound x refl ((k.high (omega arith)).low (omega arith))))))
          (on-empty K (λ p k. ended (inr (yr.sound y refl (((k.high (omega arith)).high (omega arith)).low (omega arith))))))
          (keeps_high xr x (omega arith) (keeps_low xr x (omega arith) (walk-keeps x s)))
          (keeps_high yr y (omega arith) (keeps_high yr y (omega arith) (keeps_low yr y (omega arith) (walk-keeps y s))))

  pub forked-right : Right t (forked X Y) (λ s e. P s e ⊎ Q s e)
  forked-right = record {
    inner = λ b. all-forked (Inner b (b + (1 + size X + size Y))) b X Y (omega arith) (omega arith) (omega arith) (omega arith)
        (λ x h. omega (arith, xr.inner (1 + b) x h)) (λ x h. omega (arith, yr.inner (1 + b + size X) x h));
    sound = forked-sound;
    complete = λ b end. ⊎_elim
        (λ h. walk-to (omega arith) (step (later (later (first refl))) refl
        (walk-on (λ x g. later (later (later (later (in_left (Y.edges (1 + b + size X)) g))))) (xr.complete (1 + b) refl h) (step (first refl) refl stay))))
        (λ h. walk-to (omega arith) (step (later (later (later (first refl)))) refl
        (walk-on (λ x g. later (later (later (later (in_right (X.edges (1 + b)) g))))) (yr.complete (1 + b + size X) refl h) (step (later (first refl)) refl stay))));
  }

-- ---- a fragment repeated

-- the stretch cuts into parts of P, as many as A allows
abbrev pub Counted : (ℕ → Type 0) → Rel → Rel
Counted A P s e = (k : ℕ) × A k × Cuts P k s e

-- one part more, at the end
cuts-more : (P : Rel) (k : ℕ) {s m e : ℕ} → Cuts P k s m → P m e → Cuts P (suc k) s e
cuts-more P zero {e = e} c p = (e, subst (λ (x : ℕ). P x e) (sym c) p, refl)
cuts-more P (suc k) c p = (c.0, c.1, cuts-more P k c.2 p)

-- one part at least where S does not go to E, one part at most where X's end does not go back
abbrev pub Rounds : Bool → Bool → ℕ → Type 0
Rounds skip back k = (T (not skip) → 1 ≤ k) × (T (not back) → k ≤ 1)

module _ {t : List ℕ} {X : Frag} {P : Rel} (xr : Right t X P) (skip back : Bool) where
  around-sound : (b : ℕ) {v s e : ℕ} → v ≡ b + (1 + size X) → Walk t ((around skip back X).edges b) b s v e → Counted (Rounds skip back) P s e
  around-sound b {s = s} end w = ((along K keeps w (to_low (omega arith) refl)).high (omega arith)).high (omega arith)
    where
      x : ℕ
      x = 1 + b

      -- the parts that lie behind: none where X's end does not go back
      Behind : Rel
      Behind = Counted (λ k. T (not back) → k ≡ 0) P

      -- at S, in X, at E
      K : Rel
      K = Cut b (λ u p. s ≡ p) (Cut (x + X.last) (From t (X.edges x) x (Behind s)) (λ u. Counted (Rounds skip back) P s))

      entered : {p : ℕ} → Behind s p → K x p
      entered {p} r = to_high (omega arith) (to_low (omega arith) (p, r, stay))

      -- at the end of X there is one part more
      left : {p : ℕ} → K (x + X.last) p → (k : ℕ) × (T (not back) → k ≡ 0) × Cuts P (suc k) s p
      left k = let (m, (j, few, c), h) = (k.high (omega arith)).low (omega arith) in (j, few, cuts-more P j c (xr.sound x refl h))

      ended : {p : ℕ} → Counted (Rounds skip back) P s p → K (x + size X) p
      ended r = to_high (omega arith) (to_high (omega arith) r)

      keeps : All (Keeps t K) ((around skip back X).edges b)
      keeps = all-around (Keeps t K) b skip back X
          (on-empty K (λ p k. entered (0, (λ n. refl), k.low (omega arith))))
          (on-empty K (λ p k. let (j, few, c) = left k in ended (suc j, ((λ n. omega arith), λ n. omega (arith, few n)), c)))
          (λ y. on-empty K (λ p k. ended (0, ((λ n. absurd (T_not skip n y)), λ n. omega arith), k.low (omega arith))))
          (λ y. on-empty K (λ p k. let (j, few, c) = left k in entered (suc j, (λ n. absurd (T_not back n y)), c)))
          (keeps_high xr x (omega arith) (keeps_low xr x (omega arith) (from-keeps x (Behind s))))

  around-complete : (b : ℕ) {s e : ℕ} (k : ℕ) → Rounds skip back k → Cuts P k s e → Walk t ((around skip back X).edges b) b s (1 + b + size X) e
  around-complete b zero r c = step (later (later (in_left _ (only-there skip _ (λ n. omega (arith, r.0 n)))))) refl (walk-still c)
  around-complete b {s} {e} (suc k) r c = step (later (first refl)) refl (rounds k (λ n. omega (arith, r.1 n)) c (step (first refl) refl stay))
    where
      x : ℕ
      x = 1 + b

      es : List Edge
      es = (around skip back X).edges b

      through : {m n : ℕ} → P m n → Walk t es b s x m → Walk t es b s (x + X.last) n
      through p = walk-on (λ y h. later (later (in_right (only skip _) (in_right (only back _) h)))) (xr.complete x refl p)

      rounds : (k : ℕ) {m : ℕ} → (T (not back) → k ≡ 0) → Cuts P (suc k) m e → Walk t es b s x m → Walk t es b s (x + X.last) e
      rounds zero {m} r c w = through (subst (λ (e : ℕ). P m e) c.2 c.1) w
      rounds (suc k) r c w = rounds k (λ n. absurd (omega (arith, r n))) c.2
          (step (later (later (in_right (only skip _) (in_left _ (only-there back _ (λ n. omega (arith, r n))))))) refl (through c.1 w))

  pub around-right : Right t (around skip back X) (Counted (Rounds skip back) P)
  around-right = record {
    inner = λ b. all-around (Inner b (b + (1 + size X))) b skip back X (omega arith) (omega arith) (λ h. omega arith) (λ h. omega arith)
        (λ x h. omega (arith, xr.inner (1 + b) x h));
    sound = around-sound;
    complete = λ b end h. walk-to (omega arith) (around-complete b h.0 h.1 h.2);
  }
