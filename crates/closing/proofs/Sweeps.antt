-- Closing goes on node by node, and ends with the closed set.
use mathlib.Core.Path.{◌≡◌, refl, sym, ap, ◌∙◌, subst}
use mathlib.Core.Logic.{◌⊎◌, inl, inr, ⊎_elim}
use mathlib.Core.Bool.{Bool}
use mathlib.Core.List.{List}
use Prim.Native.Nat.{ℕ, suc, ◌+◌, ◌*◌, ◌-◌, ◌/◌, ◌%◌, ◌≤◌, ◌<◌, ◌^◌}
use native.Mathlib.Decide.{ℕ_discrete, dec_lt}
use native.Mathlib.Nat.{le_trans, div-eq_of_lt, lt_of_lt_of_le}
use native.Mathlib.Omega.{arith}
use lib.Arith.{digits_lt}
use lib.Dec.{T}
use lib.ListN.{length, get_or}
use lib.Pow.{pow_mono, pow_pos}
use Rattle.rules.specs.Tools.{has, with}
use Rattle.rules.specs.Nodes.{Kind, Edge}
use Rattle.rules.specs.SetRows.{crosses, Machine}
use Rattle.rules.proofs.Edges.{◌∈◌, All}
use Rattle.rules.proofs.Sets.{has-bit, zero_has, with-has, with-keeps, with-only, with-ge, with-lt}
use Rattle.rules.proofs.Closing.{Carries, closed-keeps, closed-ind, closed-lt, closed-full, closed-only}
use Rattle.sets.specs.Sets.{member}
use Rattle.nodesets.specs.NodeSets.{mask_of, TakenOut}
use Rattle.closing.specs.Closing.{ways, Nodes, closing, Added, Full, FullBut, Sweep, Onward, left, Advanced}
use Rattle.nodesets.proofs.NodeSetLaws.{mask-has, with-new}
use Rattle.closing.proofs.Ways.{Leads, Bare}

-- ---- nodes that wait, put in, and done with

module _ {c : Kind → Bool} {es : List Edge} {seeds full : ℕ} where
  -- others wait
  sweep-as : {Old New : ℕ → Type 0} {m p i : ℕ} → ((v : ℕ) → Old v → New v) → ((v : ℕ) → New v → T (has m v)) → Sweep c es seeds full Old m p i → Sweep c es seeds full New m p i
  sweep-as to in-m s = record {
    holds = s.holds;
    within = s.within;
    leads = λ x h k f. ⊎_elim (λ w. inl (to x.from w)) inr (s.leads x h k f);
    among = in-m;
    past = s.past;
  }

  sweep-put : {Waits : ℕ → Type 0} {m p i : ℕ} (v : ℕ) → T (has full v) → Sweep c es seeds full Waits m p i → Sweep c es seeds full (λ x. Waits x ⊎ (x ≡ v)) (with m v) p i
  sweep-put {m = m} v hv s = record {
    holds = λ x h. with-keeps m v x (s.holds x h);
    within = λ x h. ⊎_elim (λ e. rw e hv) (s.within x) (with-only m v x h);
    leads = λ x h k f. ⊎_elim (λ e. inl (inr e)) (λ g. ⊎_elim (λ w. inl (inl w)) (λ t. inr (with-keeps m v x.to t)) (s.leads x h k g)) (with-only m v x.from f);
    among = λ x w. ⊎_elim (λ a. with-keeps m v x (s.among x a)) (λ e. rw e (with-has m v)) w;
    past = s.past;
  }

  sweep-add : {Waits : ℕ → Type 0} {m p i v m' p' i' : ℕ} → Added m p i v m' p' i' → T (has full v)
      → Sweep c es seeds full (λ x. T (has p x) ⊎ Waits x) m p i → Sweep c es seeds full (λ x. T (has p' x) ⊎ Waits x) m' p' i'
  sweep-add (inl (h, em, ep, ei)) hv s = rw (em, ep, ei) s
  sweep-add {Waits} {m} {p} {i} {v} (inr (n, em, ep, le, lo)) hv s = rw (em, ep) (record {
    holds = t.holds;
    within = t.within;
    leads = λ x h k f. ⊎_elim (λ w. inl (waits x.from w)) inr (t.leads x h k f);
    among = λ x w. ⊎_elim (λ g. ⊎_elim (λ e. rw e (with-has m v)) (λ b. with-keeps m v x (s.among x (inl b))) (with-only p v x g)) (λ b. with-keeps m v x (s.among x (inr b))) w;
    past = λ x g. ⊎_elim (λ e. omega arith) (λ b. omega (arith, s.past x b)) (with-only p v x g);
  })
    where
      t : Sweep c es seeds full (λ x. (T (has p x) ⊎ Waits x) ⊎ (x ≡ v)) (with m v) p i
      t = sweep-put v hv s

      waits : (x : ℕ) → (T (has p x) ⊎ Waits x) ⊎ (x ≡ v) → T (has (with p v) x) ⊎ Waits x
      waits x (inl (inl b)) = inl (with-keeps p v x b)
      waits x (inl (inr b)) = inr b
      waits x (inr e) = inl (rw e (with-has p v))

  sweep-done : {Waits : ℕ → Type 0} {m p i : ℕ} (u : ℕ) → ((x : Edge) → x ∈ es → x.from ≡ u → T (c x.on) → T (has m x.to))
      → Sweep c es seeds full (λ x. Waits x ⊎ (x ≡ u)) m p i → Sweep c es seeds full Waits m p i
  sweep-done u done s = record {
    holds = s.holds;
    within = s.within;
    leads = λ x h k f. ⊎_elim (λ w. ⊎_elim inl (λ e. inr (done x h e k)) w) inr (s.leads x h k f);
    among = λ v w. s.among v (inl w);
    past = s.past;
  }

-- ---- going on

-- what adding a node keeps
record Kept (n m p i m' p' i' : ℕ) : Type 0 where
  small : m < 2 ^ n → m' < 2 ^ n
  small-too : p < 2 ^ n → p' < 2 ^ n
  grows : m ≤ m'
  still : m' ≡ m → (p' ≡ p) × (i' ≡ i)
  back : i' ≤ i

added-kept : (n : ℕ) {m p i v m' p' i' : ℕ} → v < n → Added m p i v m' p' i' → Kept n m p i m' p' i'
added-kept n l (inl (h, em, ep, ei)) = record { small = λ s. rw em s; small-too = λ s. rw ep s; grows = omega arith; still = λ e. (ep, ei); back = omega arith }
added-kept n {m} {p} {v = v} l (inr (ne, em, ep, le, lo)) = record {
  small = λ s. rw em (with-lt m v n l s);
  small-too = λ s. rw ep (with-lt p v n l s);
  grows = rw em (with-ge m v);
  still = λ e. absurd (omega (arith, e, em, with-new m v ne, pow_pos v));
  back = le;
}

-- the new set has the node, and what the old one had
added-has : {m p i v m' p' i' : ℕ} → Added m p i v m' p' i' → T (has m' v)
added-has (inl (h, em, ep, ei)) = rw em h
added-has {m} {v = v} (inr (ne, em, ep, le, lo)) = rw em (with-has m v)

added-old : {m p i v m' p' i' : ℕ} → Added m p i v m' p' i' → (x : ℕ) → T (has m x) → T (has m' x)
added-old (inl (h, em, ep, ei)) x g = rw em g
added-old {m} {v = v} (inr (ne, em, ep, le, lo)) x g = rw em (with-keeps m v x g)

module _ {c : Kind → Bool} {es : List Edge} {n : ℕ} where
  pub onward_then : {A B C : ℕ → Type 0} {m p i m' p' i' m'' p'' i'' : ℕ} → Onward c es n A m p i B m' p' i' → Onward c es n B m' p' i' C m'' p'' i'' → Onward c es n A m p i C m'' p'' i''
  onward_then a b = record {
    small = λ s. b.small (a.small s);
    small-too = λ s. b.small-too (a.small-too s);
    grows = le_trans a.grows b.grows;
    still = λ e.
        let e₁ : _ ≡ _ = between a.grows b.grows e in
        ((b.still (e ∙ sym e₁)).0 ∙ (a.still e₁).0, (b.still (e ∙ sym e₁)).1 ∙ (a.still e₁).1);
    back = le_trans b.back a.back;
    sweeps = λ seeds full f s. b.sweeps seeds full f (a.sweeps seeds full f s);
  }
    where
      between : {x y z : ℕ} → x ≤ y → y ≤ z → z ≡ x → y ≡ x
      between l h e = omega arith

-- pending, or the node v
abbrev pub OrNode : ℕ → ℕ → ℕ → Type 0
OrNode p v x = T (has p x) ⊎ (x ≡ v)

-- node u, with no targets, is taken up
pub onward-stop : {h t : Bool} {kind to1 to2 : List ℕ} {u m p i : ℕ} → Bare h t kind to1 to2 u
    → Onward (crosses h t) (ways kind to1 to2) (length kind) (OrNode p u) m p i (λ v. T (has p v)) m p i
onward-stop {u = u} stop = record {
  small = λ s. s;
  small-too = λ s. s;
  grows = omega arith;
  still = λ e. (refl, refl);
  back = omega arith;
  sweeps = λ seeds full f s. sweep-done u (λ x m e k. absurd (stop.none x m e k)) s;
}

-- node u, with targets a and b
module _ {h t : Bool} {kind to1 to2 : List ℕ} {u a b : ℕ} (N : Nodes kind to1 to2) (L : Leads h t kind to1 to2 u a b) where
  -- where u is in full, so are its targets
  to-full : (full : ℕ) → Full (crosses h t) (ways kind to1 to2) full → T (has full u) → T (has full a) × T (has full b)
  to-full full f hu = (to L.one, to L.two)
    where
      to : {v : ℕ} → (x : Edge) × (x ∈ ways kind to1 to2) × (x.from ≡ u) × T (crosses h t x.on) × (x.to ≡ v) → T (has full v)
      to g = subst (λ (y : ℕ). T (has full y)) g.4 (f g.0 g.1 g.3 (rw g.2 hu))

  done : (m : ℕ) → T (has m a) → T (has m b) → (x : Edge) → x ∈ ways kind to1 to2 → x.from ≡ u → T (crosses h t x.on) → T (has m x.to)
  done m ha hb x e g k = ⊎_elim (λ q. rw q ha) (λ q. rw q hb) (L.only x e g k)

  pub one-low : a < length kind
  one-low = subst (λ (y : ℕ). y < length kind) L.one.4 (N.below L.one.0 L.one.1)

  pub two-low : b < length kind
  two-low = subst (λ (y : ℕ). y < length kind) L.two.4 (N.below L.two.0 L.two.1)

  -- the first target is in already
  pub onward-last : {m p i m' p' i' : ℕ} → T (has m a) → Added m p i b m' p' i'
      → Onward (crosses h t) (ways kind to1 to2) (length kind) (OrNode p u) m p i (λ v. T (has p' v)) m' p' i'
  onward-last {m} {p} {i} {m'} {p'} {i'} ha A = record {
    small = K.small;
    small-too = K.small-too;
    grows = K.grows;
    still = K.still;
    back = K.back;
    sweeps = λ seeds full f s. sweep-done u (done m' (added-old A a ha) (added-has A)) (sweep-add A (to-full full f (s.within u (s.among u (inr refl)))).1 s);
  }
    where
      K : Kept (length kind) m p i m' p' i'
      K = added-kept (length kind) two-low A

  -- the first target is new, and is taken up next
  pub onward-on : {m m₁ p i m' p' i' : ℕ} → (T (has m a) → ⊥) → m₁ ≡ with m a → Added m₁ p i b m' p' i'
      → (m < m') × Onward (crosses h t) (ways kind to1 to2) (length kind) (OrNode p u) m p i (OrNode p' a) m' p' i'
  onward-on {m} {m₁} {p} {i} {m'} {p'} {i'} na put A₁ = (
    more,
    record {
      small = λ s. K.small (with-lt m a (length kind) one-low s);
      small-too = K.small-too;
      grows = omega (arith, more);
      still = λ e. absurd (omega (arith, more));
      back = K.back;
      sweeps = λ seeds full f s.
          let hu : T (has full a) × T (has full b) = to-full full f (s.within u (s.among u (inr refl))) in
          sweep-done u (done m' (added-old A a (with-has m a)) (added-has A)) (turn (sweep-add A hu.1 (sweep-as apart (λ x w. together x w (s.among x)) (sweep-put a hu.0 s))));
    },
  )
    where
      A : Added (with m a) p i b m' p' i'
      A = rw put at A₁

      K : Kept (length kind) (with m a) p i m' p' i'
      K = added-kept (length kind) two-low A

      more : m < m'
      more = omega (arith, K.grows, with-new m a na, pow_pos a)

      apart : (x : ℕ) → OrNode p u x ⊎ (x ≡ a) → T (has p x) ⊎ ((x ≡ a) ⊎ (x ≡ u))
      apart x (inl (inl g)) = inl g
      apart x (inl (inr g)) = inr (inr g)
      apart x (inr g) = inr (inl g)

      together : (x : ℕ) → T (has p x) ⊎ ((x ≡ a) ⊎ (x ≡ u)) → (OrNode p u x → T (has m x)) → T (has (with m a) x)
      together x (inl g) k = with-keeps m a x (k (inl g))
      together x (inr (inl g)) k = rw g (with-has m a)
      together x (inr (inr g)) k = with-keeps m a x (k (inr g))

      turn : {seeds full : ℕ} → Sweep (crosses h t) (ways kind to1 to2) seeds full (λ x. T (has p' x) ⊎ ((x ≡ a) ⊎ (x ≡ u))) m' p' i'
          → Sweep (crosses h t) (ways kind to1 to2) seeds full (λ x. OrNode p' a x ⊎ (x ≡ u)) m' p' i'
      turn s = sweep-as (λ x w. ⊎_elim (λ g. inl (inl g)) (λ w. ⊎_elim (λ g. inl (inr g)) inr w) w)
          (λ x w. s.among x (⊎_elim (λ w. ⊎_elim inl (λ g. inr (inl g)) w) (λ g. inr (inr g)) w)) s

-- ---- a step

-- a set below 2 ^ n has nodes below n
pub has-lt : (n m v : ℕ) → m < 2 ^ n → T (has m v) → v < n
has-lt n m v l h = go (dec_lt v n)
  where
    go : Dec (v < n) → v < n
    go (yes g) = g
    go (no g) = absurd (omega (arith, has-bit m v h, ap (λ (x : ℕ). x % 2) (div-eq_of_lt {n = m} {m = 2 ^ v} (lt_of_lt_of_le l (pow_mono (omega arith))))))

-- a node that was pending is below n
pub taken-lt : {old new : List ℕ} {i u n : ℕ} → mask_of old < 2 ^ n → TakenOut old new i u → u < n
taken-lt {old} {new} {u = u} {n} l K = has-lt n (mask_of old) u l (rw K.rest (with-has (mask_of new) u))

-- fewer to add, or as many and fewer pending
fewer : (n w m p i m' p' i' : ℕ) → m' < 2 ^ n → p' < 2 ^ n → m ≤ m' → (m' ≡ m → p' < p) → left n w m' p' i' < left n w m p i
fewer n w m p i m' p' i' lm lp g s = omega (arith, digits_lt {r = w - i'} {c = suc w} less (omega arith))
  where
    less : (2 ^ n - m') * 2 ^ n + p' < (2 ^ n - m) * 2 ^ n + p
    less = go (ℕ_discrete m' m)
      where
        go : Dec (m' ≡ m) → (2 ^ n - m') * 2 ^ n + p' < (2 ^ n - m) * 2 ^ n + p
        go (yes e) = rw e (omega (arith, s e))
        go (no ne) = omega (arith, digits_lt {q = 2 ^ n - m'} {m = 2 ^ n - m} {c = 2 ^ n} (omega arith) lp)

module _ {c : Kind → Bool} {es : List Edge} {n : ℕ} where
  -- nothing of word i is pending
  pub advanced-past : (pending : List ℕ) (w m i : ℕ) → i < w → m < 2 ^ n → mask_of pending < 2 ^ n → get_or pending i 0 ≡ 0
      → Advanced c es n w m (mask_of pending) i m (mask_of pending) (i + 1)
  unfolding member
  advanced-past pending w m i l lm lp e = record {
    small = lm;
    small-too = lp;
    at = omega arith;
    falls = omega arith;
    sweeps = λ seeds full f s. record { holds = s.holds; within = s.within; leads = s.leads; among = s.among; past = λ v g. later v (s.past v g) (ℕ_discrete (v / 64) i) g };
  }
    where
      later : (v : ℕ) → 64 * i ≤ v → Dec (v / 64 ≡ i) → T (has (mask_of pending) v) → 64 * (i + 1) ≤ v
      later v l (yes q) g = absurd (zero_has (v % 64) (subst T (mask-has pending v ∙ ap (λ (j : ℕ). has (get_or pending j 0) (v % 64)) q ∙ ap (λ (x : ℕ). has x (v % 64)) e) g))
      later v l (no q) g = omega arith

  -- node u of word i is taken up
  pub advanced-on : {old new : List ℕ} {w m i u m' p' i' : ℕ} → TakenOut old new i u → i < w → m < 2 ^ n → mask_of old < 2 ^ n
      → Onward c es n (λ v. T (has (mask_of new) v) ⊎ (v ≡ u)) m (mask_of new) i (λ v. T (has p' v)) m' p' i' → Advanced c es n w m (mask_of old) i m' p' i'
  advanced-on {old} {new} {w} {m} {i} {u} {m'} {p'} {i'} K l lm lp O = record {
    small = O.small lm;
    small-too = O.small-too below;
    at = omega (arith, O.back);
    falls = fewer n w m (mask_of old) i m' p' i' (O.small lm) (O.small-too below) O.grows (λ e. omega (arith, (O.still e).0, more, pow_pos u));
    sweeps = λ seeds full f s. O.sweeps seeds full f (record {
      holds = s.holds;
      within = s.within;
      leads = λ x h k g. ⊎_elim (λ w. inl (apart x.from w)) inr (s.leads x h k g);
      among = λ x w. s.among x (rw K.rest (⊎_elim (with-keeps (mask_of new) u x) (λ e. rw e (with-has (mask_of new) u)) w));
      past = λ x g. s.past x (rw K.rest (with-keeps (mask_of new) u x g));
    });
  }
    where
      more : mask_of old ≡ mask_of new + 2 ^ u
      more = K.rest ∙ with-new (mask_of new) u K.out

      below : mask_of new < 2 ^ n
      below = omega (arith, more)

      apart : (x : ℕ) → T (has (mask_of old) x) → T (has (mask_of new) x) ⊎ (x ≡ u)
      apart x g = ⊎_elim inr inl (with-only (mask_of new) u x (rw K.rest at g))

-- ---- from start to end

module _ (h t : Bool) (kind to1 to2 : List ℕ) (N : Nodes kind to1 to2) (seeds : ℕ) (small : seeds < 2 ^ length kind) where
  abbrev w : Machine
  w = record { count = length kind; final = 0; links = ways kind to1 to2 }

  pub closing-keeps : (v : ℕ) → T (has seeds v) → T (has (closing h t kind to1 to2 seeds) v)
  unfolding closing
  closing-keeps = closed-keeps w (crosses h t) seeds

  pub closing-ind : (C : ℕ → Type 0) → All (Carries (crosses h t) C) (ways kind to1 to2) → ((v : ℕ) → T (has seeds v) → C v) → (v : ℕ) → T (has (closing h t kind to1 to2 seeds) v) → C v
  unfolding closing
  closing-ind = closed-ind w (crosses h t) seeds

  pub closing-full : Full (crosses h t) (ways kind to1 to2) (closing h t kind to1 to2 seeds)
  unfolding closing
  closing-full = closed-full w N.below (crosses h t) seeds small

  pub closing-lt : closing h t kind to1 to2 seeds < 2 ^ length kind
  unfolding closing
  closing-lt = closed-lt w N.below (crosses h t) seeds small

  pub sweep-start : {p : ℕ} → ((v : ℕ) → T (has p v) → T (has seeds v)) → FullBut (λ v. T (has p v)) (crosses h t) (ways kind to1 to2) seeds
      → Sweep (crosses h t) (ways kind to1 to2) seeds (closing h t kind to1 to2 seeds) (λ v. T (has p v)) seeds p 0
  sweep-start among leads = record { holds = λ v g. g; within = closing-keeps; leads = leads; among = among; past = λ v g. omega arith }

  pub sweep-end : {m p i : ℕ} (words : ℕ) → length kind ≤ 64 * words → words ≤ i → m < 2 ^ length kind → p < 2 ^ length kind
      → Sweep (crosses h t) (ways kind to1 to2) seeds (closing h t kind to1 to2 seeds) (λ v. T (has p v)) m p i → m ≡ closing h t kind to1 to2 seeds
  unfolding closing
  sweep-end {m} {p} words long past lm lp s = closed-only w N.below (crosses h t) seeds small m lm s.holds
      (λ x e k f. ⊎_elim (λ g. absurd (omega (arith, has-lt (length kind) p x.from lp g, s.past x.from g))) (λ g. g) (s.leads x e k f))
      (λ C carries base v g. closing-ind C carries base v (s.within v g))
