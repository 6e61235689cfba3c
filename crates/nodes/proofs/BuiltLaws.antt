-- What the builders' steps come to: a fragment that is built from built parts and written nodes.
use mathlib.Core.Path.{◌≡◌, refl, ap, ◌∙◌, subst, subst⁻¹}
use mathlib.Core.Logic.{◌↔◌}
use mathlib.Core.Bool.{Bool}
use mathlib.Core.List.Memᴰ.{head as first}
use mathlib.Core.List.Memᴰ.{tail as later}
use mathlib.Core.List.{List, [], ◌∷◌}
use Prim.Native.Nat.{ℕ, suc, ◌+◌, ◌≤◌, ◌<◌}
use native.Mathlib.Omega.{arith}
use Rattle.rules.specs.Sizes.{nodes_most}
use Rattle.rules.specs.Nodes.{Kind, empty, on_head, on_tail, on_bytes, Edge, edge, Frag, size, one, joined, forked, around}
use Rattle.rules.proofs.Edges.{◌∈◌}
use Rattle.program.specs.Program.{atom_bytes, AtomAt}
use Rattle.kinds.specs.declared.Node.{Node}
use Rattle.entries.specs.Entries.{kind_number, entry, entry_at, edges_of, Sound, pick, Puts, Links}
use Rattle.entries.specs.declared.Entry.{Entry}
use Rattle.entries.specs.declared.Kind.{Kind as NodeKind}
use Rattle.entries.specs.declared.Kind.TheVariants.{Empty, Head, Tail, Bytes}
use Rattle.std.specs.Prelude.{Option, Some, None}
use Rattle.nodes.specs.Fragments.{Drawn, Fits, BuiltAs}
use Rattle.nodes.proofs.DrawnLaws.{drawn-one, drawn-joined, drawn-forked, drawn-around}

-- the two lists have the same nodes before b
abbrev pub Same : ℕ → List Entry → List Entry → Type 0
Same b old new = (u : ℕ) → u < b → entry_at new u ≡ entry_at old u

module _ (p : List ℕ) where
  -- a fragment stays drawn where its nodes stay
  drawn-still : (F : Frag) (b : ℕ) (old new : List Entry) → ((u : ℕ) → b ≤ u → u < b + F.last → entry_at new u ≡ entry_at old u) → Drawn p F b old → Drawn p F b new
  drawn-still F b old new k d = record {
    edges = λ x m. let h = d.edges x m in (h.0, h.1, subst⁻¹ (λ n. x ∈ edges_of p n x.from) (k x.from h.0 h.1) h.2);
    nodes = λ u i j. record {
      edges = λ x m. (d.nodes u i j).edges x (subst (λ n. x ∈ edges_of p n u) (k u i j) m);
      sound = subst⁻¹ (Sound p) (k u i j) (d.nodes u i j).sound;
    };
  }

  -- a node whose only edge goes to the next one
  pub linked : (K : Kind) (k : NodeKind) (at b : ℕ) (old new : List Entry) (r : Option Node)
      → ((x : Edge) → (x ∈ edges_of p (entry k (suc b) (suc b) at) b) ↔ (x ∈ (edge b K (suc b) ∷ []))) → (kind_number k ≡ 4 → AtomAt p at)
      → Links old new b k at r → BuiltAs p (one K) b old new r
  linked K k at b old new (Some n) es s h =
      let e : entry_at new b ≡ entry k (suc b) (suc b) at = h.2.here ∙ ap (λ v. entry k v v at) h.0 in
      let q : 1 + b ≡ suc b = omega arith in
      record {
        ends = omega (arith, h.0);
        low = h.1;
        room = h.2.room;
        kept = λ u i. h.2.others u (λ v. omega arith);
        drawn = drawn-one p new K b
            (rw (e, q) ((es (edge b K (suc b))).1 (first refl)))
            (record { edges = λ x m. rw q ((es x).0 (rw e at m)); sound = rw e s });
      }
  linked K k at b old new None es s h = omega arith

  -- in a row: X up to xe, Y up to ye, and then X's end
  pub joined-built : (X Y : Frag) (b xe ye : ℕ) (old l₁ l₂ new : List Entry)
      → Fits p X b old l₁ xe → Fits p Y (xe + 1) l₁ l₂ ye → Puts l₂ new xe (entry Empty (xe + 1) (xe + 1) 0) → Fits p (joined X Y) b old new ye
  joined-built X Y b xe ye old l₁ l₂ new fx fy px =
      let qx : xe ≡ b + X.last = fx.ends in
      let qy : xe + 1 ≡ b + size X = omega arith in
      let still : (u : ℕ) → (u ≡ xe → ⊥) → entry_at new u ≡ entry_at l₂ u = px.others in
      record {
        ends = omega (arith, fy.ends);
        low = fy.low;
        room = px.room;
        kept = λ u h. still u (λ v. omega arith) ∙ fy.kept u (omega arith) ∙ fx.kept u h;
        drawn = drawn-joined p new X Y b
            (drawn-still X b l₁ new (λ u j k. still u (λ v. omega arith) ∙ fy.kept u (omega arith)) fx.drawn)
            (rw (← qy) (drawn-still Y (xe + 1) l₂ new (λ u j k. still u (λ v. omega arith)) fy.drawn))
            (rw (← qx, ← qy) px.here);
      }

  -- `|`: X up to xe, Y up to ye, and then S, X's end and Y's end
  pub forked-built : (X Y : Frag) (b xe ye e : ℕ) (old l₁ l₂ l₃ l₄ new : List Entry)
      → Fits p X (b + 1) old l₁ xe → Fits p Y (xe + 1) l₁ l₂ ye → e ≡ suc ye → e < nodes_most
      → Puts l₂ l₃ b (entry Empty (b + 1) (xe + 1) 0) → Puts l₃ l₄ xe (entry Empty e e 0) → Puts l₄ new ye (entry Empty e e 0) → Fits p (forked X Y) b old new e
  forked-built X Y b xe ye e old l₁ l₂ l₃ l₄ new fx fy ee i pb px py =
      let qx : b + 1 ≡ 1 + b = omega arith in
      let qxe : xe ≡ 1 + b + X.last = omega (arith, fx.ends) in
      let qy : xe + 1 ≡ 1 + b + size X = omega arith in
      let qye : ye ≡ 1 + b + size X + Y.last = omega (arith, fy.ends) in
      let qe : e ≡ 1 + b + size X + size Y = omega arith in
      let still : (u : ℕ) → (u ≡ b → ⊥) → (u ≡ xe → ⊥) → (u ≡ ye → ⊥) → entry_at new u ≡ entry_at l₂ u =
      λ u nb nx ny. py.others u ny ∙ px.others u nx ∙ pb.others u nb in
      let at_b : entry_at new b ≡ entry Empty (b + 1) (xe + 1) 0 = py.others b (λ v. omega arith) ∙ px.others b (λ v. omega arith) ∙ pb.here in
      let at_x : entry_at new xe ≡ entry Empty e e 0 = py.others xe (λ v. omega arith) ∙ px.here in
      let in-x : (u : ℕ) → b + 1 ≤ u → u < b + 1 + X.last → entry_at new u ≡ entry_at l₁ u =
      λ u j k. still u (λ v. omega arith) (λ v. omega arith) (λ v. omega arith) ∙ fy.kept u (omega arith) in
      let in-y : (u : ℕ) → xe + 1 ≤ u → u < xe + 1 + Y.last → entry_at new u ≡ entry_at l₂ u =
      λ u j k. still u (λ v. omega arith) (λ v. omega arith) (λ v. omega arith) in
      record {
        ends = omega arith;
        low = i;
        room = py.room;
        kept = λ u h. still u (λ v. omega arith) (λ v. omega arith) (λ v. omega arith) ∙ fy.kept u (omega arith) ∙ fx.kept u (omega arith);
        drawn = drawn-forked p new X Y b
            (rw (← qx) (drawn-still X (b + 1) l₁ new in-x fx.drawn))
            (rw (← qy) (drawn-still Y (xe + 1) l₂ new in-y fy.drawn))
            (rw (← qy, ← qx) at_b)
            (rw (← qxe, ← qe) at_x)
            (rw (← qye, ← qe) py.here);
      }

  -- a repeat: X up to xe, and then S and X's end
  pub around-built : (skip back : Bool) (X : Frag) (b xe e : ℕ) (old l₁ l₂ new : List Entry)
      → Fits p X (b + 1) old l₁ xe → e ≡ suc xe → e < nodes_most
      → Puts l₁ l₂ b (entry Empty (b + 1) (pick skip e (b + 1)) 0) → Puts l₂ new xe (entry Empty e (pick back (b + 1) e) 0) → Fits p (around skip back X) b old new e
  around-built skip back X b xe e old l₁ l₂ new fx ee i pb px =
      let qx : b + 1 ≡ 1 + b = omega arith in
      let qxe : xe ≡ 1 + b + X.last = omega (arith, fx.ends) in
      let qe : e ≡ 1 + b + size X = omega arith in
      let still : (u : ℕ) → (u ≡ b → ⊥) → (u ≡ xe → ⊥) → entry_at new u ≡ entry_at l₁ u = λ u nb nx. px.others u nx ∙ pb.others u nb in
      let at_b : entry_at new b ≡ entry Empty (b + 1) (pick skip e (b + 1)) 0 = px.others b (λ v. omega arith) ∙ pb.here in
      record {
        ends = omega arith;
        low = i;
        room = px.room;
        kept = λ u h. still u (λ v. omega arith) (λ v. omega arith) ∙ fx.kept u (omega arith);
        drawn = drawn-around p new skip back X b
            (rw (← qx) (drawn-still X (b + 1) l₁ new (λ u j k. still u (λ v. omega arith) (λ v. omega arith)) fx.drawn))
            (rw (← qe, ← qx) at_b)
            (rw (← qxe, ← qe, ← qx) px.here);
      }

  -- F was begun at b; what is left of it is G, from a on
  pub record Rest (F : Frag) (b : ℕ) (G : Frag) (a : ℕ) (old now : List Entry) : Type 0 where
    pub ends : a + G.last ≡ b + F.last
    pub after : b ≤ a
    pub kept : Same b old now
    pub draws : (l : List Entry) → Same a now l → Drawn p G a l → Drawn p F b l

  pub rest_all : (F : Frag) (b : ℕ) (old : List Entry) → Rest F b F b old old
  rest_all F b old = record { ends = refl; after = omega arith; kept = λ u h. refl; draws = λ l s d. d }

  -- X is built and linked to what comes after it
  pub rest_more : (F X G : Frag) (b a x : ℕ) (y : Node) (old l₀ l₁ l₂ : List Entry)
      → Rest F b (joined X G) a old l₀ → Fits p X a l₀ l₁ x → Links l₁ l₂ x Empty 0 (Some y) → Rest F b G y.0 old l₂
  rest_more F X G b a x y old l₀ l₁ l₂ r f h =
      let qx : x ≡ a + X.last = f.ends in
      let qy : y.0 ≡ a + size X = omega (arith, h.0) in
      let still : (u : ℕ) → u < x → entry_at l₂ u ≡ entry_at l₁ u = λ u i. h.2.others u (λ v. omega arith) in
      record {
        ends = omega (arith, r.ends);
        after = omega (arith, r.after);
        kept = λ u i. still u (omega (arith, r.after)) ∙ f.kept u (omega (arith, r.after)) ∙ r.kept u i;
        draws = λ l s d. r.draws l (λ u i. s u (omega (arith, h.0)) ∙ still u (omega arith) ∙ f.kept u i)
            (drawn-joined p l X G a
            (drawn-still X a l₁ l (λ u i j. s u (omega (arith, h.0)) ∙ still u (omega arith)) f.drawn)
            (rw (← qy) d)
            (rw (← qx, ← qy) (s x (omega (arith, h.0)) ∙ h.2.here)));
      }

  -- what is left is built
  pub rest-built : (F G : Frag) (b a : ℕ) (old l₀ new : List Entry) (r : Option Node) → Rest F b G a old l₀ → BuiltAs p G a l₀ new r → BuiltAs p F b old new r
  rest-built F G b a old l₀ new (Some e) r f = record {
    ends = f.ends ∙ r.ends;
    low = f.low;
    room = f.room;
    kept = λ u i. f.kept u (omega (arith, r.after)) ∙ r.kept u i;
    drawn = r.draws new f.kept f.drawn;
  }
  rest-built F G b a old l₀ new None r f = omega (arith, r.ends)

  -- two nodes and an edge, of each kind
  module _ (b : ℕ) (old new : List Entry) (r : Option Node) where
    pub empty-built : Links old new b Empty 0 r → BuiltAs p (one empty) b old new r
    empty-built = linked empty Empty 0 b old new r (λ x. (once x, later)) (λ e. absurd (omega arith))
      where
        once : (x : Edge) → x ∈ (edge b empty (suc b) ∷ edge b empty (suc b) ∷ []) → x ∈ (edge b empty (suc b) ∷ [])
        once x (first e) = first e
        once x (later m) = m

    pub head-built : Links old new b Head 0 r → BuiltAs p (one on_head) b old new r
    head-built = linked on_head Head 0 b old new r (λ x. (λ m. m, λ m. m)) (λ e. absurd (omega arith))

    pub tail-built : Links old new b Tail 0 r → BuiltAs p (one on_tail) b old new r
    tail-built = linked on_tail Tail 0 b old new r (λ x. (λ m. m, λ m. m)) (λ e. absurd (omega arith))

    pub bytes-built : (at : ℕ) → AtomAt p at → Links old new b Bytes at r → BuiltAs p (one (on_bytes (atom_bytes p at))) b old new r
    bytes-built at s = linked (on_bytes (atom_bytes p at)) Bytes at b old new r (λ x. (λ m. m, λ m. m)) (λ e. s)
