-- What is said of an input: what is computed fits what is asked, no second text does, and when it is `same` or `not the same`.
use mathlib.Core.Path.{◌≡◌, refl, sym, ap, ap₂, ◌∙◌}
use mathlib.Core.Logic.{◌⊎◌, inl, inr, ◌↔◌}
use mathlib.Core.Bool.{Bool, true, false}
use mathlib.Core.List.{List, [], ◌∷◌, ◌++◌, append-nil}
use Prim.Native.Nat.{ℕ, ◌≤◌, ◌<◌}
use native.Mathlib.Decide.{dec_lt}
use native.Mathlib.Omega.{arith}
use lib.ListN.{length, get_or}
use Rattle.rules.specs.Sizes.{pattern_most}
use Rattle.rules.specs.Table.{Table, same_table}
use Rattle.rules.specs.Answers.{refusal, Answer, refused, given}
use Rattle.rules.specs.Compile.{drawn}
use Rattle.rules.specs.Listing.{line_end}
use Rattle.rules.specs.Demands.{SamePatterns}
use Rattle.rules.proofs.Tests.{is_true, is_false, both_ways}
use Rattle.rules.proofs.TableLaws.{same_tables}
use Rattle.rules.proofs.CompileOnce.{drawn-refuses, drawn-same}
use Rattle.writing.proofs.Cases.{if-true, if-false}
use Rattle.findings.specs.Said.{same_text, different_text, expected_text, said_of_answers}
use Rattle.comparing.specs.Lines.{TwoLines, JustLines, lines_of}
use Rattle.comparing.specs.Comparison.{full_room, Accepted, OfTwo, said_of_patterns, said_of_lines, comparison}
use Rattle.comparing.specs.Comparison.{Verdict, same, different, first-refused, second-refused, both-refused, Says, long-line, two-lines, neither}
use Rattle.comparing.proofs.LinesOnce.{long-only, two-only, Case, is-long, is-two, is-other, case}

-- ---- one pattern

module _ (p : List ℕ) where
  abbrev Given : Type 0
  Given = (w : Table) × (drawn p full_room ≡ given w)

  accepted-given : Accepted p → Given
  accepted-given t = go (drawn p full_room) refl
    where
      go : (d : Answer Table) → drawn p full_room ≡ d → Given
      go (refused r) e = absurd (t r ((drawn-refuses p full_room r).0 e))
      go (given w) e = (w, e)

  given-accepted : (w : Table) → drawn p full_room ≡ given w → Accepted p
  given-accepted w e r due = let f : drawn p full_room ≡ refused r = (drawn-refuses p full_room r).1 due in let z : ◌≡◌ {A = ℕ} 0 1 = cc in omega arith

-- ---- two patterns

module _ (p q : List ℕ) where
  alike-tables : (w v : Table) → drawn p full_room ≡ given w → drawn q full_room ≡ given v → (w ≡ v) ↔ SamePatterns p q
  alike-tables = drawn-same p q full_room full_room

  verdict-fits : Verdict p q (said_of_patterns p q)
  unfolding said_of_answers
  verdict-fits = go (drawn p full_room) refl (drawn q full_room) refl
    where
      tables : (w v : Table) → drawn p full_room ≡ given w → drawn q full_room ≡ given v
          → (b : Bool) → same_table w v ≡ b → Verdict p q (elim b [ true ↦ same_text | false ↦ different_text ])
      tables w v e f true t = same (given-accepted p w e) (given-accepted q v f) ((alike-tables w v e f).0 ((same_tables w v).0 (is_true (same_table w v) t)))
      tables w v e f false t =
          different (given-accepted p w e) (given-accepted q v f) (λ h. is_false (same_table w v) t ((same_tables w v).1 ((alike-tables w v e f).1 h)))

      go : (a : Answer Table) → drawn p full_room ≡ a → (b : Answer Table) → drawn q full_room ≡ b → Verdict p q (said_of_answers a b)
      go (given w) e (given v) f = tables w v e f (same_table w v) refl
      go (given w) e (refused s) f = second-refused (given-accepted p w e) ((drawn-refuses q full_room s).0 f)
      go (refused r) e (given v) f = first-refused ((drawn-refuses p full_room r).0 e) (given-accepted q v f)
      go (refused r) e (refused s) f = both-refused ((drawn-refuses p full_room r).0 e) ((drawn-refuses q full_room s).0 f)

  verdict-of : (a b : Answer Table) → drawn p full_room ≡ a → drawn q full_room ≡ b → said_of_answers a b ≡ said_of_patterns p q
  verdict-of a b e f = sym (ap₂ {C = List ℕ} said_of_answers e f)

  verdict-only : {text : List ℕ} → Verdict p q text → text ≡ said_of_patterns p q
  unfolding said_of_answers
  verdict-only (same a b h) =
      let x = accepted-given p a in let y = accepted-given q b in
      sym (if-true _ _ (both_ways (same_table x.0 y.0) true (λ t. tt, λ t. (same_tables x.0 y.0).1 ((alike-tables x.0 y.0 x.1 y.1).1 h))))
      ∙ verdict-of (given x.0) (given y.0) x.1 y.1
  verdict-only (different a b n) =
      let x = accepted-given p a in let y = accepted-given q b in
      sym (if-false _ _ (both_ways (same_table x.0 y.0) false (λ t. n ((alike-tables x.0 y.0 x.1 y.1).0 ((same_tables x.0 y.0).0 t)), λ t. absurd t)))
      ∙ verdict-of (given x.0) (given y.0) x.1 y.1
  verdict-only (first-refused {r} d b) = let y = accepted-given q b in verdict-of (refused r) (given y.0) ((drawn-refuses p full_room r).1 d) y.1
  verdict-only (second-refused {s} a d) = let x = accepted-given p a in verdict-of (given x.0) (refused s) x.1 ((drawn-refuses q full_room s).1 d)
  verdict-only (both-refused {r} {s} c d) = verdict-of (refused r) (refused s) ((drawn-refuses p full_room r).1 c) ((drawn-refuses q full_room s).1 d)

-- ---- an input

module _ (input : List ℕ) where
  pub comparison-fits : Says input (comparison input)
  unfolding comparison
  comparison-fits = go (case input)
    where
      go : Case input → Says input (said_of_lines (lines_of input))
      go (is-long h e) = rw e (long-line h)
      go (is-two {p} {q} h e) = rw e (two-lines h (verdict-fits p q))
      go (is-other n m e) = rw e (neither n m)

  comparison-only : {text : List ℕ} → Says input text → text ≡ comparison input
  unfolding comparison
  comparison-only (long-line h) = sym (ap said_of_lines (long-only h))
  comparison-only (two-lines {p} {q} h v) = verdict-only p q v ∙ sym (ap said_of_lines (two-only h))
  comparison-only (neither n m) = go (case input)
    where
      go : Case input → expected_text ≡ said_of_lines (lines_of input)
      go (is-long h e) = absurd (n h)
      go (is-two {p} {q} h e) = absurd (m p q h)
      go (is-other n m e) = sym (ap said_of_lines e)

  -- no second text fits
  pub comparison-once : (a b : List ℕ) → Says input a → Says input b → a ≡ b
  comparison-once a b x y = comparison-only x ∙ sym (comparison-only y)

-- ---- when it is the one and when the other

accepted-short : (p : List ℕ) → Accepted p → length p ≤ pattern_most
accepted-short p t = go (dec_lt pattern_most (length p))
  where
    go : Dec (pattern_most < length p) → length p ≤ pattern_most
    go (yes l) = absurd (t (refusal 1 pattern_most) (inl (l, refl)))
    go (no l) = omega arith

-- two lines that compile are all of the input
two-just : {input p q : List ℕ} → Accepted p → Accepted q → TwoLines input p q ↔ JustLines input p q
two-just {input} {p} {q} a b = (λ h. record { first = h.first.unbroken; second = h.second.unbroken; is = all h (h.over (accepted-short q b)) }, λ j. ends j j.is)
  where
    all : (h : TwoLines input p q) → (h.rest ≡ []) ⊎ (h.rest ≡ line_end) → (input ≡ p ++ (10 ∷ q)) ⊎ (input ≡ p ++ (10 ∷ (q ++ line_end)))
    all h (inl e) = inl (h.first.is ∙ ap (λ (s : List ℕ). p ++ (10 ∷ s)) (h.second.is ∙ ap (λ (s : List ℕ). q ++ s) e ∙ append-nil q))
    all h (inr e) = inr (h.first.is ∙ ap (λ (s : List ℕ). p ++ (10 ∷ s)) (h.second.is ∙ ap (λ (s : List ℕ). q ++ s) e))

    ends : JustLines input p q → (input ≡ p ++ (10 ∷ q)) ⊎ (input ≡ p ++ (10 ∷ (q ++ line_end))) → TwoLines input p q
    ends j (inl e) = record {
      after = q;
      rest = [];
      first = record { is = e; unbroken = j.first; ended = refl };
      short = accepted-short p a;
      second = record { is = sym (append-nil q); unbroken = j.second; ended = tt };
      over = λ l. inl refl;
    }
    ends j (inr e) = record {
      after = q ++ line_end;
      rest = line_end;
      first = record { is = e; unbroken = j.first; ended = refl };
      short = accepted-short p a;
      second = record { is = refl; unbroken = j.second; ended = refl };
      over = λ l. inr refl;
    }

-- the texts differ in their second byte
abbrev second-byte : List ℕ → ℕ
second-byte text = get_or text 1 0

module _ (input : List ℕ) where
  pub same-exactly : (comparison input ≡ same_text) ↔ OfTwo SamePatterns input
  same-exactly = (λ e. go (comparison-fits input) (ap second-byte e), λ x. sym (comparison-only input (two-lines ((two-just x.3 x.4).1 x.2) (same x.3 x.4 x.5))))
    where
      of : {p q text : List ℕ} → TwoLines input p q → Verdict p q text → second-byte text ≡ second-byte same_text → OfTwo SamePatterns input
      of {p} {q} h (same a b x) e = (p, q, (two-just a b).0 h, a, b, x)
      of h (different a b n) e = absurd (omega (arith, e))
      of h (first-refused d b) e = absurd (omega (arith, e))
      of h (second-refused a d) e = absurd (omega (arith, e))
      of h (both-refused c d) e = absurd (omega (arith, e))

      go : {text : List ℕ} → Says input text → second-byte text ≡ second-byte same_text → OfTwo SamePatterns input
      go (long-line h) e = absurd (omega (arith, e))
      go (two-lines h v) e = of h v e
      go (neither n m) e = absurd (omega (arith, e))

  pub different-exactly : (comparison input ≡ different_text) ↔ OfTwo (λ p q. SamePatterns p q → ⊥) input
  different-exactly = (λ e. go (comparison-fits input) (ap second-byte e), λ x. sym (comparison-only input (two-lines ((two-just x.3 x.4).1 x.2) (different x.3 x.4 x.5))))
    where
      of : {p q text : List ℕ} → TwoLines input p q → Verdict p q text → second-byte text ≡ second-byte different_text → OfTwo (λ p q. SamePatterns p q → ⊥) input
      of h (same a b x) e = absurd (omega (arith, e))
      of {p} {q} h (different a b n) e = (p, q, (two-just a b).0 h, a, b, n)
      of h (first-refused d b) e = absurd (omega (arith, e))
      of h (second-refused a d) e = absurd (omega (arith, e))
      of h (both-refused c d) e = absurd (omega (arith, e))

      go : {text : List ℕ} → Says input text → second-byte text ≡ second-byte different_text → OfTwo (λ p q. SamePatterns p q → ⊥) input
      go (long-line h) e = absurd (omega (arith, e))
      go (two-lines h v) e = of h v e
      go (neither n m) e = absurd (omega (arith, e))
