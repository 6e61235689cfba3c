-- How much of an input decides what is said of it, and how long that gets.
use mathlib.Core.Path.{◌≡◌, refl, sym, ap, ap₂, ◌∙◌}
use mathlib.Core.Bool.{Bool, true, false}
use mathlib.Core.List.{List, [], ◌∷◌, ◌++◌}
use Prim.Native.Nat.{ℕ, zero, suc, ◌+◌, ◌-◌, ◌*◌, ◌≤◌, ◌<◌}
use native.Mathlib.Decide.{dec_lt}
use native.Mathlib.Omega.{arith}
use lib.Dec.{eqb}
use lib.ListN.{length, take, drop, length-append, length-drop}
use lib.Seq.{take_all, take-take, length-take-le}
use Rattle.rules.specs.Tools.{bytes_of}
use Rattle.rules.specs.Sizes.{pattern_most}
use Rattle.rules.specs.Table.{Table, same_table}
use Rattle.rules.specs.Answers.{Answer, refused, given}
use Rattle.rules.specs.Compile.{drawn}
use Rattle.rules.specs.Listing.{listing}
use Rattle.writing.proofs.RowLaws.{part_slice}
use Rattle.lines.proofs.Inputs.{too_long}
use Rattle.lines.proofs.LineLaws.{refused-most, refusal-line-most}
use Rattle.findings.specs.Said.{same_text, different_text, comparison_most, said_of_answers}
use Rattle.comparing.specs.Lines.{line_end_in, line_of, Lines, long, two, other, second_of, lines_of}
use Rattle.comparing.specs.Comparison.{full_room, said_of_patterns, said_of_lines, comparison}
use Rattle.comparing.proofs.LineLaws.{end-within, second-long, second_more, lines_long, lines_more}

-- ---- the first line end in a beginning

end-near : (s : List ℕ) (n : ℕ) → line_end_in s < n → line_end_in (take n s) ≡ line_end_in s
end-near s zero h = absurd (omega arith)
end-near [] (suc n) h = refl
end-near (b ∷ s) (suc n) h = go (eqb b 10) h (end-near s n)
  where
    go : (t : Bool) → elim t [ true ↦ 0 | false ↦ suc (line_end_in s) ] < suc n → (line_end_in s < n → line_end_in (take n s) ≡ line_end_in s)
        → ◌≡◌ {A = ℕ} (elim t [ true ↦ 0 | false ↦ suc (line_end_in (take n s)) ]) (elim t [ true ↦ 0 | false ↦ suc (line_end_in s) ])
    go true h rec = refl
    go false h rec = ap suc (rec (omega arith))

end-far : (s : List ℕ) (n : ℕ) → n ≤ line_end_in s → n ≤ line_end_in (take n s)
end-far s zero h = omega arith
end-far [] (suc n) h = h
end-far (b ∷ s) (suc n) h = go (eqb b 10) h (end-far s n)
  where
    go : (t : Bool) → suc n ≤ elim t [ true ↦ 0 | false ↦ suc (line_end_in s) ] → (n ≤ line_end_in s → n ≤ line_end_in (take n s))
        → suc n ≤ elim t [ true ↦ 0 | false ↦ suc (line_end_in (take n s)) ]
    go true h rec = h
    go false h rec = let g : n ≤ line_end_in (take n s) = rec (omega arith) in omega arith

-- a line that is too long stays so
still-long : (s : List ℕ) (n : ℕ) → pattern_most < n → pattern_most < line_end_in s → pattern_most < line_end_in (take n s)
still-long s n m h = go (dec_lt (line_end_in s) n)
  where
    go : Dec (line_end_in s < n) → pattern_most < line_end_in (take n s)
    go (yes l) = omega (arith, end-near s n l)
    go (no l) = omega (arith, end-far s n (omega arith))

-- ---- the second line and what comes after it

long-drawn : (p q s : List ℕ) → pattern_most < line_end_in q → pattern_most < line_end_in s → said_of_patterns p (line_of q) ≡ said_of_patterns p (line_of s)
long-drawn p q s a b =
    ap (said_of_answers (drawn p full_room)) (too_long (line_of q) full_room (omega (arith, length-take-le (line_end_in q) q (end-within q)))
    ∙ sym (too_long (line_of s) full_room (omega (arith, length-take-le (line_end_in s) s (end-within s)))))

second-decides : (p s : List ℕ) (m : ℕ) → pattern_most + 2 ≤ m → m < length s → said_of_lines (second_of p (take m s)) ≡ said_of_lines (second_of p s)
second-decides p s m h l = go (dec_lt pattern_most (line_end_in s))
  where
    go : Dec (pattern_most < line_end_in s) → said_of_lines (second_of p (take m s)) ≡ said_of_lines (second_of p s)
    go (yes g) =
        let k = still-long s m (omega arith) g in
        ap said_of_lines (second-long p (take m s) k) ∙ long-drawn p (take m s) s k g ∙ sym (ap said_of_lines (second-long p s g))
    go (no g) =
        let e = end-near s m (omega arith) in
        ap said_of_lines (second_more p (take m s) (omega arith) (omega (arith, length-take-le m s (omega arith))) ∙ sym (second_more p s (omega arith) (omega arith)))

-- what is past two patterns, their line ends and one byte more plays no part
pub beginning-decides : (n : ℕ) → 2 * pattern_most + 3 ≤ n → (input : List ℕ) → comparison (take n input) ≡ comparison input
unfolding comparison
beginning-decides n h input = go (dec_lt n (length input)) (dec_lt pattern_most (line_end_in input))
  where
    go : Dec (n < length input) → Dec (pattern_most < line_end_in input) → comparison (take n input) ≡ comparison input
    go (no l) d = ap comparison (take_all n input (omega arith))
    go (yes l) (yes g) = ap said_of_lines (lines_long (take n input) (still-long input n (omega arith) g) ∙ sym (lines_long input g))
    go (yes l) (no g) =
        let k = line_end_in input in
        let e : line_end_in (take n input) ≡ k = end-near input n (omega arith) in
        ap said_of_lines
        (lines_more (take n input) (omega arith) (omega (arith, length-take-le n input (omega arith)))
        ∙ ap₂ {C = Lines} second_of (ap (λ (i : ℕ). take i (take n input)) e ∙ take-take k n input (omega arith))
        (ap (λ (i : ℕ). drop (suc i) (take n input)) e ∙ sym (part_slice (suc k) n input)))
        ∙ second-decides (take k input) (drop (suc k) input) (n - suc k) (omega arith) (omega (arith, length-drop (suc k) input))
        ∙ sym (ap said_of_lines (lines_more input (omega arith) (omega arith)))

-- ---- how long it gets

verdict-most : (p q : List ℕ) → length (said_of_patterns p q) ≤ comparison_most
unfolding said_of_answers
verdict-most p q = go (drawn p full_room) refl (drawn q full_room) refl
  where
    tables : (b : Bool) → length {A = ℕ} (elim b [ true ↦ same_text | false ↦ different_text ]) ≤ comparison_most
    tables true = omega arith
    tables false = omega arith

    go : (a : Answer Table) → drawn p full_room ≡ a → (b : Answer Table) → drawn q full_room ≡ b → length (said_of_answers a b) ≤ comparison_most
    go (given w) e (given v) f = tables (same_table w v)
    go (given w) e (refused s) f = omega (arith, length-append (bytes_of "second ") (listing (refused s)), refusal-line-most q full_room s f)
    go (refused r) e (given v) f = omega (arith, length-append (bytes_of "first ") (listing (refused r)), refusal-line-most p full_room r e)
    go (refused r) e (refused s) f =
        omega (
          arith,
          length-append (bytes_of "first " ++ listing (refused r)) (bytes_of "second " ++ listing (refused s)),
          length-append (bytes_of "first ") (listing (refused r)),
          length-append (bytes_of "second ") (listing (refused s)),
          refusal-line-most p full_room r e,
          refusal-line-most q full_room s f,
        )

pub comparison-most : (input : List ℕ) → length (comparison input) ≤ comparison_most
unfolding comparison
comparison-most input = go (lines_of input)
  where
    go : (x : Lines) → length (said_of_lines x) ≤ comparison_most
    go long = omega (arith, refused-most 1 pattern_most (omega arith) (omega arith))
    go (two p q) = verdict-most p q
    go other = omega arith
