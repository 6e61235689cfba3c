-- What the listing program prints is the listing of what compiling leaves in the room, and how long it gets.
use mathlib.Core.Path.{◌≡◌, refl, ap, ap₂, ◌∙◌}
use mathlib.Core.List.{List, ◌++◌, map}
use Prim.Native.Nat.{ℕ, zero, suc, ◌+◌, ◌*◌, ◌≤◌, ◌<◌}
use native.Mathlib.Omega.{arith}
use lib.ListN.{length, drop}
use lib.Seq.{take-append-le}
use Rattle.rules.specs.Tools.{bytes_of, up_from, flat}
use Rattle.rules.specs.Sizes.{listing_rows}
use Rattle.rules.specs.Table.{Table, WellFormed}
use Rattle.rules.specs.Answers.{Answer, refused, given}
use Rattle.rules.specs.Compile.{Room, rows_for, leaves, drawn, compile}
use Rattle.rules.specs.Listing.{line_end, decimal, row_line, listing, without_line_end, room_for, printed}
use Rattle.rules.proofs.TableLaws.{well-formed-test}
use Rattle.rules.proofs.LentTable.{longer, marks-alike, longer-formed}
use Rattle.rules.proofs.CompiledTable.{rows_few}
use Rattle.rules.proofs.CompileOnce.{drawn-formed, when-given}
use Rattle.writing.proofs.Cases.{if-true}
use Rattle.writing.specs.Texts.{if_formed}
use Rattle.lines.proofs.LineLaws.{refusal-line-most}
use Rattle.listing.specs.Lines.{line_of, listing_of}
use Rattle.listing.specs.Programs.{outcome_text, printed_most}
use Rattle.listing.proofs.LineLaws.{listing-most}

rows_alike : (f g : ℕ → List ℕ) (n c : ℕ) → ((q : ℕ) → q < n + c → f q ≡ g q) → flat (map f (up_from n c)) ≡ flat (map g (up_from n c))
rows_alike f g n zero h = refl
rows_alike f g n (suc c) h = ap₂ {C = List ℕ} ◌++◌ (h n (omega arith)) (rows_alike f g (suc n) c (λ q l. h q (omega arith)))

-- ---- what is lent past a table's rows plays no part

module _ {w : Table} (f : WellFormed w) (ms cs : List ℕ) where
  line-alike : (q : ℕ) → q < w.count → row_line (longer f ms cs) q ≡ row_line w q
  line-alike q h = ap₂ {C = List ℕ} (line_of q) (marks-alike f ms cs q h) (ap (drop (256 * q)) (take-append-le (256 * q + 256) w.cells cs (omega (arith, f.formed.cells-long))))

  listing-alike : listing (given (longer f ms cs)) ≡ listing (given w)
  unfolding listing
  listing-alike =
      ap (λ (l : List ℕ). bytes_of "rows " ++ decimal w.count ++ bytes_of " head " ++ decimal w.head ++ line_end ++ l)
      (rows_alike (row_line (longer f ms cs)) (row_line w) 0 w.count (λ q h. line-alike q (omega arith)))

  longer-listed : listing_of (longer f ms cs) ≡ given (listing (given w))
  unfolding if_formed
  longer-listed = if-true _ _ ((well-formed-test (longer f ms cs)).1 (longer-formed f ms cs)) ∙ ap given listing-alike

pub outcome-printed : (input : List ℕ) → outcome_text listing_of (compile (without_line_end input) (room_for listing_rows)) ≡ given (printed input)
unfolding printed compile outcome_text leaves
outcome-printed input = go (drawn p l) refl
  where
    p : List ℕ
    p = without_line_end input

    l : Room
    l = room_for listing_rows

    go : (d : Answer Table) → drawn p l ≡ d → outcome_text listing_of (leaves l d) ≡ given (listing d)
    go (refused r) e = refl
    go (given w) e = longer-listed (drawn-formed p l w e) _ _

-- ---- how long it gets

module _ (p : List ℕ) (l : Room) where
  pub rows-most : (w : Table) → drawn p l ≡ given w → w.count ≤ rows_for l
  rows-most w e = let c = when-given p l w e in omega (arith, c.few, ap (λ (v : Table). v.count) c.is, rows_few c.tree)

pub room-rows : rows_for (room_for listing_rows) ≡ listing_rows
unfolding rows_for
room-rows = refl

pub printed-most : (input : List ℕ) → length (printed input) ≤ printed_most
unfolding printed
printed-most input = go (drawn p l) refl
  where
    p : List ℕ
    p = without_line_end input

    l : Room
    l = room_for listing_rows

    go : (d : Answer Table) → drawn p l ≡ d → length (listing d) ≤ printed_most
    go (refused r) e = omega (arith, refusal-line-most p l r e)
    go (given w) e = omega (arith, listing-most (drawn-formed p l w e), rows-most p l w e, room-rows)
