-- Columns: noted row by row, then gathered.
use mathlib.Core.Path.{◌≡◌, sym, ap, ◌∙◌}
use mathlib.Core.List.{List}
use Prim.Native.Nat.{ℕ, zero, suc, ◌+◌, ◌*◌, ◌≤◌, ◌<◌}
use native.Mathlib.Decide.{ℕ_discrete}
use native.Mathlib.Numerals.{add-one}
use native.Mathlib.Omega.{arith}
use borrow.Author.Count.{below_more}
use lib.ListN.{length, get_or, set, take, length-set}
use lib.Seq.{get_or-set_same, get_or-set_other, get_or-take, length-take-le}
use Rattle.columns.specs.Columns.{SameOn, Columns, Begins, InColumn, Gathered}

-- ---- the bytes at which a column begins

-- the bytes up to b are gathered
pub record Gathering (begins bytes : List ℕ) (many b : ℕ) : Type 0 where
  pub long : length bytes ≡ 256
  pub some : 1 ≤ many
  pub few : many ≤ b + 1
  pub low : b ≤ 255
  pub column : (x : ℕ) → x < b + 1 → (k : ℕ) × (k < many) × InColumn begins bytes k x

module _ {begins bytes : List ℕ} {many b : ℕ} (G : Gathering begins bytes many b) (l : b < 255) where
  -- another column begins
  pub gathering-hit : Gathering begins (set bytes many (b + 1)) (many + 1) (b + 1)
  gathering-hit = record {
    long = length-set bytes many (b + 1) ∙ G.long;
    some = omega arith;
    few = omega (arith, G.few);
    low = omega arith;
    column = below_more (λ x. (k : ℕ) × (k < many + 1) × InColumn begins (set bytes many (b + 1)) k x) (b + 1) (λ x lx. still x (G.column x lx))
        (many, omega arith, record { from = omega (arith, here); none = λ y p q. absurd (omega (arith, here)) });
  }
    where
      here : get_or (set bytes many (b + 1)) many 0 ≡ b + 1
      here = get_or-set_same bytes many (b + 1) 0 (omega (arith, G.few, G.long))

      still : (x : ℕ) → (k : ℕ) × (k < many) × InColumn begins bytes k x → (k : ℕ) × (k < many + 1) × InColumn begins (set bytes many (b + 1)) k x
      still x c = (c.0, omega (arith, c.1), record { from = omega (arith, same, c.2.from); none = λ y p q. c.2.none y (omega (arith, same, p)) q })
        where
          same : get_or (set bytes many (b + 1)) c.0 0 ≡ get_or bytes c.0 0
          same = get_or-set_other bytes many c.0 (b + 1) 0 (omega (arith, c.1))

  -- the column goes on
  pub gathering-miss : get_or begins (b + 1) 0 ≡ 0 → Gathering begins bytes many (b + 1)
  gathering-miss e = record {
    long = G.long;
    some = G.some;
    few = omega (arith, G.few);
    low = omega arith;
    column = below_more (λ x. (k : ℕ) × (k < many) × InColumn begins bytes k x) (b + 1) G.column (on (G.column b (omega arith)));
  }
    where
      on : (k : ℕ) × (k < many) × InColumn begins bytes k b → (k : ℕ) × (k < many) × InColumn begins bytes k (b + 1)
      on c = (c.0, c.1, record { from = omega (arith, c.2.from); none = λ y p q. below_more (λ y. get_or bytes c.0 0 ≤ y → get_or begins (y + 1) 0 ≡ 0) b (λ y ly h. c.2.none y h ly) (λ h. e) y q p })

pub gathering-all : {begins bytes : List ℕ} {many b : ℕ} → Gathering begins bytes many b → 255 ≤ b → (many ≤ 256) × Gathered begins (take many bytes)
gathering-all {begins} {bytes} {many} {b} G l = (omega (arith, G.few, G.low), record { column = λ x lx. front x (G.column x (omega arith)) })
  where
    long : length (take many bytes) ≡ many
    long = length-take-le many bytes (omega (arith, G.few, G.low, G.long))

    front : (x : ℕ) → (k : ℕ) × (k < many) × InColumn begins bytes k x → (k : ℕ) × (k < length (take many bytes)) × InColumn begins (take many bytes) k x
    front x c = (c.0, omega (arith, c.1, long), record { from = omega (arith, same, c.2.from); none = λ y p q. c.2.none y (omega (arith, same, p)) q })
      where
        same : get_or (take many bytes) c.0 0 ≡ get_or bytes c.0 0
        same = get_or-take many bytes c.0 0 c.1

-- ---- rows go alike within a column

pub columns_of : {cells begins bytes : List ℕ} {n : ℕ} → Begins cells begins n → Gathered begins bytes → Columns cells bytes n
columns_of {cells} {begins} {bytes} {n} B G = record { column = λ b l. ((G.column b l).0, (G.column b l).1, up (get_or bytes (G.column b l).0 0) b l (G.column b l).2.from (G.column b l).2.none) }
  where
    up : (s b : ℕ) → b < 256 → s ≤ b → ((x : ℕ) → s ≤ x → x < b → get_or begins (x + 1) 0 ≡ 0) → SameOn cells n b s
    up s zero l h f = λ q lq. ap (λ (x : ℕ). get_or cells (256 * q + x) 0) z
      where
        z : 0 ≡ s
        z = omega arith
    up s (suc b) l h f = go (ℕ_discrete s (suc b)) (λ k. up s b (omega arith) k (λ x a c. f x a (omega arith)))
      where
        go : Dec (s ≡ suc b) → (s ≤ b → SameOn cells n b s) → SameOn cells n (suc b) s
        go (yes e) rec q lq = ap (λ (x : ℕ). get_or cells (256 * q + x) 0) (sym e)
        go (no e) rec q lq = ap (λ (x : ℕ). get_or cells (256 * q + x) 0) (sym (add-one b)) ∙ B.goes_on b (omega arith) (f b (omega arith) (omega arith)) q lq ∙ rec (omega arith) q lq
