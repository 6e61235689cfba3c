-- Rows in a list, those of a class side by side: class c is the stretch of the list from start c to end c.
use Rattle.std.specs.Prelude.{◌≡◌, ◌⊎◌, ◌≢◌, List, ℕ, ◌≤◌, ◌<◌, ltb, length, get_or}
use Rattle.rules.specs.Sizes.{rows_most}

-- each of n rows stands in the list, at its place
pub record Placed (order place : List ℕ) (n : ℕ) : Type 0 where
  pub few : n ≤ rows_most
  pub order-long : length order ≡ n
  pub place-long : length place ≡ n
  pub row : (p : ℕ) → p < n → get_or order p 0 < n
  pub inside : (r : ℕ) → r < n → get_or place r 0 < n
  pub there : (r : ℕ) → r < n → get_or order (get_or place r 0) 0 ≡ r
  pub back : (p : ℕ) → p < n → get_or place (get_or order p 0) 0 ≡ p

-- of n rows the first m stand in order
pub record InOrder (order place : List ℕ) (n m : ℕ) : Type 0 where
  pub order-long : length order ≡ n
  pub place-long : length place ≡ n
  pub row : (p : ℕ) → p < m → get_or order p 0 ≡ p
  pub at : (r : ℕ) → r < m → get_or place r 0 ≡ r

-- row r went to place p, and the row that stood there to r's; no other row moved
pub record Swapped (order place order' place' : List ℕ) (n r p : ℕ) : Type 0 where
  pub placed : Placed order' place' n
  pub moved : get_or place' r 0 ≡ p
  pub other : get_or place' (get_or order p 0) 0 ≡ get_or place r 0
  pub still : (x : ℕ) → x < n → x ≢ r → x ≢ get_or order p 0 → get_or place' x 0 ≡ get_or place x 0

-- n rows in the list are of classes numbered below `many`, each class the rows of its stretch
pub record Stretches (order class start end : List ℕ) (n many : ℕ) : Type 0 where
  pub few : n ≤ rows_most
  pub order-long : length order ≡ n
  pub class-long : length class ≡ n
  pub start-long : length start ≡ n
  pub end-long : length end ≡ n
  pub row : (p : ℕ) → p < n → get_or order p 0 < n
  pub once : (p q : ℕ) → p < n → q < n → get_or order p 0 ≡ get_or order q 0 → p ≡ q
  pub numbered : (p : ℕ) → p < n → get_or class (get_or order p 0) 0 < many
  pub from : (p : ℕ) → p < n → get_or start (get_or class (get_or order p 0) 0) 0 ≤ p
  pub to : (p : ℕ) → p < n → p < get_or end (get_or class (get_or order p 0) 0) 0
  pub some : (c : ℕ) → c < many → get_or start c 0 < get_or end c 0
  pub inside : (c : ℕ) → c < many → get_or end c 0 ≤ n
  pub own : (c p : ℕ) → c < many → get_or start c 0 ≤ p → p < get_or end c 0 → get_or class (get_or order p 0) 0 ≡ c

-- a place of class c's stretch, or its end
pub record Inside (start end : List ℕ) (c at many : ℕ) : Type 0 where
  pub number : c < many
  pub from : get_or start c 0 ≤ at
  pub to : at ≤ get_or end c 0

-- a place of class c's stretch with rows of it on both sides
pub record Within (start end : List ℕ) (c at many : ℕ) : Type 0 where
  pub number : c < many
  pub from : get_or start c 0 < at
  pub to : at < get_or end c 0

-- the list has no row twice, and each has a class
pub record Once (order class : List ℕ) : Type 0 where
  pub few : length order ≤ rows_most
  pub class-long : length class ≡ length order
  pub row : (p : ℕ) → p < length order → get_or order p 0 < length order
  pub once : (p q : ℕ) → p < length order → q < length order → get_or order p 0 ≡ get_or order q 0 → p ≡ q

-- the rows at places from `from` to `to` are of class z, and every other row is of its class
pub record Renumbered (order class class' : List ℕ) (n from to z : ℕ) : Type 0 where
  pub long : length class' ≡ length class
  pub new : (p : ℕ) → from ≤ p → p < to → get_or class' (get_or order p 0) 0 ≡ z
  pub low : (p : ℕ) → p < from → get_or class' (get_or order p 0) 0 ≡ get_or class (get_or order p 0) 0
  pub high : (p : ℕ) → to ≤ p → p < n → get_or class' (get_or order p 0) 0 ≡ get_or class (get_or order p 0) 0

-- class c is cut at the place `at`: rows on one side stay together, and a row keeps its number or takes a new one
pub record CutAt (order class class' : List ℕ) (n c at many many' : ℕ) : Type 0 where
  pub finer : (p q : ℕ) → p < n → q < n → get_or class' (get_or order p 0) 0 ≡ get_or class' (get_or order q 0) 0 → get_or class (get_or order p 0) 0 ≡ get_or class (get_or order q 0) 0
  pub parted : (p q : ℕ) → p < n → q < n → get_or class' (get_or order p 0) 0 ≡ get_or class' (get_or order q 0) 0 → get_or class (get_or order p 0) 0 ≡ c → ltb p at ≡ ltb q at
  pub fair : (p q : ℕ) → p < n → q < n → get_or class (get_or order p 0) 0 ≡ get_or class (get_or order q 0) 0 → ltb p at ≡ ltb q at
      → get_or class' (get_or order p 0) 0 ≡ get_or class' (get_or order q 0) 0
  pub new : (p : ℕ) → p < n → (get_or class' (get_or order p 0) 0 ≡ get_or class (get_or order p 0) 0) ⊎ (many ≤ get_or class' (get_or order p 0) 0)
  pub more : many ≤ many'
