-- Laws of entries: the lists of their numbers.
use mathlib.Core.Path.{◌≡◌}
use mathlib.Core.List.{List}
use Prim.Native.Nat.{ℕ}
use lib.ListN.{length, get_or, get_or-map, length-map, take}
use Rattle.std.proofs.lemmas.List.{take-map}
use Rattle.entries.specs.Entries.{kind_number, kinds_of, firsts_of, seconds_of, atoms_of, blank, entry_at}
use Rattle.entries.specs.declared.Entry.{Entry}

module _ (l : List Entry) where
  pub length-kinds : length (kinds_of l) ≡ length l
  unfolding kinds_of
  length-kinds = simp length-map

  pub length-firsts : length (firsts_of l) ≡ length l
  unfolding firsts_of
  length-firsts = simp length-map

  pub length-seconds : length (seconds_of l) ≡ length l
  unfolding seconds_of
  length-seconds = simp length-map

  pub length-atoms : length (atoms_of l) ≡ length l
  unfolding atoms_of
  length-atoms = simp length-map

  -- ---- of node u

  module _ (u : ℕ) where
    pub get-kind : get_or (kinds_of l) u 0 ≡ kind_number (entry_at l u).kind
    unfolding kinds_of
    get-kind = get_or-map (λ n. kind_number n.kind) l u blank

    pub get-first : get_or (firsts_of l) u 0 ≡ (entry_at l u).to1.0
    unfolding firsts_of
    get-first = get_or-map (λ n. n.to1.0) l u blank

    pub get-second : get_or (seconds_of l) u 0 ≡ (entry_at l u).to2.0
    unfolding seconds_of
    get-second = get_or-map (λ n. n.to2.0) l u blank

    pub get-atom : get_or (atoms_of l) u 0 ≡ (entry_at l u).atom
    unfolding atoms_of
    get-atom = get_or-map (λ n. n.atom) l u blank

  -- ---- of the first n nodes

  module _ (n : ℕ) where
    pub take-kinds : take n (kinds_of l) ≡ kinds_of (take n l)
    unfolding kinds_of
    take-kinds = take-map (λ n. kind_number n.kind) n l

    pub take-firsts : take n (firsts_of l) ≡ firsts_of (take n l)
    unfolding firsts_of
    take-firsts = take-map (λ n. n.to1.0) n l

    pub take-seconds : take n (seconds_of l) ≡ seconds_of (take n l)
    unfolding seconds_of
    take-seconds = take-map (λ n. n.to2.0) n l

    pub take-atoms : take n (atoms_of l) ≡ atoms_of (take n l)
    unfolding atoms_of
    take-atoms = take-map (λ n. n.atom) n l
