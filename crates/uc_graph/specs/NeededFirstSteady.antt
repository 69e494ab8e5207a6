-- What stays true while the order grows.
use Rattle.std.specs.Prelude.{◌≡◌, ◌⊎◌, ℕ, ◌+◌, ◌<◌, ◌≤◌, Bool, true, false, List, [], ◌∷◌, length, slice_index_or}
use Rattle.uc_graph.specs.Order.{has, needs, EachAfter}

-- how many flags aren't set
unfoldable pub open_count : List Bool → ℕ
open_count [] = 0
open_count (true ∷ bs) = open_count bs
open_count (false ∷ bs) = 1 + open_count bs

-- a node waits for its turn, or for one that it needs
abbrev pub Waits : List (List ℕ) → List (List ℕ) → List ℕ → List ℕ → ℕ → Type 0
Waits graph parked order pending n =
    (has pending n ≡ true) ⊎ ((m : ℕ) × (has (needs graph n) m ≡ true) × (has order m ≡ false) × (m < length graph → has (slice_index_or parked m []) n ≡ true))

-- The order is right so far, and each node that isn't in it waits.
pub record Steady (graph : List (List ℕ)) (flags : List Bool) (passed : List ℕ) (parked : List (List ℕ)) (order : List ℕ) (pending : List ℕ) : Type 0 where
  pub after : EachAfter graph [] order
  pub nodes : (n : ℕ) → has order n ≡ true → n < length graph
  pub flagged : (n : ℕ) → slice_index_or flags n false ≡ has order n
  pub met : (n k : ℕ) → k < slice_index_or passed n 0 → has order (slice_index_or (needs graph n) k 0) ≡ true
  pub waiting : (n : ℕ) → n < length graph → has order n ≡ false → Waits graph parked order pending n

-- there is a flag, a number and a list for each node
pub record IsSized (graph : List (List ℕ)) (flags : List Bool) (passed : List ℕ) (parked : List (List ℕ)) : Type 0 where
  pub flag_count : length flags ≡ length graph
  pub passed_count : length passed ≡ length graph
  pub parked_count : length parked ≡ length graph

-- none is woken, or there is one more in the order
pub record IsFewer (flags : List Bool) (woken : List ℕ) (after : List Bool) (more : List ℕ) : Type 0 where
  pub fewer : open_count after ≤ open_count flags
  pub one_less : (more ≡ woken) ⊎ (open_count after < open_count flags)
