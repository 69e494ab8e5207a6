-- What stays true while places are put in order.
use Rattle.std.specs.Prelude.{◌≡◌, ◌⊎◌, ℕ, suc, ◌+◌, ◌<◌, Bool, true, false, List, [], ◌∷◌, ◌++◌, length, slice_index_or}
use Rattle.uc_graph.specs.Order.{has, needs}
use Rattle.uc_graph.specs.Arranged.{arranged, in_order}
use Rattle.uc_graph.specs.Places.{numbers_from, Follows}

-- a place that isn't in the order yet
abbrev pub IsOpen : List Bool → ℕ → Type 0
IsOpen flags n = slice_index_or flags n true ≡ false

-- the open places, where the flags are those from a number on
unfoldable pub open_from : ℕ → List Bool → List ℕ
open_from first [] = []
open_from first (true ∷ bs) = open_from (suc first) bs
open_from first (false ∷ bs) = first ∷ open_from (suc first) bs

-- a place waits for an open one that it needs
pub record Waits (graph : List (List ℕ)) (flags : List Bool) (waiting : List (List ℕ)) (n : ℕ) : Type 0 where
  pub need : ℕ
  pub needed : has (needs graph n) need ≡ true
  pub open_need : IsOpen flags need
  pub another : need ≡ n → ⊥
  pub listed : has (slice_index_or waiting need []) n ≡ true

-- there is a flag and a list for each place
pub record IsSized (graph : List (List ℕ)) (flags : List Bool) (waiting : List (List ℕ)) : Type 0 where
  pub flag_count : length flags ≡ length graph
  pub list_count : length waiting ≡ length graph

-- each open place is one of those that may be free, or waits
pub record Steady (graph : List (List ℕ)) (flags : List Bool) (waiting : List (List ℕ)) (ready : List ℕ) : Type 0 where
  pub sized : IsSized graph flags waiting
  pub turns : (n : ℕ) → IsOpen flags n → (has ready n ≡ true) ⊎ Waits graph flags waiting n

-- An open place needs no open one, and each open place before it waits.
pub record IsNext (graph : List (List ℕ)) (flags : List Bool) (waiting : List (List ℕ)) (ready : List ℕ) (n : ℕ) : Type 0 where
  pub sized : IsSized graph flags waiting
  pub free : IsOpen flags n
  pub met : (m : ℕ) → has (needs graph n) m ≡ true → (m ≡ n → ⊥) → slice_index_or flags m true ≡ true
  pub turns : (m : ℕ) → IsOpen flags m → (m ≡ n) ⊎ ((has ready m ≡ true) × (n < m)) ⊎ Waits graph flags waiting m

-- all open places wait
pub record AllWait (graph : List (List ℕ)) (flags : List Bool) (waiting : List (List ℕ)) : Type 0 where
  pub sized : IsSized graph flags waiting
  pub waits : (n : ℕ) → IsOpen flags n → Waits graph flags waiting n

-- What is left is arranged behind the places that are in the order, and this is right so far.
pub record IsSoFar (graph : List (List ℕ)) (flags : List Bool) (order : List ℕ) : Type 0 where
  pub counted : length order + length (open_from 0 flags) ≡ length graph
  pub arranges : (goes : ℕ → ℕ → Bool) → Follows graph goes → arranged goes (numbers_from 0 (length graph)) ≡ order ++ arranged goes (open_from 0 flags)
  pub orders : (goes : ℕ → ℕ → Bool) → Follows graph goes → in_order goes (arranged goes (numbers_from 0 (length graph))) ≡ in_order goes (arranged goes (open_from 0 flags))
