-- The nodes of a graph that are reached from some over nodes that are left.
use Rattle.std.specs.Prelude.{◌≡◌, ℕ, zero, suc, Bool, true, false, not, ◌&&◌, List, length, slice_index_or}
use Rattle.uc_graph.specs.Order.{has, needs}

-- whether a node is left, by flags
abbrev pub is_left : List Bool → ℕ → Bool
is_left left n = slice_index_or left n false

-- a node is reached from some over nodes that are left, by so many edges after the first node
unfoldable pub ReachedBy : List (List ℕ) → List Bool → List ℕ → ℕ → ℕ → Type 0
ReachedBy graph left starts zero n = (has starts n ≡ true) × (is_left left n ≡ true)
ReachedBy graph left starts (suc k) n = (m : ℕ) × ReachedBy graph left starts k m × (has (needs graph m) n ≡ true) × (is_left left n ≡ true)

-- Those of some nodes that are left, then those that are left and that an edge leads to from one of these, and so on, and no others.
pub record IsReached (graph : List (List ℕ)) (left : List Bool) (starts found : List ℕ) : Type 0 where
  pub begun : (n : ℕ) → has starts n ≡ true → is_left left n ≡ true → has found n ≡ true
  pub followed : (n m : ℕ) → has found n ≡ true → has (needs graph n) m ≡ true → is_left left m ≡ true → has found m ≡ true
  pub reached : (n : ℕ) → has found n ≡ true → (k : ℕ) × ReachedBy graph left starts k n

-- The same nodes are left as before, but for those that were found.
pub record IsTaken (left : List Bool) (found : List ℕ) (after : List Bool) : Type 0 where
  pub size : length after ≡ length left
  pub left_now : (n : ℕ) → is_left after n ≡ (is_left left n && not (has found n))
