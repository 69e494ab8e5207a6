-- What is said of nodes as they are taken.
use Rattle.std.specs.Prelude.{◌≡◌, ℕ, ◌+◌, Bool, true, false, not, ◌&&◌, ◌||◌, List, [], ◌∷◌, ◌++◌, length}
use Rattle.std.specs.List.{list_any}
use Rattle.uc_graph.specs.Order.{has, needs}
use Rattle.uc_graph.specs.Reached.{ReachedBy, is_left}

-- how many nodes are left
unfoldable pub left_count : List Bool → ℕ
left_count [] = 0
left_count (true ∷ bs) = 1 + left_count bs
left_count (false ∷ bs) = left_count bs

-- whether an edge leads to a node from one of some
abbrev pub edge_from : List (List ℕ) → List ℕ → ℕ → Bool
edge_from graph ns m = list_any (λ n. has (needs graph n) m) ns

-- The nodes that are left and pass a test aren't left any more, but among those that were taken.
pub record Takes (test : ℕ → Bool) (left : List Bool) (taken : List ℕ) (after : List Bool) (more : List ℕ) : Type 0 where
  pub size : length after ≡ length left
  pub left_now : (n : ℕ) → is_left after n ≡ (is_left left n && not (test n))
  pub taken_now : (n : ℕ) → has more n ≡ (has taken n || (is_left left n && test n))
  pub count : left_count after + length more ≡ left_count left + length taken

-- What stays true from round to round: what was found, and what was reached last.
pub record Spreads (graph : List (List ℕ)) (start : List Bool) (starts : List ℕ) (left : List Bool) (found fresh : List ℕ) : Type 0 where
  pub size : length left ≡ length start
  pub left_now : (n : ℕ) → is_left left n ≡ (is_left start n && not (has (found ++ fresh) n))
  pub begun : (n : ℕ) → has starts n ≡ true → is_left left n ≡ false
  pub followed : (n m : ℕ) → has found n ≡ true → has (needs graph n) m ≡ true → is_left left m ≡ false
  pub reached : (n : ℕ) → has (found ++ fresh) n ≡ true → (k : ℕ) × ReachedBy graph start starts k n
