-- What is known of nodes while their cycles are found.
use Rattle.std.specs.Prelude.{◌≡◌, ◌⊎◌, ◌<◌, ℕ, Bool, true, false, not, ◌&&◌, ◌||◌, nat_eq, nat_lt, List, length}
use Rattle.uc_graph.specs.Order.{has, needs}
use Rattle.uc_graph.specs.Reached.{is_left}
use Rattle.uc_graph.specs.Cycles.{LeadsTo, LiesOnCycle}
use Rattle.uc_graph.specs.declared.settled.Settled.{Settled}

-- the edges of the second graph are those of the first one the other way round
pub record IsReversed (graph back : List (List ℕ)) : Type 0 where
  pub there : (x y : ℕ) → y < length graph → has (needs graph x) y ≡ true → has (needs back y) x ≡ true
  pub only : (x y : ℕ) → has (needs back y) x ≡ true → has (needs graph x) y ≡ true

-- a node is added to the lists of some places
pub record Enters (node : ℕ) (places : List ℕ) (old new : List (List ℕ)) : Type 0 where
  pub size : length new ≡ length old
  pub kept : (k n : ℕ) → has (needs old k) n ≡ true → has (needs new k) n ≡ true
  pub only : (k n : ℕ) → has (needs new k) n ≡ true → (has (needs old k) n ≡ true) ⊎ ((n ≡ node) × (has places k ≡ true))
  pub there : (k : ℕ) → k < length old → has places k ≡ true → has (needs new k) node ≡ true

-- Of the nodes that aren't left it is known whether they lie on a cycle. With one that is left all others of its cycles are left.
pub record Settles (graph : List (List ℕ)) (s : Settled) : Type 0 where
  pub left_count : length s.left ≡ length graph
  pub flag_count : length s.flags ≡ length graph
  pub inside_count : length s.inside ≡ length graph
  pub nothing_inside : (n : ℕ) → is_left s.inside n ≡ false
  pub sound : (n : ℕ) → is_left s.flags n ≡ true → LiesOnCycle graph n
  pub complete : (n : ℕ) → is_left s.left n ≡ false → LiesOnCycle graph n → is_left s.flags n ≡ true
  pub together : (n m : ℕ) → is_left s.left n ≡ true → LeadsTo graph n m → LeadsTo graph m n → is_left s.left m ≡ true

-- it is known of a node, and of all of which it was known
pub record SettlesNode (graph : List (List ℕ)) (node : ℕ) (old new : Settled) : Type 0 where
  pub settles : Settles graph new
  pub known : is_left new.left node ≡ false
  pub fewer : (n : ℕ) → is_left old.left n ≡ false → is_left new.left n ≡ false

-- the flags of the nodes that pass a test are set
pub record Sets (test : ℕ → Bool) (old new : List Bool) : Type 0 where
  pub count : length new ≡ length old
  pub now : (n : ℕ) → is_left new n ≡ (is_left old n || (test n && nat_lt n (length old)))

-- the flags of the nodes that pass a test are cleared
pub record Clears (test : ℕ → Bool) (old new : List Bool) : Type 0 where
  pub count : length new ≡ length old
  pub now : (n : ℕ) → is_left new n ≡ (is_left old n && not (test n))
