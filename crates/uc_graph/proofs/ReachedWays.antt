-- What follows from how nodes are reached.
use Rattle.std.proofs.Common.{◌≡◌, ℕ, zero, suc, Bool, true, List}
use Rattle.uc_graph.specs.Order.{has, needs}
use Rattle.uc_graph.specs.Reached.{IsReached, ReachedBy, is_left}

pub was_left : (graph : List (List ℕ)) (left : List Bool) (starts : List ℕ) (k n : ℕ) → ReachedBy graph left starts k n → is_left left n ≡ true
unfolding ReachedBy
was_left graph left starts zero n r = r.1
was_left graph left starts (suc k) n r = r.3

-- what holds of the first nodes, and of each that an edge leads to from one of which it holds, holds of all
pub each_reached : (graph : List (List ℕ)) (left : List Bool) (starts : List ℕ) (P : ℕ → Type 0) → ((n : ℕ) → has starts n ≡ true → is_left left n ≡ true → P n) →
    ((n m : ℕ) → P n → has (needs graph n) m ≡ true → is_left left m ≡ true → P m) → (k n : ℕ) → ReachedBy graph left starts k n → P n
unfolding ReachedBy
each_reached graph left starts P begins steps zero n r = begins n r.0 r.1
each_reached graph left starts P begins steps (suc k) n r = steps r.0 n (each_reached graph left starts P begins steps k r.0 r.1) r.2 r.3

pub all_reached : (graph : List (List ℕ)) (left : List Bool) (starts found : List ℕ) (P : ℕ → Type 0) → IsReached graph left starts found → ((n : ℕ) → has starts n ≡ true → is_left left n ≡ true → P n) →
    ((n m : ℕ) → P n → has (needs graph n) m ≡ true → is_left left m ≡ true → P m) → (n : ℕ) → has found n ≡ true → P n
all_reached graph left starts found P is begins steps n h = let r = is.reached n h in each_reached graph left starts P begins steps r.0 n r.1
