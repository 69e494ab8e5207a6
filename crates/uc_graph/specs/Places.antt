-- Places of a graph in order.
use Rattle.std.specs.Prelude.{◌≡◌, ℕ, zero, suc, ◌<◌, Bool, true, false, not, List, [], ◌∷◌, length, Option, Some, None}
use Rattle.uc_graph.specs.Order.{has, needs}
use Rattle.uc_graph.specs.Arranged.{arranged, in_order}

-- so many numbers from the first on
unfoldable pub numbers_from : ℕ → ℕ → List ℕ
numbers_from first zero = []
numbers_from first (suc n) = first ∷ numbers_from (suc first) n

-- a place of the graph may go before another where it doesn't need it
abbrev pub Follows : List (List ℕ) → (ℕ → ℕ → Bool) → Type 0
Follows graph goes = (i j : ℕ) → i < length graph → j < length graph → (i ≡ j → ⊥) → goes i j ≡ not (has (needs graph i) j)

-- The places of a graph arranged, where this puts each behind all that it needs; else it puts some before one that it needs.
abbrev pub IsPlaced : List (List ℕ) → Option (List ℕ) → Type 0
IsPlaced graph (Some order) = (goes : ℕ → ℕ → Bool) → Follows graph goes → (arranged goes (numbers_from 0 (length graph)) ≡ order) × (in_order goes order ≡ true)
IsPlaced graph None = (goes : ℕ → ℕ → Bool) → Follows graph goes → in_order goes (arranged goes (numbers_from 0 (length graph))) ≡ false
