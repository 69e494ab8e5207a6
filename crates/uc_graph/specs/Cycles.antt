-- Ways in a graph, and cycles.
use Rattle.std.specs.Prelude.{◌≡◌, ◌↔◌, ℕ, zero, suc, true, Bool, List, slice_index_or, IsTrue, false}
use Rattle.uc_graph.specs.Order.{has, needs}

-- so many edges after the first one lead from a node to another one
unfoldable pub IsWay : List (List ℕ) → ℕ → ℕ → ℕ → Type 0
IsWay graph zero x y = has (needs graph x) y ≡ true
IsWay graph (suc k) x y = (z : ℕ) × IsWay graph k x z × (has (needs graph z) y ≡ true)

-- at least one edge leads from a node to another one
abbrev pub LeadsTo : List (List ℕ) → ℕ → ℕ → Type 0
LeadsTo graph x y = (k : ℕ) × IsWay graph k x y

abbrev pub LiesOnCycle : List (List ℕ) → ℕ → Type 0
LiesOnCycle graph n = LeadsTo graph n n

-- the flags are set of exactly those nodes that lie on a cycle
unfoldable pub MarksCycles : List (List ℕ) → List Bool → Type 0
MarksCycles graph flags = (n : ℕ) → IsTrue (slice_index_or flags n false) ↔ LiesOnCycle graph n
