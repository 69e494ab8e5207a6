-- Edges of a graph.
use Rattle.std.specs.Prelude.{◌≡◌, ◌⊎◌, ◌↔◌, ◌<◌, ℕ, suc, true, List, [], ◌∷◌, ◌++◌, length, Option, Some, None}
use Rattle.uc_declared_types.specs.AliasLaw.{IsAmong}
use Rattle.uc_graph.specs.Order.{has, needs}

abbrev pub Edge : Type 0
Edge = ℕ × ℕ

-- an edge to a node, if there is one, and from one
abbrev pub edges_from : ℕ → Option ℕ → List Edge
edges_from a None = []
edges_from a (Some b) = (a, b) ∷ []

abbrev pub edges_to : ℕ → Option ℕ → List Edge
edges_to b None = []
edges_to b (Some a) = (a, b) ∷ []

-- Edges are added; those from numbers past the graph are left out.
pub record AddsEdges (old new : List (List ℕ)) (edges : List Edge) : Type 0 where
  pub size : length new ≡ length old
  pub kept : (a b : ℕ) → has (needs old a) b ≡ true → has (needs new a) b ≡ true
  pub only : (a b : ℕ) → has (needs new a) b ≡ true → (has (needs old a) b ≡ true) ⊎ IsAmong (a, b) edges
  pub there : (a b : ℕ) → a < length old → IsAmong (a, b) edges → has (needs new a) b ≡ true

-- the graph has so many nodes, and exactly these edges from them
pub record HasEdges (graph : List (List ℕ)) (total : ℕ) (edges : List Edge) : Type 0 where
  pub size : length graph ≡ total
  pub are : (a b : ℕ) → a < total → (has (needs graph a) b ≡ true) ↔ IsAmong (a, b) edges

-- what each of a list gives by its place
unfoldable pub each_at : {A B : Type 0} → (ℕ → A → List B) → ℕ → List A → List B
each_at f k [] = []
each_at f k (x ∷ xs) = f k x ++ each_at f (suc k) xs
