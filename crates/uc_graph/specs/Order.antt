-- An order of the nodes of a graph in which each comes after those that it needs.
use Rattle.std.specs.Prelude.{◌≡◌, ℕ, ◌<◌, Bool, true, false, nat_eq, List, [], ◌∷◌, ◌++◌, length, slice_index_or}
use Rattle.std.specs.List.{list_any}

-- whether a number is one of some
abbrev pub has : List ℕ → ℕ → Bool
has ns n = list_any (nat_eq n) ns

-- what a node needs, by the place of the node in the graph
abbrev pub needs : List (List ℕ) → ℕ → List ℕ
needs graph n = slice_index_or graph n []

-- each node is new, and comes after all that it needs, where these nodes came before
unfoldable pub EachAfter : List (List ℕ) → List ℕ → List ℕ → Type 0
EachAfter graph before [] = Unit {0}
EachAfter graph before (n ∷ ns) =
    ((has before n ≡ false) × ((m : ℕ) → has (needs graph n) m ≡ true → has before m ≡ true)) × EachAfter graph (before ++ n ∷ []) ns

-- Nodes of a graph in order, each once and after all that it needs. A node that is left out needs one that is left out: so it leads into
-- a cycle, or to a number that is no node.
pub record IsNeededFirst (graph : List (List ℕ)) (order : List ℕ) : Type 0 where
  pub after : EachAfter graph [] order
  pub nodes : (n : ℕ) → has order n ≡ true → n < length graph
  pub left : (n : ℕ) → n < length graph → has order n ≡ false → (m : ℕ) × (has (needs graph n) m ≡ true) × (has order m ≡ false)
