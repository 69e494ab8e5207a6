-- The terms at and below some terms, and the numbers that wait while these are listed.
use Rattle.std.specs.Prelude.{◌⊎◌, ℕ, ◌+◌, ◌<◌, ◌≤◌, List, length, slice_index, Contains}
use Rattle.uc_ops.specs.declared.node.Node.{Node}
use Rattle.uc_terms.specs.Subterms.{IsBelow}

-- the numbers fall
abbrev pub Falls : List ℕ → Type 0
Falls numbers = (i j : ℕ) → i < j → j < length numbers → slice_index numbers j < slice_index numbers i

-- the numbers are those of the terms at and below the roots, and fall: so each stands once, and before those of its parts
pub record AreBelow (nodes : List Node) (roots numbers : List ℕ) : Type 0 where
  pub sound : (k : ℕ) → Contains numbers k → IsBelow nodes roots k
  pub complete : (k : ℕ) → IsBelow nodes roots k → Contains numbers k
  pub falls : Falls numbers

-- a table has at most as many terms more as another has at and below the roots
pub record AddsNoMore (nodes : List Node) (roots : List ℕ) (old new : List Node) : Type 0 where
  pub terms : List ℕ
  pub below : AreBelow nodes roots terms
  pub few : length new ≤ length old + length terms

-- what was among the numbers is, and so are these, and nothing else
pub record Joins (before more now : List ℕ) : Type 0 where
  pub kept : (n : ℕ) → Contains before n → Contains now n
  pub added : (n : ℕ) → Contains more n → Contains now n
  pub only : (n : ℕ) → Contains now n → Contains before n ⊎ Contains more n
