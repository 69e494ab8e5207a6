-- When a problem stands for a goal.
use Rattle.std.specs.Prelude.{◌≡◌, ℕ, ◌≤◌, Bool as Truth, List, map, Option, None, Some, All, Contains}
use Rattle.uc_ops.specs.declared.model.Model.{Model}
use Rattle.uc_ops.specs.declared.node.Node.{Node}
use Rattle.uc_ops.specs.Typing.{type_at}
use Rattle.uc_terms.specs.Values.{value, values_at}
use Rattle.uc_terms.specs.Laws.{IsModelOf, SameUnderEveryModel}
use Rattle.uc_lower.specs.Fields.{coded}
use Rattle.uc_lower.specs.Lowering.{Pair, stand_ins, Agree, IsMapOf}
use Rattle.uc_lower.specs.Bits.{bits_at, IsSymbolBelow}
use Rattle.uc_blast.specs.Blasting.{StandsFor}
use Rattle.uc_log.specs.Problems.{Question, IsModelOf as IsModelOfProblem}

-- the symbols that the map speaks of
abbrev pub mapped : List Pair → List ℕ
mapped pairs = map (λ (p : Pair). p.0) pairs

-- The models agree by the map: what stands for a symbol has under the second the values of the innermost fields that the symbol
-- has under the first, a label being told by its bits.
abbrev pub Follows : Model → Model → List Node → List Pair → Type 0
Follows m n nodes pairs = (k : ℕ) → Contains (mapped pairs) k → values_at n nodes (stand_ins pairs k) ≡ coded (type_at nodes k) (value m nodes k)

-- a model of the goal and inputs of the problem go over into each other: they belong to a model that agrees by the map
pub record GoesOver (m : Model) (inputs : List Truth) (nodes : List Node) (goal : ℕ) (q : Question) (pairs : List Pair) : Type 0 where
  pub between : Model
  pub follows : Follows m between nodes pairs
  pub goal_model : IsModelOf m nodes goal
  pub problem_model : IsModelOfProblem between inputs nodes q

-- There is a term with the goal's value under every model, and a lowered one whose problem this is. The map has for each symbol of the one the symbols of the other that
-- stand for its innermost fields: models that agree by it give both terms one value, every model of the goal goes over into one of the problem, and every model of
-- the problem into one of the goal.
pub record Stands (nodes : List Node) (goal : ℕ) (q : Question) : Type 0 where
  pub simple : ℕ
  pub low : ℕ
  pub pairs : List Pair
  pub same : SameUnderEveryModel nodes simple nodes goal
  pub map : IsMapOf nodes simple nodes low pairs
  pub equal : (m n : Model) → Agree m n nodes simple nodes pairs → value n nodes low ≡ value m nodes simple
  pub problem : StandsFor nodes low q
  pub there : (m : Model) → IsModelOf m nodes goal → (inputs : List Truth) × GoesOver m inputs nodes goal q pairs
  pub back : (n : Model) (inputs : List Truth) → IsModelOfProblem n inputs nodes q → (m : Model) × GoesOver m inputs nodes goal q pairs

-- the opened problem stands for the goal
abbrev pub OpenedStands : List Node → ℕ → Option Question → Type 0
OpenedStands nodes goal None = ⊥
OpenedStands nodes goal (Some q) = Stands nodes goal q

-- the symbols of the term have types of at most so many bits, all together
pub record HasBitsUpTo (nodes : List Node) (t n : ℕ) : Type 0 where
  pub symbols : List ℕ
  pub only : All (IsSymbolBelow nodes t) symbols
  pub all : (k : ℕ) → IsSymbolBelow nodes t k → Contains symbols k
  pub few : bits_at nodes symbols ≤ n
