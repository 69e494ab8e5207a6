-- The simplified and lowered goal.
use Rattle.std.specs.Prelude.{◌≡◌, ℕ, ◌<◌, ◌≤◌, List, length, All, Contains}
use Rattle.uc_ops.specs.declared.model.Model.{Model}
use Rattle.uc_ops.specs.declared.node.Node.{Node}
use Rattle.uc_terms.specs.Subterms.{EvenlyTyped}
use Rattle.uc_terms.specs.Laws.{IsModelOf, SameUnderEveryModel}
use Rattle.uc_terms.specs.Values.{value}
use Rattle.uc_lower.specs.Lowering.{Pair, Agree, IsMapOf, IsFiniteTerm, IsLoweredTerm}
use Rattle.uc_lower.specs.Bits.{bits_at, AreApart, IsSymbolBelow}
use Rattle.uc_solver.specs.Codes.{IsSymbolPair, GoesBack}
use Rattle.uc_solver.specs.Stands.{Follows}

-- a model of the goal that agrees with one of the lowered goal
pub record Match (m n : Model) (nodes : List Node) (goal : ℕ) (pairs : List Pair) : Type 0 where
  pub follows : Follows m n nodes pairs
  pub model : IsModelOf m nodes goal

-- u is a lowered term whose models are those of the goal by the map, which is that of a term with the goal's value, and its symbols have no more bits than those of the goal
pub record IsReduced (nodes : List Node) (goal u : ℕ) (pairs : List Pair) : Type 0 where
  pub simple : ℕ
  pub same : SameUnderEveryModel nodes simple nodes goal
  pub map : IsMapOf nodes simple nodes u pairs
  pub equal : (m n : Model) → Agree m n nodes simple nodes pairs → value n nodes u ≡ value m nodes simple
  pub goal_there : goal < length nodes
  pub goal_even : EvenlyTyped nodes goal
  pub goal_finite : IsFiniteTerm nodes goal
  pub lowered : IsLoweredTerm nodes u
  pub even : EvenlyTyped nodes u
  pub symbols : All (IsSymbolPair nodes) pairs
  pub there : (m : Model) → IsModelOf m nodes goal → (n : Model) × Follows m n nodes pairs × IsModelOf n nodes u
  pub back : (n : Model) → IsModelOf n nodes u → (m : Model) × Match m n nodes goal pairs
  pub told : (m n : Model) → IsModelOf n nodes u → GoesBack m n nodes goal pairs → IsModelOf m nodes goal
  pub bits : (us ts : List ℕ) → AreApart us → All (IsSymbolBelow nodes u) us → All (IsSymbolBelow nodes goal) ts → ((k : ℕ) → IsSymbolBelow nodes goal k → Contains ts k)
      → bits_at nodes us ≤ bits_at nodes ts
