-- The sums and products of integers that the evaluation of a term meets.
use Rattle.std.specs.Prelude.{ℕ, List, [], slice_get, Option, Some, None, Contains}
use Rattle.uc_linear.specs.declared.exact.Wide.{Wide}
use Rattle.uc_ops.specs.declared.model.Model.{Model}
use Rattle.uc_ops.specs.declared.node.Node.{Node}
use Rattle.uc_ops.specs.Met.{met_in, IsNarrowResult}
use Rattle.uc_terms.specs.Values.{values_at}
use Rattle.uc_terms.specs.Subterms.{IsSubterm}

abbrev pub met_by : Model → List Node → Option Node → List Wide
met_by m nodes None = []
met_by m nodes (Some node) = met_in node.op (values_at m nodes node.parts)

-- what the operation of a term meets
unfoldable pub met_at : Model → List Node → ℕ → List Wide
met_at m nodes t = met_by m nodes (slice_get nodes t)

-- the operation is met where the term is evaluated: at one of its subterms
pub record Meets (m : Model) (nodes : List Node) (t : ℕ) (w : Wide) : Type 0 where
  pub place : ℕ
  pub below : IsSubterm nodes t place
  pub met : Contains (met_at m nodes place) w

-- none of the operations that are met leaves 128 bits
abbrev pub MeetsOnlyNarrow : Model → List Node → ℕ → Type 0
MeetsOnlyNarrow m nodes t = (w : Wide) → Meets m nodes t w → IsNarrowResult w

-- the operation is met where one of the terms is evaluated
pub record MeetsInOne (m : Model) (nodes : List Node) (roots : List ℕ) (w : Wide) : Type 0 where
  pub root : ℕ
  pub listed : Contains roots root
  pub met : Meets m nodes root w
