-- The values of terms, as they were evaluated.
use Rattle.std.specs.Prelude.{◌≡◌, ℕ, ◌<◌, List, length, All}
use Rattle.uc_values.specs.declared.value.Value.{Value}
use Rattle.uc_ops.specs.declared.model.Model.{Model}
use Rattle.uc_ops.specs.declared.node.Node.{Node}
use Rattle.uc_ops.specs.Meaning.{part}
use Rattle.uc_terms.specs.Values.{value}
use Rattle.uc_terms.specs.Met.{MeetsOnlyNarrow}

-- the list has the value of each term at its number, and all that was met is narrow
pub record AreEvaluated (m : Model) (nodes : List Node) (roots : List ℕ) (values : List Value) : Type 0 where
  pub there : All (λ t. t < length values) roots
  pub same : All (λ t. part values t ≡ value m nodes t) roots
  pub narrow : All (MeetsOnlyNarrow m nodes) roots
