-- The value of a term under a model.
use Rattle.std.specs.Prelude.{ℕ, List, map}
use Rattle.uc_values.specs.Values.{nothing}
use Rattle.uc_values.specs.declared.ty.Ty.{Ty}
use Rattle.uc_values.specs.declared.ty.Ty.TheVariants.{Bool}
use Rattle.uc_values.specs.declared.value.Value.{Value}
use Rattle.uc_ops.specs.declared.model.Model.{Model}
use Rattle.uc_ops.specs.declared.node.Node.{Node}
use Rattle.uc_ops.specs.Meaning.{apply}
use Rattle.uc_terms.specs.Along.{told}

-- the type of a term with its value
pub record Meant : Type 0 where
  pub ty : Ty
  pub value : Value

-- what stands for a term that is not there
abbrev pub nothing_meant : Meant
nothing_meant = record { ty = Bool; value = nothing }

abbrev pub meant_types : List Meant → List Ty
meant_types parts = map (λ p. p.ty) parts

abbrev pub meant_values : List Meant → List Value
meant_values parts = map (λ p. p.value) parts

-- a node has its type, and the value of its operation on those of its parts
abbrev pub node_meant : Model → Node → List Meant → Meant
node_meant m node parts = record { ty = node.ty; value = apply m node.op (meant_types parts) (meant_values parts) }

unfoldable pub meant : Model → List Node → ℕ → Meant
meant m nodes t = told nothing_meant (node_meant m) nodes t

-- the value of a term under a model: that of its operation on the values of its parts
unfoldable pub value : Model → List Node → ℕ → Value
value m nodes t = (meant m nodes t).value

-- the values of the parts of a node
abbrev pub values_at : Model → List Node → List ℕ → List Value
values_at m nodes parts = map (value m nodes) parts
