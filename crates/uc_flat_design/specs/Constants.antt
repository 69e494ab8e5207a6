-- Constants of an interpretation as symbols of a model.
use Rattle.std.specs.Prelude.{◌≡◌, ℕ, false, Some, slice_get, slice_index_or}
use Rattle.uc_values.specs.declared.ty.Ty.{Ty}
use Rattle.uc_values.specs.declared.value.Value.TheVariants.{Bool as truth}
use Rattle.uc_meaning.specs.declared.scope.Interp.{Interp}
use Rattle.uc_meaning.specs.Lookup.{System}
use Rattle.uc_ops.specs.declared.model.Model.{Model}
use Rattle.uc_ops.specs.Meaning.{fitting}
use Rattle.uc_flat_design.specs.Names.{constant_types}

-- Each constant has in the model, as the symbol of its number, the value that it has in the interpretation. Of a design without constants nothing is said.
pub record SharesConstants (system : System) (i : Interp) (m : Model) : Type 0 where
  pub same : (k : ℕ) (ty : Ty) → slice_get (constant_types system) k ≡ Some ty → slice_index_or i.consts k (truth false) ≡ fitting ty (slice_get m.symbols k)
