-- Which type a test finds.
use Rattle.std.proofs.Common.{◌≡◌, refl}
use Rattle.std.specs.Prelude.{true}
use Rattle.uc_values.specs.declared.ty.Ty.{Ty}
use Rattle.uc_values.specs.declared.ty.Ty.TheVariants.{Bool}
use Rattle.uc_flat_expressions.specs.Types.{is_boolean}

pub boolean_is : (ty : Ty) → is_boolean ty ≡ true → ty ≡ Bool
boolean_is Bool h = refl
boolean_is other h = cc
