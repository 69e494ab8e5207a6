-- What a name says that stands for a value.
use Rattle.std.proofs.Common.{◌≡◌, refl, sym}
use Rattle.uc_values.specs.declared.ty.Ty.{Ty}
use Rattle.uc_values.specs.declared.value.Value.{Value}
use Rattle.uc_meaning.specs.Expressions.{Reading, OfValue, means, reads}
use Rattle.uc_readings.specs.Sources.{IsKnown}

pub known_value : (r : Reading) (t : Ty) (v : Value) → r ≡ reads t v → IsKnown r (means t (OfValue v))
known_value r t v is = record { reading = λ others. sym is; met = λ others. refl }
