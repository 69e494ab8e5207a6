-- A choice that is there and fits.
use Rattle.std.specs.Prelude.{Option, Some, None, if◌then◌else◌}
use Rattle.uc_values.specs.declared.ty.Ty.{Ty}
use Rattle.uc_values.specs.declared.value.Value.{Value}
use Rattle.uc_values.specs.Values.{fits}

abbrev pub fitting : Ty → Option Value → Option Value
fitting t None = None
fitting t (Some v) = if fits t v then Some v else None
