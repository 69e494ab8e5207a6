-- Whether values are as many as are asked for, and of their types.
use Rattle.std.specs.Prelude.{Bool, true, false, not, ◌&&◌, nat_eq, if◌then◌else◌, List, length, Option}
use Rattle.uc_values.specs.declared.ty.Ty.{Ty}
use Rattle.uc_rules.specs.Rows.{all_judged, all_suit}

abbrev pub are_judged : List (Option Ty) → List (Option Ty) → Bool
are_judged ps ts = all_judged ps && all_judged ts

abbrev pub are_misfits : List (Option Ty) → List (Option Ty) → Bool
are_misfits ps ts = if nat_eq (length ps) (length ts) then (if are_judged ps ts then not (all_suit ps ts) else false) else true
