-- A choice that is taken with its type.
use Rattle.std.specs.Prelude.{◌≡◌, ℕ, List, slice_get, Option, Some, None}
use Rattle.uc_values.specs.declared.ty.Ty.{Ty}
use Rattle.uc_values.specs.declared.value.Value.{Value}
use Rattle.uc_runs.specs.Parts.{fitting}
use Rattle.uc_runs.specs.declared.choosing.Chosen.{Chosen}

-- the choice at a place, where it is there and fits the type
abbrev pub IsChosen : List Value → ℕ → Ty → Option Chosen → Type 0
IsChosen choices k t None = None ≡ fitting t (slice_get choices k)
IsChosen choices k t (Some c) = (c.ty ≡ t) × (Some c.value ≡ fitting t (slice_get choices k))
