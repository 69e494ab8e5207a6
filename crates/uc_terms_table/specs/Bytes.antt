-- The types of the rows.
use Rattle.std.specs.Prelude.{List, [], ◌∷◌}
use Rattle.uc_values.specs.declared.ty.Field.{Field}
use Rattle.uc_values.specs.declared.ty.Ty.{Ty}
use Rattle.uc_values.specs.declared.ty.Ty.TheVariants.{Bv, Rec, Arr}

-- bytes by bytes
abbrev pub array_of_bytes : Ty
array_of_bytes = Arr (Bv 8) (Bv 8)

abbrev pub two_fields : List (Field Ty)
two_fields = record { name = 0; ty = Bv 8 } ∷ record { name = 1; ty = Bv 8 } ∷ []

-- two bytes
abbrev pub pair_of_bytes : Ty
pair_of_bytes = Rec two_fields
