-- The records of the rows.
use Rattle.std.specs.Prelude.{List, [], ◌∷◌}
use Rattle.uc_values.specs.declared.ty.Field.{Field}
use Rattle.uc_values.specs.declared.ty.Ty.{Ty}
use Rattle.uc_values.specs.declared.ty.Ty.TheVariants.{Bv, Enum, Rec}

-- a label of five, and two bits
abbrev pub the_fields : List (Field Ty)
the_fields = record { name = 0; ty = Enum 0 5 } ∷ record { name = 1; ty = Bv 2 } ∷ []

abbrev pub record_type : Ty
record_type = Rec the_fields
