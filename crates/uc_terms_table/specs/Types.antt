-- The types of the tables.
use Rattle.std.specs.Prelude.{List, [], ◌∷◌}
use Rattle.uc_values.specs.declared.ty.Field.{Field}
use Rattle.uc_values.specs.declared.ty.Ty.{Ty}
use Rattle.uc_values.specs.declared.ty.Ty.TheVariants.{Bool, Int, Rec, Arr}

-- arrays of integers by integers
abbrev pub array_of_integers : Ty
array_of_integers = Arr Int Int

-- records of a truth value and an integer
abbrev pub two_fields : List (Field Ty)
two_fields = record { name = 0; ty = Bool } ∷ record { name = 1; ty = Int } ∷ []

abbrev pub record_of_two : Ty
record_of_two = Rec two_fields
