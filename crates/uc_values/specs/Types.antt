-- Which types there are: their widths, labels, and what arrays hold.
use Rattle.std.specs.Prelude.{Bool, true, false, ◌&&◌, nat_lt, nat_le, List, map}
use Rattle.std.specs.List.{list_all}
use Rattle.uc_values.specs.declared.ty.Field.{Field}
use Rattle.uc_values.specs.declared.ty.Ty.{Ty}
use Rattle.uc_values.specs.declared.ty.Ty.TheFolds.{fold-Ty}
use Rattle.uc_values.specs.declared.ty.Ty.TheOpen.{Ty-F}
use Rattle.uc_values.specs.declared.ty.Ty.TheOpen.Ty-F.{Bool as boolean_type, Int as integer_type, Bv as bits_type, Enum as enum_type, Un as open_type, Rec as record_type, Arr as array_type}

-- What is asked of a type: whether it is well formed, whether it is a scalar, and whether it is a scalar or a record of scalars.
pub record Shape : Type 0 where
  pub valid : Bool
  pub scalar : Bool
  pub flat : Bool

abbrev pub scalar_shape : Bool → Shape
scalar_shape valid = record { valid = valid; scalar = true; flat = true }

-- Widths are from 1 to 64, enums have a label, the index of an array is a scalar, and its element a scalar or a record of scalars.
abbrev pub shape_form : Ty-F Shape → Shape
shape_form boolean_type = scalar_shape true
shape_form integer_type = scalar_shape true
shape_form (bits_type width) = scalar_shape (nat_le 1 width && nat_le width 64)
shape_form (enum_type number labels) = scalar_shape (nat_lt 0 labels)
shape_form (open_type number) = scalar_shape true
shape_form (record_type fs) = record { valid = list_all (λ f. f.ty.valid) fs; scalar = false; flat = list_all (λ f. f.ty.scalar) fs }
shape_form (array_type index element) = record { valid = (index.valid && element.valid) && (index.scalar && element.flat); scalar = false; flat = false }

abbrev pub shape : Ty → Shape
shape = fold-Ty Shape shape_form

abbrev pub is_valid : Ty → Bool
is_valid ty = (shape ty).valid

-- a boolean, an integer, a bit-vector, an enum or an uninterpreted type
abbrev pub is_scalar : Ty → Bool
is_scalar ty = (shape ty).scalar

-- a scalar, or a record of scalars
abbrev pub is_flat : Ty → Bool
is_flat ty = (shape ty).flat

abbrev pub field_types : List (Field Ty) → List Ty
field_types fs = map (λ f. f.ty) fs
