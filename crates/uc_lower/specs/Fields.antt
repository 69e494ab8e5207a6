-- The innermost fields of types, and what stands for a value: the values of its innermost fields, with bits for labels.
use Rattle.std.specs.Prelude.{Bool as Truth, true, ◌&&◌, List, [], ◌∷◌, ◌++◌, map}
use Rattle.uc_values.specs.Values.{label_of, parts_of}
use Rattle.uc_values.specs.Sizes.{label_bits}
use Rattle.uc_values.specs.Sameness.{same}
use Rattle.uc_values.specs.declared.ty.Field.{Field}
use Rattle.uc_values.specs.declared.ty.Ty.{Ty}
use Rattle.uc_values.specs.declared.ty.Ty.TheVariants.{Bool, Int, Bv, Enum, Un}
use Rattle.uc_values.specs.declared.ty.Ty.TheFolds.{fold-Ty}
use Rattle.uc_values.specs.declared.ty.Ty.TheOpen.{Ty-F}
use Rattle.uc_values.specs.declared.ty.Ty.TheOpen.Ty-F.{Bool as boolean_type, Int as integer_type, Bv as bits_type, Enum as enum_type, Un as open_type, Rec as record_type, Arr as array_type}
use Rattle.uc_values.specs.declared.value.Value.{Value}
use Rattle.uc_values.specs.declared.value.Value.TheVariants.{Bv as Bits}

abbrev pub joined_leaves : List (Field (List Ty)) → List Ty
joined_leaves [] = []
joined_leaves (f ∷ fs) = f.ty ++ joined_leaves fs

-- the types of the innermost fields, where those of the types inside are given: a scalar type is one field, and an array is not lowered here
abbrev pub leaves_form : Ty-F (List Ty) → List Ty
leaves_form boolean_type = Bool ∷ []
leaves_form integer_type = Int ∷ []
leaves_form (bits_type width) = Bv width ∷ []
leaves_form (enum_type number labels) = Enum number labels ∷ []
leaves_form (open_type number) = Un number ∷ []
leaves_form (record_type fs) = joined_leaves fs
leaves_form (array_type index element) = []

-- the types of the innermost fields of a type, in order
abbrev pub leaves : Ty → List Ty
leaves = fold-Ty (List Ty) leaves_form

-- the type of what stands for a field: a label is told by the least number of bits that tells all labels apart
abbrev pub low_type : Ty → Ty
low_type (Enum number labels) = Bv (label_bits labels)
low_type other = other

abbrev pub low_types : Ty → List Ty
low_types ty = map low_type (leaves ty)

abbrev pub joined_codes : List (Field (Value → List Value)) → List Value → List Value
joined_codes (f ∷ fs) (v ∷ vs) = f.ty v ++ joined_codes fs vs
joined_codes fs vs = []

-- what stands for a value, where that of the values inside is given: a label is its place, as bits
abbrev pub coded_form : Ty-F (Value → List Value) → Value → List Value
coded_form (enum_type number labels) v = Bits (label_bits labels) (label_of v) ∷ []
coded_form (record_type fs) v = joined_codes fs (parts_of v)
coded_form (array_type index element) v = []
coded_form other v = v ∷ []

-- what stands for a value of a type: one value for each innermost field, in order
abbrev pub coded : Ty → Value → List Value
coded = fold-Ty (Value → List Value) coded_form

-- the same for types and values one after another
abbrev pub all_leaves : List Ty → List Ty
all_leaves [] = []
all_leaves (ty ∷ tys) = leaves ty ++ all_leaves tys

abbrev pub all_low : List Ty → List Ty
all_low [] = []
all_low (ty ∷ tys) = low_types ty ++ all_low tys

abbrev pub all_coded : List Ty → List Value → List Value
all_coded (ty ∷ tys) (v ∷ vs) = coded ty v ++ all_coded tys vs
all_coded tys vs = []

-- each two values are the same
abbrev pub all_same : List Ty → List Value → List Value → Truth
all_same (ty ∷ tys) (v ∷ vs) (w ∷ ws) = same ty v w && all_same tys vs ws
all_same tys vs ws = true
