-- The text of a value, as bytes.
use Rattle.std.specs.Prelude.{ℕ, ◌≡◌, Bool, true, false, List, [], ◌∷◌, ◌++◌, map, codes, decimal, slice_get, Option, if◌then◌else◌, nat_eq}
use Rattle.std.specs.Option.{option_map, option_map_or, option_and_then}
use Rattle.std.specs.List.{join_by, flat_map}
use Rattle.std.specs.Fmt.{signed_decimal}
use Rattle.uc_syntax.specs.WrittenTypes.{labels_of}
use Rattle.uc_values.specs.declared.ty.Field.{Field}
use Rattle.uc_values.specs.declared.ty.Ty.{Ty}
use Rattle.uc_values.specs.declared.ty.Ty.TheVariants.{Arr as Array}
use Rattle.uc_values.specs.declared.ty.Ty.TheFolds.{fold-Ty}
use Rattle.uc_values.specs.declared.ty.Ty.TheOpen.{Ty-F}
use Rattle.uc_values.specs.declared.ty.Ty.TheOpen.Ty-F.{Bool as boolean_type, Int as integer_type, Bv as bits_type, Enum as enum_type, Un as open_type, Rec as record_type, Arr as array_type}
use Rattle.uc_values.specs.declared.value.Value.{Value}
use Rattle.uc_values.specs.declared.value.Value.TheViews.{out-Value}
use Rattle.uc_values.specs.declared.value.Value.TheOpen.Value-F.{Arr as array}
use Rattle.uc_values.specs.Values.{Form, Exception, truth_of, number_of, bits_of, label_of, member_of, parts_of}
use Rattle.uc_meaning.specs.Lookup.{System}
use Rattle.uc_meaning.specs.Types.{opaque_types_of}
use Rattle.uc_report.specs.Described.{name_of}

-- what is written for each value, which stands for the type that they have
abbrev pub Printer : Type 0
Printer = Value → List ℕ

abbrev pub truth_text : Bool → List ℕ
truth_text true = codes "true"
truth_text false = codes "false"

-- a bit-vector by its number and its width
abbrev pub bits_text : ℕ → ℕ → List ℕ
bits_text bits width = decimal bits ++ codes "bv" ++ decimal width

-- the name of the label at a place of the enum of a number
unfoldable pub label_at : System → ℕ → ℕ → Option ℕ
label_at d number place = option_and_then (λ labels. slice_get labels place) (slice_get (labels_of d.modules) number)

-- the name of the type without a definition of a number
unfoldable pub opaque_at : System → ℕ → Option ℕ
opaque_at d number = option_map (λ t. t.1) (slice_get (opaque_types_of d) number)

-- a name that may be missing
abbrev pub text_of : System → Option ℕ → List ℕ
text_of d name = option_map_or (name_of d) name []

-- a value of a type without a definition: the name of the type, and which of its values it is
abbrev pub member_text : System → ℕ → ℕ → List ℕ
member_text d number member = text_of d (opaque_at d number) ++ codes "!" ++ decimal member

-- a field by its name, with what is written for its part
abbrev pub field_text : System → ℕ → List ℕ → List ℕ
field_text d name part = name_of d name ++ codes " = " ++ part

-- the fields of a record, each with its part
abbrev pub field_texts : System → List (Field Printer) → List Value → List (List ℕ)
field_texts d (f ∷ fs) (v ∷ vs) = field_text d f.name (f.ty v) ∷ field_texts d fs vs
field_texts d fs vs = []

-- fields in braces, with a comma and a space between neighbours
abbrev pub record_text : List (List ℕ) → List ℕ
record_text fields = codes "{" ++ join_by (λ text. text) (codes ", ") fields ++ codes "}"

-- the exceptions of an array, none for another value
abbrev pub rows_form : Form → List Exception
rows_form (array default rows) = rows
rows_form other = []

abbrev pub rows_of : Value → List Exception
rows_of v = rows_form (out-Value v)

-- what an array holds at every other index, and any other value itself
abbrev pub default_form : Value → Form → Value
default_form v (array default rows) = default
default_form v other = v

abbrev pub default_of : Value → Value
default_of v = default_form v (out-Value v)

-- an exception: the index, the element there, and what is between it and the next
abbrev pub row_text : Printer → Printer → Exception → List ℕ
row_text index element row = index row.0 ++ codes " -> " ++ element row.1 ++ codes ", "

-- an array in brackets: its exceptions as they stand, and then its default
abbrev pub array_text : Printer → Printer → List Exception → Value → List ℕ
array_text index element rows default = codes "[" ++ flat_map (row_text index element) rows ++ codes "else " ++ element default ++ codes "]"

-- what is written for a value as one of a type, where the types inside stand for what is written for theirs
abbrev pub value_form : System → Ty-F Printer → Value → List ℕ
value_form d boolean_type v = truth_text (truth_of v)
value_form d integer_type v = signed_decimal (number_of v)
value_form d (bits_type width) v = bits_text (bits_of v) width
value_form d (enum_type number count) v = text_of d (label_at d number (label_of v))
value_form d (open_type number) v = member_text d number (member_of v)
value_form d (record_type fields) v = record_text (field_texts d fields (parts_of v))
value_form d (array_type index element) v = array_text index element (rows_of v) (default_of v)

-- the text of a value as one of a type
unfoldable pub value_text : System → Ty → Value → List ℕ
value_text d = fold-Ty Printer (value_form d)

-- the fields with what is written for their types
abbrev pub printers : System → List (Field Ty) → List (Field Printer)
printers d fs = map (λ f. record { name = f.name; ty = value_text d f.ty }) fs

-- what stands before the field at a place
abbrev pub separator : ℕ → List ℕ
separator place = if nat_eq place 0 then [] else codes ", "

-- the type of an array
pub record IsArray (ty : Ty) : Type 0 where
  pub index : Ty
  pub element : Ty
  pub is : ty ≡ Array index element
