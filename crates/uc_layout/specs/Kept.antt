-- The parts of a type that keep their values, where some parts are written.
use Rattle.std.specs.Prelude.{ℕ, Bool, true, false, ◌||◌, nat_eq, IsTrue, ◌≡◌, List, [], ◌∷◌, map, slice_index_or, Option, Some, None, if◌then◌else◌}
use Rattle.std.specs.List.{list_any, filter_map}
use Rattle.std.specs.Borrow.{Bor}
use Rattle.uc_values.specs.declared.ty.Ty.{Ty}
use Rattle.uc_values.specs.declared.ty.Ty.TheVariants.{Bool as boolean_type}
use Rattle.uc_values.specs.declared.ty.Field.{Field}
use Rattle.uc_values.specs.declared.value.Value.{Value}
use Rattle.uc_values.specs.declared.value.Value.TheVariants.{Bool as truth}
use Rattle.uc_syntax.specs.declared.declaration.VariableKind.{VariableKind}
use Rattle.uc_meaning.specs.Cells.{Cell}
use Rattle.uc_meaning.specs.Expressions.{field_number}
use Rattle.uc_meaning.specs.Steps.{CellPart, is_prefix, has_part, same_part}
use Rattle.uc_layout.specs.declared.part.Part.{Part}

abbrev pub cell_part : Part → CellPart
cell_part p = record { cell = p.cell; fields = p.fields }

-- what is behind each reference
abbrev pub lent : List (Bor (List ℕ)) → List (List ℕ)
lent ws = map (λ w. w.now) ws

abbrev pub is_nil : List ℕ → Bool
is_nil [] = true
is_nil (f ∷ fs) = false

-- fields lead into a written part of the type, or to one above it
abbrev pub touches : List (List ℕ) → List ℕ → Bool
touches ws fields = list_any (λ w. is_prefix w fields || is_prefix fields w) ws

-- Each part of a type that touches no written part has the same in two values.
pub record KeepsParts (t : Ty) (v w : Value) (ws : List (List ℕ)) : Type 0 where
  pub kept : (fields : List ℕ) → IsTrue (has_part t fields) → touches ws fields ≡ false → IsTrue (same_part t v w fields)

-- what of written parts is behind a field
abbrev pub behind : ℕ → List ℕ → Option (List ℕ)
behind f [] = None
behind f (g ∷ gs) = if nat_eq f g then Some gs else None

abbrev pub tails : ℕ → List (List ℕ) → List (List ℕ)
tails f ws = filter_map (behind f) ws

-- the type and the value of a field of a record
abbrev pub type_in : List (Field Ty) → ℕ → Ty
type_in fields f = slice_index_or (map (λ d. d.ty) fields) (field_number fields f) boolean_type

abbrev pub part_in : List (Field Ty) → List Value → ℕ → Value
part_in fields parts f = slice_index_or parts (field_number fields f) (truth false)

abbrev pub has_field : List (Field Ty) → ℕ → Bool
has_field fields f = list_any (λ d. nat_eq d.name f) fields

abbrev pub KeepsField : List (Field Ty) → List Value → List Value → List (List ℕ) → ℕ → Type 0
KeepsField fields old new ws f = KeepsParts (type_in fields f) (part_in fields old f) (part_in fields new f) (tails f ws)

-- a cell of which only its kind and its type are of interest
abbrev pub cell_like : VariableKind → Ty → Cell
cell_like kind t = record { path = []; name = 0; kind = kind; type = t }

-- the fields that lead to the written parts of a cell
abbrev pub fields_in : ℕ → CellPart → Option (List ℕ)
fields_in k p = if nat_eq p.cell k then Some p.fields else None

abbrev pub written_in : ℕ → List CellPart → List (List ℕ)
written_in k written = filter_map (fields_in k) written
