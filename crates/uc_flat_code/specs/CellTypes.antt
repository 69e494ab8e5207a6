-- The types that cells may have.
use Rattle.std.specs.Prelude.{Bool as Truth, true, false, ◌&&◌, if◌then◌else◌, Option, Some, None}
use Rattle.std.specs.List.{list_all}
use Rattle.uc_syntax.specs.declared.type_expression.TypeExpr.{TypeExpr}
use Rattle.uc_syntax.specs.declared.declaration.Module.{Module}
use Rattle.uc_values.specs.declared.ty.Ty.{Ty}
use Rattle.uc_values.specs.declared.ty.Ty.TheFolds.{fold-Ty}
use Rattle.uc_values.specs.declared.ty.Ty.TheOpen.{Ty-F}
use Rattle.uc_values.specs.declared.ty.Ty.TheOpen.Ty-F.{Int as integer_type, Un as open_type, Rec as record_type, Arr as array_type}
use Rattle.uc_values.specs.Types.{is_valid}
use Rattle.uc_meaning.specs.Lookup.{System}
use Rattle.uc_meaning.specs.Types.{type_of_written}

abbrev pub is_finite_form : Ty-F Truth → Truth
is_finite_form (record_type fields) = list_all (λ f. f.ty) fields
is_finite_form integer_type = false
is_finite_form (open_type number) = false
is_finite_form (array_type index element) = false
is_finite_form other = true

-- booleans, bit-vectors, enums, and records of these
abbrev pub is_finite : Ty → Truth
is_finite = fold-Ty Truth is_finite_form

-- the types that cells and constants may have
abbrev pub is_cell_type : Ty → Truth
is_cell_type ty = is_valid ty && is_finite ty

-- How written types are read: None where cells may not have the type.
abbrev pub Types : Type 0
Types = TypeExpr → Option Ty

-- the type that a written type of a module stands for, where cells may have it
abbrev pub cell_type_of : System → Module → Types
cell_type_of system code type = let ty = type_of_written system code type in if is_cell_type ty then Some ty else None
