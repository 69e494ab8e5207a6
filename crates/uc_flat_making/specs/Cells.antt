-- The cells and the constants that a module alone declares.
use Rattle.std.specs.Prelude.{Bool as Truth, true, false, if◌then◌else◌, List, [], ◌∷◌}
use Rattle.std.specs.List.{flat_map}
use Rattle.uc_syntax.specs.declared.place.Identifier.{Identifier}
use Rattle.uc_syntax.specs.declared.declaration.VariableKind.{VariableKind}
use Rattle.uc_syntax.specs.declared.declaration.VariableKind.TheVariants.{Constant}
use Rattle.uc_syntax.specs.declared.declaration.Decl.{Decl}
use Rattle.uc_syntax.specs.declared.declaration.Decl.TheVariants.{Variables}
use Rattle.uc_syntax.specs.declared.declaration.Module.{Module}
use Rattle.uc_values.specs.declared.ty.Ty.{Ty}
use Rattle.uc_meaning.specs.Lookup.{System}
use Rattle.uc_meaning.specs.Types.{type_of_written}
use Rattle.uc_flat.specs.declared.flat.Constant.{Constant as FlatConstant}
use Rattle.uc_flat_making.specs.declared.cells.OwnCell.{OwnCell}

-- a constant has no cell
abbrev pub has_cells : VariableKind → Truth
has_cells Constant = false
has_cells other = true

abbrev pub cell_of_name : VariableKind → Ty → Identifier → List OwnCell
cell_of_name kind ty i = record { name = i.name; kind = kind; ty = ty } ∷ []

abbrev pub declared_cells : System → Module → Decl → List OwnCell
declared_cells system code (Variables place kind names type) = if has_cells kind then flat_map (cell_of_name kind (type_of_written system code type)) names else []
declared_cells system code other = []

-- in order
abbrev pub own_cells : System → Module → List OwnCell
own_cells system code = flat_map (declared_cells system code) code.decls

abbrev pub constant_of_name : Ty → Identifier → List FlatConstant
constant_of_name ty i = record { name = i.name; ty = ty } ∷ []

abbrev pub declared_constants : System → Module → Decl → List FlatConstant
declared_constants system code (Variables place kind names type) = if has_cells kind then [] else flat_map (constant_of_name (type_of_written system code type)) names
declared_constants system code other = []

-- in order
abbrev pub own_constants : System → Module → List FlatConstant
own_constants system code = flat_map (declared_constants system code) code.decls
