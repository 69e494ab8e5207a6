-- What the names of main stand for over numbered cells.
use Rattle.std.specs.Prelude.{◌≡◌, ℕ, zero, suc, ◌+◌, nat_lt, if◌then◌else◌, List, [], ◌∷◌, map, length, Option, Some, None}
use Rattle.uc_syntax.specs.declared.type_expression.TypeExpr.{TypeExpr}
use Rattle.uc_syntax.specs.declared.declaration.VariableKind.{VariableKind}
use Rattle.uc_syntax.specs.declared.declaration.VariableKind.TheVariants.{Constant as constant_kind}
use Rattle.uc_syntax.specs.declared.declaration.Module.{Module}
use Rattle.uc_values.specs.declared.ty.Ty.{Ty}
use Rattle.uc_meaning.specs.Lookup.{System, instances_of, main_module, variable_of}
use Rattle.uc_meaning.specs.Types.{label_of, type_of_written}
use Rattle.uc_meaning.specs.Cells.{ConstantParts, modules_in_use, cell_of, cells_of, constant_number, constants_of}
use Rattle.uc_meaning.specs.Expressions.{label_count}
use Rattle.uc_flat.specs.declared.flat.Constant.{Constant as FlatConstant}
use Rattle.uc_flat_expressions.specs.declared.typed.Meant.{Meant}
use Rattle.uc_flat_expressions.specs.declared.typed.Meant.TheVariants.{Unknown, Cell, Label, Constant}

-- a design of one module in use
pub record StandsAlone (system : System) (code : Module) : Type 0 where
  pub main : main_module system ≡ Some code
  pub used : modules_in_use system ≡ code ∷ []
  pub alone : instances_of code ≡ []

-- a label, by the number of its enum and its place there
abbrev pub of_label : System → ℕ × ℕ → Meant
of_label system l = if nat_lt l.1 (label_count system l.0) then Label l.0 (label_count system l.0) l.1 else Unknown

-- a cell of this type; the new state may not be read
abbrev pub of_cell_number : Option ℕ → Ty → Meant
of_cell_number None ty = Unknown
of_cell_number (Some k) ty = Cell k None ty

-- a constant, by its number in interpretations, or else a cell
abbrev pub of_kind : System → Module → ℕ → TypeExpr → VariableKind → Meant
of_kind system code x type constant_kind = Constant (constant_number system code x) (type_of_written system code type)
of_kind system code x type other = of_cell_number (cell_of system [] x) (type_of_written system code type)

abbrev pub of_variable : System → Module → ℕ → Option (VariableKind × TypeExpr) → Meant
of_variable system code x None = Unknown
of_variable system code x (Some d) = of_kind system code x d.1 d.0

abbrev pub by_label : System → Module → ℕ → Option (ℕ × ℕ) → Meant
by_label system code x (Some l) = of_label system l
by_label system code x None = of_variable system code x (variable_of code x)

-- what a name of main stands for
abbrev pub meant_in : System → Module → ℕ → Meant
meant_in system code x = by_label system code x (label_of system code x)

-- so many numbers, from one on
unfoldable pub counted : ℕ → ℕ → List ℕ
counted from zero = []
counted from (suc n) = from ∷ counted (from + 1) n

-- what each name of the design stands for in main, in order
abbrev pub names_over_cells : System → Module → List Meant
names_over_cells system code = map (meant_in system code) (counted 0 (length system.names))

-- the types of the cells
abbrev pub types_of : System → List Ty
types_of system = map (λ c. c.type) (cells_of system)

-- a name that stands for a cell stands for nothing where there are no cells
abbrev pub without_cell : Meant → Meant
without_cell (Cell k new ty) = Unknown
without_cell other = other

-- what each name stands for in an axiom, which reads no cells
abbrev pub names_of_constants : System → Module → List Meant
names_of_constants system code = map without_cell (names_over_cells system code)

-- the types of the constants, by their numbers
abbrev pub constant_types : System → List Ty
constant_types system = map (λ c. c.type) (constants_of system)

abbrev pub flat_constant : ConstantParts → FlatConstant
flat_constant c = record { name = c.symbol.name; ty = c.type }

-- the constants of the design over cells, by their numbers
abbrev pub flat_constants : System → List FlatConstant
flat_constants system = map flat_constant (constants_of system)
