-- What names stand for, by the cells and the constants of their module.
use Rattle.std.specs.Prelude.{ℕ, nat_eq, if◌then◌else◌, List, Option, Some, None, unwrap_or}
use Rattle.std.specs.Option.{option_map}
use Rattle.std.specs.List.{position_from}
use Rattle.uc_syntax.specs.declared.type_expression.TypeExpr.{TypeExpr}
use Rattle.uc_syntax.specs.declared.declaration.VariableKind.{VariableKind}
use Rattle.uc_syntax.specs.declared.declaration.Module.{Module}
use Rattle.uc_values.specs.declared.ty.Ty.{Ty}
use Rattle.uc_meaning.specs.Lookup.{System, variable_of}
use Rattle.uc_meaning.specs.Types.{label_of, type_of_written}
use Rattle.uc_flat.specs.declared.flat.Constant.{Constant as FlatConstant}
use Rattle.uc_flat_expressions.specs.declared.typed.Meant.{Meant}
use Rattle.uc_flat_expressions.specs.declared.typed.Meant.TheVariants.{Unknown, Constant}
use Rattle.uc_flat_design.specs.Names.{of_label, of_cell_number}
use Rattle.uc_flat_making.specs.declared.cells.OwnCell.{OwnCell}
use Rattle.uc_flat_making.specs.Cells.{has_cells}

-- a name of this kind and type, by the numbers of its cell and of its constant
abbrev pub of_places : Option ℕ → Option ℕ → Ty → VariableKind → Meant
of_places cell constant ty kind = if has_cells kind then of_cell_number cell ty else Constant (unwrap_or constant 0) ty

-- the number of the first of these constants that has a name
abbrev pub number_of : List FlatConstant → ℕ → ℕ
number_of constants x = unwrap_or (position_from (λ c. nat_eq c.name x) 0 constants) 0

-- the same, by the first of these cells or constants that has the name
abbrev pub of_kind_in : List OwnCell → List FlatConstant → ℕ → Ty → VariableKind → Meant
of_kind_in cells constants x ty kind = of_places (position_from (λ c. nat_eq c.name x) 0 cells) (position_from (λ c. nat_eq c.name x) 0 constants) ty kind

abbrev pub of_variable_in : System → Module → List OwnCell → List FlatConstant → ℕ → Option (VariableKind × TypeExpr) → Meant
of_variable_in system code cells constants x None = Unknown
of_variable_in system code cells constants x (Some d) = of_kind_in cells constants x (type_of_written system code d.1) d.0

abbrev pub by_label_in : System → Module → List OwnCell → List FlatConstant → ℕ → Option (ℕ × ℕ) → Meant
by_label_in system code cells constants x (Some l) = of_label system l
by_label_in system code cells constants x None = of_variable_in system code cells constants x (variable_of code x)

abbrev pub meant_by : System → Module → List OwnCell → List FlatConstant → ℕ → Meant
meant_by system code cells constants x = by_label_in system code cells constants x (label_of system code x)

-- the label of a name among those of the enum of a number
abbrev pub label_among : ℕ → List ℕ → ℕ → Option (ℕ × ℕ)
label_among e names x = option_map (λ k. (e, k)) (position_from (nat_eq x) 0 names)
