-- What instances and cells that are listed stand for in the definitions of the meaning.
use Rattle.std.specs.Prelude.{ℕ, is_some, if◌then◌else◌, List, [], ◌∷◌, ◌++◌, map, Option, Some, None}
use Rattle.std.specs.List.{flat_map}
use Rattle.uc_syntax.specs.declared.type_expression.TypeExpr.{TypeExpr}
use Rattle.uc_syntax.specs.declared.declaration.VariableKind.{VariableKind}
use Rattle.uc_meaning.specs.Lookup.{System, InstanceParts, first_some, some_if, is_named, bound_to}
use Rattle.uc_meaning.specs.Types.{type_of_written}
use Rattle.uc_meaning.specs.Cells.{InstanceAt, Cell as CellMeant, module_of_instance, is_cell, cells_in}
use Rattle.uc_layout.specs.declared.instance.InstanceRef.{InstanceRef}
use Rattle.uc_layout.specs.declared.instances_cell.Cell.{Cell}

abbrev pub instance_meant : InstanceRef → InstanceAt
instance_meant h = record { path = h.path; code = h.code.now; is_bound = λ x. is_some (first_some (λ b. some_if (is_named x b.identifier) b.expression) h.bindings.now) }

-- the instance of a declaration inside another one, where its module is there
abbrev pub declared_in : System → InstanceAt → Option InstanceParts → List InstanceAt
declared_in system here None = []
declared_in system here (Some i) =
    map (λ m. record { path = here.path ++ i.name ∷ []; code = m; is_bound = λ x. is_some (bound_to i x) }) (module_of_instance system i)

abbrev pub cell_meant : Cell → CellMeant
cell_meant c = record { path = c.path; name = c.name; kind = c.kind; type = c.ty }

-- the cell of a name, if it has one
abbrev pub named_cell : System → InstanceAt → VariableKind → TypeExpr → ℕ → List CellMeant
named_cell system here kind type x =
    if is_cell here kind x then record { path = here.path; name = x; kind = kind; type = type_of_written system here.code type } ∷ [] else []

-- the cells of an instance
abbrev pub cells_at : System → InstanceAt → List CellMeant
cells_at system here = flat_map (cells_in system here) here.code.decls
