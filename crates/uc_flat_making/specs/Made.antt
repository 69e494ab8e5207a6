-- The design over numbered cells of a design, or that it has none.
use Rattle.std.specs.Prelude.{nat_eq, List, [], ◌∷◌, ◌++◌, map, length, if◌then◌else◌, Option, Some, None, Result, Ok, Err}
use Rattle.std.specs.Option.{option_map, option_and_then}
use Rattle.std.specs.List.{list_all}
use Rattle.uc_syntax.specs.declared.declaration.Module.{Module}
use Rattle.uc_syntax.specs.declared.declaration.Decl.{Decl}
use Rattle.uc_meaning.specs.Lookup.{System, init_of, next_of}
use Rattle.uc_meaning.specs.Cells.{Cell, cells_of}
use Rattle.uc_flat.specs.declared.flat.Flat.{Flat}
use Rattle.uc_flat.specs.declared.flat.Constant.{Constant}
use Rattle.uc_flat.specs.declared.statement.Statement.{Statement}
use Rattle.uc_flat_order.specs.Arranged.{code_arranged}
use Rattle.uc_flat_expressions.specs.declared.typed.Meant.{Meant}
use Rattle.uc_flat_expressions.specs.declared.typed.FlatError.{FlatError}
use Rattle.uc_flat_expressions.specs.declared.typed.FlatError.TheVariants.{NoMemory, NotBuilt}
use Rattle.uc_flat_code.specs.CellTypes.{Types, is_cell_type, cell_type_of}
use Rattle.uc_flat_code.specs.Init.{init_code}
use Rattle.uc_flat_code.specs.declared.made.MadeCode.{MadeCode}
use Rattle.uc_flat_design.specs.Names.{names_over_cells, types_of, without_cell, constant_types, flat_constants}
use Rattle.uc_flat_design.specs.Next.{primed_behind, names_between, step_code}
use Rattle.uc_flat_making.specs.declared.cells.OwnCell.{OwnCell}
use Rattle.uc_flat_design.specs.Design.{is_built, flat_cell, invariant_in, axiom_in, formulas_from, IsFlatOf}
use Rattle.uc_flat_making.specs.declared.parts.Conditions.{Conditions}

-- The answer is the design over cells, or there is none; want of memory says nothing.
abbrev pub IsMade : System → Result Flat FlatError → Type 0
IsMade system (Ok f) = (code : Module) × IsFlatOf system code f
IsMade system (Err NotBuilt) = (code : Module) (f : Flat) → IsFlatOf system code f → ⊥
IsMade system (Err NoMemory) = Unit {0}

-- ---- the steps of making it

-- a cell of main as one of the design
abbrev pub full : OwnCell → Cell
full c = record { path = []; name = c.name; kind = c.kind; type = c.ty }

-- the axioms, of names that stand for no cell, and then the invariants, where none is missing
abbrev pub all_conditions : List Meant → List Decl → Option Conditions
all_conditions names decls =
    option_and_then (λ axioms. option_map (λ invariants. record { formulas = axioms ++ invariants; axioms = length axioms }) (formulas_from (invariant_in names) 0 decls))
    (formulas_from (axiom_in (map without_cell names)) 0 decls)

abbrev pub flat_over : List Cell → List Constant → MadeCode → List Statement → Conditions → Flat
flat_over cells constants init next conditions = record {
  cells = map flat_cell cells;
  constants = constants;
  functions = [];
  further = init.further;
  init = init.code;
  step = step_code cells next;
  sites = [];
  formulas = conditions.formulas;
  axioms = conditions.axioms;
}

-- the code of the next block, where this, arranged, writes no part of a cell on a way after it was written there, or read in the new state
abbrev pub next_once : List Meant → List Cell → Module → Option (List Statement)
next_once names cells code = code_arranged (names_between (length cells) names) (primed_behind (length cells)) (next_of code)

-- the design over cells by how the types of locals are read and what the names stand for
abbrev pub made_over : Types → List Meant → List Cell → List Constant → Module → Option Flat
made_over types names cells constants code =
    option_and_then (λ init. option_and_then (λ next. option_map (flat_over cells constants init next) (all_conditions names code.decls)) (next_once names cells code)) (init_code types names (length cells) (init_of code))

-- the same, where the types of all constants are built
abbrev pub made_with : System → Module → Option Flat
made_with system code = if list_all is_cell_type (constant_types system) then made_over (cell_type_of system code) (names_over_cells system code) (cells_of system) (flat_constants system) code else None

-- the same, where the types of all cells are built
abbrev pub made_typed : System → Module → Option Flat
made_typed system code = if list_all is_cell_type (types_of system) then made_with system code else None

-- the same, where all declarations are built
abbrev pub made : System → Module → Option Flat
made system code = if list_all is_built code.decls then made_typed system code else None

abbrev pub made_only : System → List Module → Option Flat
made_only system (code ∷ []) = made system code
made_only system modules = None

-- the design over cells of a design of one module
abbrev pub made_whole : System → Option Flat
made_whole system = if nat_eq system.main 0 then made_only system system.modules else None
