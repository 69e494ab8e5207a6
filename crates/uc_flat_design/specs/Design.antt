-- The design over numbered cells of a design of one module.
use Rattle.std.specs.Prelude.{◌≡◌, ℕ, ◌+◌, Bool as Truth, true, false, if◌then◌else◌, List, [], ◌∷◌, ◌++◌, map, length, Option, Some, None}
use Rattle.std.specs.Option.{option_map, option_and_then}
use Rattle.std.specs.List.{list_all}
use Rattle.uc_syntax.specs.declared.declaration.Decl.{Decl}
use Rattle.uc_syntax.specs.declared.declaration.Decl.TheVariants.{OpaqueType, TypeAlias, TypeImport, Variables, Init, Next, Invariant, Axiom, Control}
use Rattle.uc_syntax.specs.declared.declaration.Module.{Module}
use Rattle.uc_syntax.specs.declared.statement.Stmt.{Stmt}
use Rattle.uc_meaning.specs.Lookup.{System, init_of, next_of}
use Rattle.uc_meaning.specs.Cells.{Cell, cells_of}
use Rattle.uc_flat.specs.declared.flat.Cell.{Cell as FlatCell}
use Rattle.uc_flat.specs.declared.flat.Flat.{Flat}
use Rattle.uc_flat.specs.declared.flat.Formula.{Formula}
use Rattle.uc_flat.specs.declared.statement.Statement.{Statement}
use Rattle.uc_flat_expressions.specs.declared.typed.TypedExpression.{TypedExpression}
use Rattle.uc_flat_expressions.specs.declared.typed.Meant.{Meant}
use Rattle.uc_flat_expressions.specs.Types.{is_boolean}
use Rattle.uc_flat_expressions.specs.Expressions.{flat_of}
use Rattle.uc_flat_design.specs.Names.{names_over_cells, types_of, names_of_constants, constant_types, flat_constants}
use Rattle.uc_flat_code.specs.Code.{code_of}
use Rattle.uc_flat_code.specs.declared.made.MadeCode.{MadeCode}
use Rattle.uc_flat_code.specs.CellTypes.{is_cell_type, cell_type_of}
use Rattle.uc_flat_code.specs.Init.{init_code}
use Rattle.uc_flat_code.specs.declared.once.Part.{Part}
use Rattle.uc_flat_code.specs.Once.{written_by}
use Rattle.uc_flat_order.specs.Arranged.{block_arranged}
use Rattle.uc_flat_design.specs.Next.{primed_behind, names_between, step_code}

-- The declarations that are built: types, variables, inputs, outputs and constants, blocks, invariants, axioms and the control block.
abbrev pub is_built : Decl → Truth
is_built (OpaqueType place i) = true
is_built (TypeAlias place i type) = true
is_built (TypeImport place m) = true
is_built (Variables place kind names type) = true
is_built (Init place block) = true
is_built (Next place block) = true
is_built (Invariant place i formula) = true
is_built (Axiom place i formula) = true
is_built (Control place commands) = true
is_built other = false

-- the formula of a declaration about so many copies of the cells, where it is a truth value
abbrev pub condition_of : ℕ → ℕ → TypedExpression → Option (List Formula)
condition_of copies k t = if is_boolean t.ty then Some (record { path = []; decl = k; copies = copies; condition = t.expression } ∷ []) else None

-- How a declaration is read by its number: its formulas, where none is missing.
abbrev pub Reader : Type 0
Reader = ℕ → Decl → Option (List Formula)

-- an invariant speaks of one copy
abbrev pub invariant_in : List Meant → Reader
invariant_in names k (Invariant place i e) = option_and_then (condition_of 1 k) (flat_of names e)
invariant_in names k other = Some []

-- an axiom speaks of none
abbrev pub axiom_in : List Meant → Reader
axiom_in names k (Axiom place i e) = option_and_then (condition_of 0 k) (flat_of names e)
axiom_in names k other = Some []

-- the formulas of declarations from a number on, where none is missing
unfoldable pub formulas_from : Reader → ℕ → List Decl → Option (List Formula)
formulas_from read k [] = Some []
formulas_from read k (d ∷ decls) = option_and_then (λ xs. option_map (λ ys. xs ++ ys) (formulas_from read (k + 1) decls)) (read k d)

abbrev pub flat_cell : Cell → FlatCell
flat_cell c = record { path = c.path; name = c.name; ty = c.type }

-- the design over cells by its code, its axioms and its other formulas; the further cells are those of its init code
abbrev pub flat_with : System → MadeCode → List Statement → List Formula → List Formula → Flat
flat_with system init next axioms formulas = record {
  cells = map flat_cell (cells_of system);
  constants = flat_constants system;
  functions = [];
  further = init.further;
  init = init.code;
  step = step_code (cells_of system) next;
  sites = [];
  formulas = axioms ++ formulas;
  axioms = length axioms;
}

-- what each name stands for in the next block of main
abbrev pub next_names : System → Module → List Meant
next_names system code = names_between (length (cells_of system)) (names_over_cells system code)

-- the next block of main, in the order in which its statements are run
abbrev pub next_arranged : System → Module → List Stmt
next_arranged system code = block_arranged (next_names system code) (length (cells_of system)) (next_of code)

-- The design has one module, with declarations that are built, cells and constants of such types, code and invariants over cells, axioms over constants, and a next block that, arranged, writes no part of a cell on a way after it was written there, or read in the new state; and this is the design over cells.
pub record IsFlatOf (system : System) (code : Module) (f : Flat) : Type 0 where
  pub only : system.modules ≡ code ∷ []
  pub first : system.main ≡ 0
  pub declarations : list_all is_built code.decls ≡ true
  pub types : list_all is_cell_type (types_of system) ≡ true
  pub constants : list_all is_cell_type (constant_types system) ≡ true
  pub init : MadeCode
  pub next : List Statement
  pub after : List Part
  pub axioms : List Formula
  pub formulas : List Formula
  pub init_is : init_code (cell_type_of system code) (names_over_cells system code) (length (cells_of system)) (init_of code) ≡ Some init
  pub next_is : code_of (next_names system code) (primed_behind (length (cells_of system))) (next_arranged system code) ≡ Some next
  pub once : written_by (next_names system code) (length (cells_of system)) (next_arranged system code) [] ≡ Some after
  pub axioms_are : formulas_from (axiom_in (names_of_constants system code)) 0 code.decls ≡ Some axioms
  pub formulas_are : formulas_from (invariant_in (names_over_cells system code)) 0 code.decls ≡ Some formulas
  pub is : f ≡ flat_with system init next axioms formulas
