-- Init code and its code over cells.
use Rattle.std.specs.Prelude.{◌≡◌, Option, Some, None, List, [], length, take}
use Rattle.uc_syntax.specs.declared.declaration.Module.{Module}
use Rattle.uc_syntax.specs.declared.statement.Stmt.{Stmt}
use Rattle.uc_values.specs.declared.ty.Ty.{Ty}
use Rattle.uc_values.specs.declared.value.Value.{Value}
use Rattle.uc_meaning.specs.declared.scope.Interp.{Interp}
use Rattle.uc_meaning.specs.declared.scope.Scope.{Scope}
use Rattle.uc_meaning.specs.Lookup.{System}
use Rattle.uc_meaning.specs.Cells.{cells_of}
use Rattle.uc_meaning.specs.Code.{Running, Ending, Goes, Bodies, run_by}
use Rattle.uc_meaning.specs.Steps.{scope_of, state_of}
use Rattle.uc_ops.specs.declared.model.Model.{Model}
use Rattle.uc_ops.specs.Typing.{AllValid}
use Rattle.uc_flat.specs.Flats.{wider_types}
use Rattle.uc_flat.specs.Unrolled.{widened}
use Rattle.uc_flat.specs.Executions.{FitAll}
use Rattle.uc_flat.specs.Running.{Placed, run_all}
use Rattle.uc_flat_design.specs.Names.{StandsAlone, names_over_cells, types_of, constant_types}
use Rattle.uc_flat_design.specs.Constants.{SharesConstants}
use Rattle.uc_flat_code.specs.declared.made.MadeCode.{MadeCode}
use Rattle.uc_flat_code.specs.CellTypes.{cell_type_of}
use Rattle.uc_flat_code.specs.Init.{init_code}

-- in main, with one state
abbrev pub now : Interp → List Value → Scope
now i cells = scope_of i [] (state_of cells)

-- an execution in main that has listed no site, with these cells and these choices left
abbrev pub running : Interp → List Value → List Value → Running
running i cells left = record { scope = now i cells; sites = []; left = left }

-- the same over cells, with these values for havocs that are no choices
abbrev pub placed : List Value → List Value → List Value → Placed
placed others cells left = record { cells = cells; left = left; others = others; sites = [] }

-- The cells of the state are the first cells, and fit their types. Both have the same choices left, and have listed no site; no other value was taken.
pub record AreAt (types : List Ty) (others : List Value) (r : Running) (p : Placed) : Type 0 where
  pub state : r.scope.before ≡ state_of (take (length types) p.cells)
  pub fit : FitAll types (take (length types) p.cells)
  pub left : r.left ≡ p.left
  pub no_sites : r.sites ≡ []
  pub none : p.sites ≡ []
  pub untaken : p.others ≡ others

-- both go on from the same cells, or neither goes on
abbrev pub EndAlike : List Ty → List Value → Ending → Option Placed → Type 0
EndAlike types others (Goes r) (Some p) = AreAt types others r p
EndAlike types others (Goes r) None = ⊥
EndAlike types others other (Some p) = ⊥
EndAlike types others other None = Unit {0}

-- In a design of one module, init code and the code over cells that stands for it end alike from the same cells, on the same choices, where the constants have the same values: the further cells stand behind those of the state, and begin with what is listed for them.
abbrev pub InitCodeLaw : Type 0
InitCodeLaw =
    (system : System) (main : Module) (i : Interp) (m : Model) (bodies : Bodies) (code : List Stmt) (made : MadeCode) (others cells left : List Value)
    → StandsAlone system main → SharesConstants system i m → AllValid (constant_types system) → AllValid (types_of system)
    → init_code (cell_type_of system main) (names_over_cells system main) (length (cells_of system)) code ≡ Some made → FitAll (types_of system) cells
    → EndAlike (types_of system) others (run_by system bodies code (running i cells left))
    (run_all m (wider_types (types_of system) made.further) made.code (placed others (widened m (types_of system) made.further cells) left))
