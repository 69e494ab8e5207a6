-- A next block and its code over the cells of the old and of the new state.
use Rattle.std.specs.Prelude.{◌≡◌, ℕ, ◌+◌, true, false, if◌then◌else◌, List, [], ◌∷◌, ◌++◌, map, length, drop, Option, Some, slice_get, All}
use Rattle.uc_syntax.specs.declared.expression.Expr.{Expr}
use Rattle.uc_syntax.specs.declared.statement.Stmt.{Stmt}
use Rattle.uc_values.specs.declared.ty.Ty.{Ty}
use Rattle.uc_values.specs.declared.value.Value.{Value}
use Rattle.uc_meaning.specs.declared.scope.Interp.{Interp}
use Rattle.uc_meaning.specs.declared.scope.Site.{Site}
use Rattle.uc_meaning.specs.Lookup.{System}
use Rattle.uc_meaning.specs.Cells.{Cell, cell_of}
use Rattle.uc_meaning.specs.Expressions.{reads, reading, name}
use Rattle.uc_meaning.specs.Steps.{Watched, Kept, Blocks, AllKeep, check_by, is_input, state_of, step_scope, watched_first}
use Rattle.uc_ops.specs.declared.model.Model.{Model}
use Rattle.uc_ops.specs.Meaning.{part}
use Rattle.uc_flat.specs.declared.statement.Statement.{Statement}
use Rattle.uc_flat.specs.declared.statement.Statement.TheVariants.{Havoc}
use Rattle.uc_flat.specs.Executions.{FitAll}
use Rattle.uc_flat.specs.Running.{run_all}
use Rattle.uc_flat_expressions.specs.declared.typed.TypedExpression.{TypedExpression}
use Rattle.uc_flat_expressions.specs.declared.typed.Meant.{Meant}
use Rattle.uc_flat_expressions.specs.declared.typed.Meant.TheVariants.{Cell as CellOf}
use Rattle.uc_flat_expressions.specs.Expressions.{flat_of}
use Rattle.uc_flat_code.specs.declared.writing.Writing.{Writing}
use Rattle.uc_flat_code.specs.Code.{code_of}
use Rattle.uc_flat_design.specs.Tables.{Scopes, IsSaid}
use Rattle.uc_values.specs.Same.{has_no_array}
use Rattle.uc_flat_code.specs.declared.once.Part.{Part}
use Rattle.uc_flat_code.specs.Once.{written_by}
use Rattle.uc_flat_order.specs.Arranged.{IsTakenFrom}

-- in main, between an old and a new state
abbrev pub between : Interp → List Value → Scopes
between i new old = step_scope i (state_of old) (state_of new)

-- targets have primes, and write the cells of the new state, which stand behind those of the old one
abbrev pub primed_behind : ℕ → Writing
primed_behind n = record { primed = true; shift = n }

-- What a name stands for between two states: the new value of a cell stands so many numbers behind the old one.
abbrev pub with_new : ℕ → Meant → Meant
with_new n (CellOf k new ty) = CellOf k (Some (k + n)) ty
with_new n other = other

abbrev pub names_between : ℕ → List Meant → List Meant
names_between n names = map (with_new n) names

-- a name of main is that of a cell of this number and type
pub record IsCell (system : System) (types : List Ty) (x k : ℕ) (ty : Ty) : Type 0 where
  pub cell : cell_of system [] x ≡ Some k
  pub typed : slice_get types k ≡ Some ty

-- A table for next blocks: what stands for an expression says it over the cells of both states, in one list, and primed names of cells are those of the new state.
pub record IsNextTable (system : System) (m : Model) (types : List Ty) (names : List Meant) (i : Interp) : Type 0 where
  pub says : (old new : List Value) → FitAll types old → FitAll types new → (e : Expr) (t : TypedExpression) → flat_of names e ≡ Some t
      → IsSaid system m (types ++ types) (between i new old) (old ++ new) e t
  pub cells : (x k : ℕ) (o : Option ℕ) (ty : Ty) → slice_get names x ≡ Some (CellOf k o ty) → IsCell system types x k ty
  pub primes : (x k : ℕ) (o : Option ℕ) (ty : Ty) → slice_get names x ≡ Some (CellOf k o ty) → (old new : List Value) → FitAll types old → FitAll types new
      → name system (reading system) (between i new old) x true ≡ reads ty (part new k)

abbrev pub types_in : List Cell → List Ty
types_in cells = map (λ c. c.type) cells

-- in each step the inputs have any values, which are no choices
unfoldable pub inputs_from : ℕ → List Cell → List Statement
inputs_from n [] = []
inputs_from n (c ∷ cells) = (if is_input c.kind then Havoc n false ∷ [] else []) ++ inputs_from (n + 1) cells

-- the code over cells of a step: the inputs, and then the next block
abbrev pub step_code : List Cell → List Statement → List Statement
step_code cells flat = inputs_from (length cells) cells ++ flat

-- What a next block asks of two states holds, it uses these choices and lists these sites, and what it does not write stays.
pub record IsAsked (system : System) (blocks : Blocks) (i : Interp) (cells : List Cell) (code : List Stmt) (old new choices : List Value) (sites : List Site) : Type 0 where
  pub seen : Watched
  pub holds : check_by system blocks code (watched_first i (state_of old) (state_of new) choices) ≡ Kept seen
  pub uses_all : seen.left ≡ []
  pub lists : seen.sites ≡ sites
  pub keeps : AllKeep seen.written 0 cells old new

-- From the old cells and the same values as new cells, the code ends with these new cells, uses the choices and lists these sites.
pub record IsReached (m : Model) (types : List Ty) (code : List Statement) (old new choices : List Value) (sites : List ℕ) : Type 0 where
  pub others : List Value
  pub last : List Value
  pub ends : run_all m (types ++ types) code (record { cells = old ++ old; left = choices; others = others; sites = [] })
      ≡ Some (record { cells = last; left = []; others = []; sites = sites })
  pub reaches : drop (length types) last ≡ new

-- the types have no arrays, and the code is that of the next block over cells
pub record IsNextCode (system : System) (m : Model) (names : List Meant) (i : Interp) (cells : List Cell) (code : List Stmt) (flat : List Statement) : Type 0 where
  pub table : IsNextTable system m (types_in cells) names i
  pub plain : All (λ ty. has_no_array ty ≡ true) (types_in cells)
  pub is : code_of names (primed_behind (length cells)) code ≡ Some flat

-- Where the next block holds between two states, with no choices and no sites, the code over cells of its statements, or of its slices, in some order leads from the one to the other, if no way through them in this order writes a part of a cell after it was written there, or read in the new state.
pub record IsFound (m : Model) (cells : List Cell) (flat : List Statement) (old new choices : List Value) (sites : List Site) : Type 0 where
  pub no_choices : choices ≡ []
  pub no_sites : sites ≡ []
  pub reached : IsReached m (types_in cells) (step_code cells flat) old new [] []

abbrev pub StepFoundLaw : Type 0
StepFoundLaw =
    (system : System) (blocks : Blocks) (i : Interp) (m : Model) (names : List Meant) (cells : List Cell) (code order : List Stmt) (flat : List Statement) (old new choices : List Value) (sites : List Site) (after : List Part)
    → IsTakenFrom order code → IsNextCode system m names i cells order flat → written_by names (length cells) order [] ≡ Some after → FitAll (types_in cells) old → FitAll (types_in cells) new
    → IsAsked system blocks i cells code old new choices sites → IsFound m cells flat old new choices sites

-- Where that code over cells leads from one state to another, the next block holds between the two, with no choices and no sites.
pub record IsStepThere (system : System) (blocks : Blocks) (i : Interp) (cells : List Cell) (code : List Stmt) (old new choices : List Value) (sites : List ℕ) : Type 0 where
  pub no_choices : choices ≡ []
  pub no_sites : sites ≡ []
  pub asked : IsAsked system blocks i cells code old new [] []

abbrev pub StepIsLaw : Type 0
StepIsLaw =
    (system : System) (blocks : Blocks) (i : Interp) (m : Model) (names : List Meant) (cells : List Cell) (code order : List Stmt) (flat : List Statement) (old new choices : List Value) (sites : List ℕ) (after : List Part)
    → IsTakenFrom order code → IsNextCode system m names i cells order flat → written_by names (length cells) order [] ≡ Some after → FitAll (types_in cells) old → FitAll (types_in cells) new
    → IsReached m (types_in cells) (step_code cells flat) old new choices sites → IsStepThere system blocks i cells code old new choices sites

-- The code over cells leads from fitting cells to fitting cells.
abbrev pub StepFitsLaw : Type 0
StepFitsLaw =
    (system : System) (blocks : Blocks) (i : Interp) (m : Model) (names : List Meant) (cells : List Cell) (code : List Stmt) (flat : List Statement) (old new choices : List Value) (sites : List ℕ)
    → IsNextCode system m names i cells code flat → FitAll (types_in cells) old → IsReached m (types_in cells) (step_code cells flat) old new choices sites → FitAll (types_in cells) new
