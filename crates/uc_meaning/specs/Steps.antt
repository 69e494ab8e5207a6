-- Initial states, and steps: a next block as a constraint on an old and a new state.
use Rattle.std.specs.Prelude.{◌≡◌, ℕ, zero, suc, ◌+◌, Bool, true, false, ◌&&◌, ◌||◌, nat_eq, IsTrue, List, [], ◌∷◌, ◌++◌, map, length, take, drop, Option, Some, None}
use Rattle.std.specs.Option.{option_and_then}
use Rattle.std.specs.List.{list_any, flat_map}
use Rattle.uc_lexer.specs.declared.place.Place.{Place}
use Rattle.uc_syntax.specs.declared.statement.Target.{Target}
use Rattle.uc_syntax.specs.declared.statement.TargetPart.{TargetPart}
use Rattle.uc_syntax.specs.declared.statement.TargetPart.TheVariants.{Field, Element}
use Rattle.uc_syntax.specs.declared.statement.Stmt.{Stmt}
use Rattle.uc_syntax.specs.declared.statement.Stmt.TheOpen.{Stmt-F}
use Rattle.uc_syntax.specs.declared.statement.Stmt.TheOpen.Stmt-F.{Local as Declare, Skip, Block, Assert, Assume, Havoc, Assign, If, Case, For, Call, Next}
use Rattle.uc_syntax.specs.declared.statement.Stmt.TheFolds.{fold-Stmt}
use Rattle.uc_syntax.specs.declared.declaration.Procedure.{Procedure}
use Rattle.uc_syntax.specs.declared.declaration.VariableKind.{VariableKind}
use Rattle.uc_syntax.specs.declared.declaration.VariableKind.TheVariants.{Input}
use Rattle.uc_syntax.specs.declared.declaration.Module.{Module}
use Rattle.uc_values.specs.declared.ty.Ty.{Ty}
use Rattle.uc_values.specs.declared.value.Value.{Value}
use Rattle.uc_values.specs.Sameness.{same}
use Rattle.uc_meaning.specs.declared.scope.Scope.{Scope}
use Rattle.uc_meaning.specs.declared.scope.State.{State}
use Rattle.uc_meaning.specs.declared.scope.Site.{Site}
use Rattle.uc_meaning.specs.declared.scope.Interp.{Interp}
use Rattle.uc_meaning.specs.Lookup.{System, init_of, next_of, module_at, main_module, procedure_of}
use Rattle.uc_meaning.specs.Cells.{longest_chain, as_list, InstanceAt, instances_below, main_instance, Cell, cells_of, FitAll}
use Rattle.uc_meaning.specs.Expressions.{Reading, reads, value, is_true, name, reading, at_path, fields_of, field_type, field_reading}
use Rattle.uc_meaning.specs.Code.{Running, Ending, Goes, Stopped, Execution, then_run, run_each, in_scope, run, call, list_site, replaced, written_cell, taken, turns, turn_type, modifies_of}

-- A part of a cell: the cell's number, and the names of the fields down to the part.
pub record CellPart : Type 0 where
  pub cell : ℕ
  pub fields : List ℕ

-- What a constraint has seen: its scope, with the old and the new state, the parts that are written, the sites that are listed, and the choices that are left.
pub record Watched : Type 0 where
  pub scope : Scope
  pub written : List CellPart
  pub sites : List Site
  pub left : List Value

pub data Check : Type 0 where
  Kept : Watched → Check
  Broken : Check

abbrev pub Constraint : Type 0
Constraint = Watched → Check

-- what follows is asked only where the constraint before it is kept
abbrev pub then_check : Check → Constraint → Check
then_check (Kept w) next = next w
then_check Broken next = Broken

unfoldable pub check_each : List Constraint → Constraint
check_each [] w = Kept w
check_each (c ∷ cs) w = then_check (c w) (check_each cs)

abbrev pub kept_if : Bool → Watched → Check
kept_if true w = Kept w
kept_if false w = Broken

-- the fields of a target before its first index, and what follows from there on
unfoldable pub fields_before : List TargetPart → List ℕ
fields_before [] = []
fields_before (Field place f ∷ parts) = f.name ∷ fields_before parts
fields_before (Element place e ∷ parts) = []

unfoldable pub from_index : List TargetPart → List TargetPart
from_index [] = []
from_index (Field place f ∷ parts) = from_index parts
from_index (Element place e ∷ parts) = Element place e ∷ parts

-- the part that fields lead to
unfoldable pub part_reading : Reading → List ℕ → Reading
part_reading r [] = r
part_reading r (f ∷ fs) = part_reading (field_reading r f) fs

abbrev pub old_part : System → Scope → Target → Reading
old_part system s t = part_reading (name system (reading system) s t.name false) (fields_before t.parts)

abbrev pub new_part : System → Scope → Target → Reading
new_part system s t = part_reading (name system (reading system) s t.name true) (fields_before t.parts)

abbrev pub part_of_cell : List ℕ → Option ℕ → List CellPart
part_of_cell fields None = []
part_of_cell fields (Some k) = record { cell = k; fields = fields } ∷ []

-- the parts that targets and names write: up to the first index
abbrev pub target_parts : System → Scope → Target → List CellPart
target_parts system s t = part_of_cell (fields_before t.parts) (written_cell system s.path t.name)

abbrev pub name_parts : System → Scope → ℕ → List CellPart
name_parts system s x = part_of_cell [] (written_cell system s.path x)

abbrev pub writes : List CellPart → Watched → Watched
writes parts w = record w { written = w.written ++ parts }

-- the new part is the value, put into the old part behind the first index where there is one
abbrev pub is_assigned : System → Scope → Target → Value → Bool
is_assigned system s t v =
    same (new_part system s t).type (new_part system s t).value (replaced system s (old_part system s t) (from_index t.parts) v)

-- each target's new part is the value of its source, and counts as written
unfoldable pub check_targets : System → List Target → List Value → Constraint
check_targets system (t ∷ ts) (v ∷ vs) w =
    then_check (kept_if (is_assigned system w.scope t v) (writes (target_parts system w.scope t) w)) (check_targets system ts vs)
check_targets system ts vs w = Kept w

-- in the new state a part is what the call leaves
abbrev pub is_left : System → Scope → Scope → ℕ → List ℕ → Bool
is_left system s after_call x fields =
    let new = part_reading (name system (reading system) s x true) fields in
    same new.type new.value (part_reading (name system (reading system) after_call x false) fields).value

-- each target, up to its first index, and each name that the procedure may modify is what the call leaves
unfoldable pub all_left : System → Scope → Scope → List Target → List ℕ → Bool
all_left system s after_call (t ∷ ts) xs = is_left system s after_call t.name (fields_before t.parts) && all_left system s after_call ts xs
all_left system s after_call [] (x ∷ xs) = is_left system s after_call x [] && all_left system s after_call [] xs
all_left system s after_call [] [] = true

abbrev pub modified : Option Procedure → List ℕ
modified None = []
modified (Some p) = modifies_of p

-- the names that a procedure may modify
abbrev pub modified_by : System → Scope → ℕ → List ℕ
modified_by system s f = modified (option_and_then (λ m. procedure_of m f) (module_at system s.path))

-- a call holds where it ends and the new state has what it leaves
abbrev pub check_call : System → List Target → ℕ → Watched → Ending → Check
check_call system targets f w (Goes r) =
    kept_if (all_left system w.scope r.scope targets (modified_by system w.scope f))
    (record w {
      written = w.written ++ (flat_map (target_parts system w.scope) targets ++ flat_map (name_parts system w.scope) (modified_by system w.scope f));
      sites = r.sites;
      left = r.left;
    })
check_call system targets f w other = Broken

abbrev pub running : Watched → Running
running w = record { scope = w.scope; sites = w.sites; left = w.left }

-- an assertion breaks no constraint: where it is false its site is listed
abbrev pub watched_site : Bool → Place → Watched → Watched
watched_site true place w = w
watched_site false place w = record w { sites = list_site w.sites (record { path = w.scope.path; place = place; requires_ = 0 }) }

abbrev pub with_local : ℕ → Ty → Value → Watched → Watched
with_local x t v w = record w { scope = record w.scope { locals = record { name = x; ty = t; value = v } ∷ w.scope.locals } }

abbrev pub back_in : Scope → Watched → Check
back_in s w = Kept (record w { scope = s })

-- the block once for each value of the variable, which is a local of its turn alone
unfoldable pub check_turns : ℕ → Ty → List Constraint → List Value → Constraint
check_turns x t block [] w = Kept w
check_turns x t block (v ∷ vs) w =
    then_check (check_each block (with_local x t v w)) (λ w'. check_turns x t block vs (record w' { scope = w.scope }))

-- How the blocks of stepped instances are checked.
abbrev pub Blocks : Type 0
Blocks = List Stmt → Constraint

abbrev pub check_instance : Blocks → List ℕ → Option Module → Constraint
check_instance blocks path None w = Broken
check_instance blocks path (Some m) w =
    then_check (blocks (next_of m) (record w { scope = at_path w.scope path })) (back_in w.scope)

-- a statement of a next block, by what the statements inside it ask
abbrev pub check_form : System → Blocks → Stmt-F Constraint → Constraint
check_form system blocks (Declare place names type) w = Kept w
check_form system blocks (Skip place) w = Kept w
check_form system blocks (Block place block) w = check_each block w
check_form system blocks (Assert place label e) w = Kept (watched_site (is_true system w.scope e) place w)
check_form system blocks (Assume place e) w = kept_if (is_true system w.scope e) w
check_form system blocks (Havoc place x primed) w = Kept (writes (name_parts system w.scope x.name) w)
check_form system blocks (Assign place targets sources) w = check_targets system targets (map (value system w.scope) sources) w
check_form system blocks (If place arms otherwise) w = check_each (taken system w.scope arms otherwise) w
check_form system blocks (Case place arms otherwise) w = check_each (taken system w.scope arms otherwise) w
check_form system blocks (For place x type from to block) w = check_turns x.name (turn_type from) block (turns from to) w
check_form system blocks (Call place targets f arguments) w =
    check_call system targets f.name w (call system (run system) place targets f.name arguments (running w))
check_form system blocks (Next place i) w =
    check_instance blocks (w.scope.path ++ i.name ∷ []) (module_at system (w.scope.path ++ i.name ∷ [])) w

unfoldable pub check_statement : System → Blocks → Stmt → Constraint
check_statement system blocks = fold-Stmt Constraint (check_form system blocks)

unfoldable pub check_by : System → Blocks → List Stmt → Constraint
check_by system blocks code = check_each (map (check_statement system blocks) code)

-- the same, with at most n instances inside each other
unfoldable pub check_through : ℕ → System → List Stmt → Constraint
check_through zero system code w = Broken
check_through (suc n) system code w = check_by system (check_through n system) code w

-- what a next block asks, where no accepted design has a longer chain of instances
abbrev pub check : System → List Stmt → Constraint
check system = check_by system (check_through longest_chain system)

-- the next block of main; none is the empty block
abbrev pub main_next : System → List Stmt
main_next system = flat_map next_of (as_list (main_module system))

abbrev pub scope_of : Interp → List ℕ → State → Scope
scope_of i path s =
    record { path = path; before = s; after = None; at_entry = None; copies = []; locals = []; interp = i }

abbrev pub step_scope : Interp → State → State → Scope
step_scope i old new = record (scope_of i [] old) { after = Some new }

abbrev pub watched_first : Interp → State → State → List Value → Watched
watched_first i old new choices = record { scope = step_scope i old new; written = []; sites = []; left = choices }

unfoldable pub is_prefix : List ℕ → List ℕ → Bool
is_prefix [] q = true
is_prefix (i ∷ p) [] = false
is_prefix (i ∷ p) (j ∷ q) = nat_eq i j && is_prefix p q

-- a part lies in a written part, or contains one
unfoldable pub is_written : List CellPart → ℕ → List ℕ → Bool
is_written written cell fields =
    list_any (λ w. nat_eq w.cell cell && (is_prefix w.fields fields || is_prefix fields w.fields)) written

abbrev pub is_input : VariableKind → Bool
is_input Input = true
is_input other = false

-- fields lead to a part of a type
unfoldable pub has_part : Ty → List ℕ → Bool
has_part t [] = true
has_part t (f ∷ fs) = list_any (λ d. nat_eq d.name f) (fields_of t) && has_part (field_type t f) fs

-- two values of a part are the same
abbrev pub same_part : Ty → Value → Value → List ℕ → Bool
same_part t v w fields =
    let old = part_reading (reads t v) fields in
    same old.type old.value (part_reading (reads t w) fields).value

-- A part of a cell that is no input of main keeps its value, unless it is written.
pub record Keeps (cell : Cell) (k : ℕ) (written : List CellPart) (v w : Value) : Type 0 where
  pub kept : (fields : List ℕ) → IsTrue (has_part cell.type fields) → is_input cell.kind ≡ false → is_written written k fields ≡ false → IsTrue (same_part cell.type v w fields)

-- the cells from number k on, with their values in the old and in the new state
unfoldable pub AllKeep : List CellPart → ℕ → List Cell → List Value → List Value → Type 0
AllKeep written k (c ∷ cs) (v ∷ vs) (w ∷ ws) = Keeps c k written v w × AllKeep written (k + 1) cs vs ws
AllKeep written k cs vs ws = Unit {0}

-- From old to new is a step with these choices, all of which it uses, and it lists these sites.
pub record IsStep (system : System) (i : Interp) (old new : State) (choices : List Value) (sites : List Site) : Type 0 where
  pub seen : Watched
  pub holds : check system (main_next system) (watched_first i old new choices) ≡ Kept seen
  pub uses_all : seen.left ≡ []
  pub lists : seen.sites ≡ sites
  pub keeps : AllKeep seen.written 0 (cells_of system) old.cells new.cells

-- all init code from an instance down: that of the instances inside it first, in order, then its own
unfoldable pub init_from : ℕ → System → InstanceAt → Execution
init_from zero system here r = Stopped
init_from (suc n) system here r =
    then_run (run_each (map (init_from n system) (instances_below system here)) r)
    (λ r'. run system (init_of here.code) (in_scope r' (at_path r'.scope here.path)))

unfoldable pub init : System → Execution
init system = run_each (map (λ m. init_from longest_chain system (main_instance m)) (as_list (main_module system)))

abbrev pub state_of : List Value → State
state_of cells = record { cells = cells }

-- The choices begin with a value for each cell, which is the state before all init code; the code ends in s, uses the other choices and lists these sites.
pub record IsInitial (system : System) (i : Interp) (s : State) (choices : List Value) (sites : List Site) : Type 0 where
  pub begins : FitAll (map (λ c. c.type) (cells_of system)) (take (length (cells_of system)) choices)
  pub end : Running
  pub ends : init system (record {
    scope = scope_of i [] (state_of (take (length (cells_of system)) choices));
    sites = [];
    left = drop (length (cells_of system)) choices;
  }) ≡ Goes end
  pub reaches : end.scope.before ≡ s
  pub uses_all : end.left ≡ []
  pub lists : end.sites ≡ sites
