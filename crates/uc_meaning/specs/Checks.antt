-- The operations on whole numbers that are met in all init code and where a step is checked.
use Rattle.std.specs.Prelude.{ℕ, zero, suc, List, [], ◌∷◌, ◌++◌, map, Bool, true, false, if◌then◌else◌, Option, Some, None}
use Rattle.std.specs.List.{flat_map}
use Rattle.uc_syntax.specs.declared.statement.Target.{Target}
use Rattle.uc_syntax.specs.declared.statement.Arm.{Arm}
use Rattle.uc_syntax.specs.declared.statement.Stmt.{Stmt}
use Rattle.uc_syntax.specs.declared.statement.Stmt.TheOpen.{Stmt-F}
use Rattle.uc_syntax.specs.declared.statement.Stmt.TheOpen.Stmt-F.{Block, Assert, Assume, Assign, If, Case, For, Call, Next}
use Rattle.uc_syntax.specs.declared.statement.Stmt.TheFolds.{fold-Stmt, map-Stmt}
use Rattle.uc_syntax.specs.declared.declaration.Module.{Module}
use Rattle.uc_values.specs.declared.ty.Ty.{Ty}
use Rattle.uc_values.specs.declared.value.Value.{Value}
use Rattle.uc_meaning.specs.declared.scope.Scope.{Scope}
use Rattle.uc_meaning.specs.declared.scope.State.{State}
use Rattle.uc_meaning.specs.declared.scope.Interp.{Interp}
use Rattle.uc_meaning.specs.declared.overflow.Wide.{Wide}
use Rattle.uc_meaning.specs.Lookup.{System, init_of, next_of, module_at, main_module}
use Rattle.uc_meaning.specs.Cells.{longest_chain, as_list, InstanceAt, instances_below, main_instance}
use Rattle.uc_meaning.specs.Expressions.{value, at_path}
use Rattle.uc_meaning.specs.Overflow.{met, name_met}
use Rattle.uc_meaning.specs.Code.{Running, Execution, Goes, Ending, run, run_each, in_scope, call, taken, turns, turn_type}
use Rattle.uc_meaning.specs.Steps.{Watched, Check, Kept, Broken, Constraint, Blocks, check_form, check_each, check_through, is_assigned, with_local, running, modified_by, fields_before, is_left, main_next, watched_first, init_from}
use Rattle.uc_meaning.specs.OverflowsRuns.{TracedRun, RunMet, met_each, met_after, run_met, all_met_in, target_met, part_met, conditions_met, call_met}

-- where an execution is listed with what it meets
abbrev pub traced_init : ℕ → System → InstanceAt → RunMet → TracedRun
traced_init n system here m = record { run = init_from n system here; met = m }

-- all init code from an instance down, in the order in which it runs
unfoldable pub init_met_from : ℕ → System → InstanceAt → RunMet
init_met_from zero system here r = []
init_met_from (suc n) system here r =
    met_each (map (λ i. traced_init n system i (init_met_from n system i)) (instances_below system here)) r
    ++ met_after (run_each (map (init_from n system) (instances_below system here)) r)
    (λ r'. run_met system (init_of here.code) (in_scope r' (at_path r'.scope here.path)))

unfoldable pub init_met : System → RunMet
init_met system = met_each (map (λ m. traced_init longest_chain system (main_instance m) (init_met_from longest_chain system (main_instance m))) (as_list (main_module system)))

-- The operations met where a constraint is checked.
abbrev pub CheckMet : Type 0
CheckMet = Watched → List Wide

-- A statement of a next block, with what is met where it is checked.
pub record TracedCheck : Type 0 where
  pub check : Constraint
  pub met : CheckMet

abbrev pub checks : List TracedCheck → List Constraint
checks xs = map (λ x. x.check) xs

-- what is met after a constraint: nothing where it does not hold
abbrev pub met_kept : Check → CheckMet → List Wide
met_kept (Kept w) next = next w
met_kept Broken next = []

unfoldable pub checks_met : List TracedCheck → CheckMet
checks_met [] w = []
checks_met (x ∷ xs) w = x.met w ++ met_kept (x.check w) (checks_met xs)

-- the targets of an assignment up to the first that has not its value: the new part, and behind an index the old part and the indices
unfoldable pub assigned_met : System → List Target → List Value → Scope → List Wide
assigned_met system (t ∷ ts) (v ∷ vs) s =
    name_met system (met system) s t.name true ++ (target_met system s t.name t.parts ++ (if is_assigned system s t v then assigned_met system ts vs s else []))
assigned_met system ts vs s = []

-- what a call leaves in targets and in the names that are modified, up to the first part that is not left
unfoldable pub left_met : System → Scope → Scope → List Target → List ℕ → List Wide
left_met system s after_call (t ∷ ts) xs =
    name_met system (met system) s t.name true
    ++ (name_met system (met system) after_call t.name false ++ (if is_left system s after_call t.name (fields_before t.parts) then left_met system s after_call ts xs else []))
left_met system s after_call [] (x ∷ xs) =
    name_met system (met system) s x true
    ++ (name_met system (met system) after_call x false ++ (if is_left system s after_call x [] then left_met system s after_call [] xs else []))
left_met system s after_call [] [] = []

abbrev pub call_left_met : System → List Target → ℕ → Watched → RunMet
call_left_met system targets f w r = left_met system w.scope r.scope targets (modified_by system w.scope f)

unfoldable pub check_turns_met : ℕ → Ty → List TracedCheck → List Value → CheckMet
check_turns_met x t block [] w = []
check_turns_met x t block (v ∷ vs) w =
    checks_met block (with_local x t v w)
    ++ met_kept (check_each (checks block) (with_local x t v w)) (λ w'. check_turns_met x t block vs (record w' { scope = w.scope }))

-- What is met in the blocks of stepped instances.
abbrev pub MetBlocks : Type 0
MetBlocks = List Stmt → CheckMet

abbrev pub instance_met : MetBlocks → List ℕ → Option Module → CheckMet
instance_met others path None w = []
instance_met others path (Some m) w = others (next_of m) (record w { scope = at_path w.scope path })

-- a statement of a next block, by what is met in the statements inside it
abbrev pub check_met_form : System → MetBlocks → Stmt-F TracedCheck → CheckMet
check_met_form system others (Block place block) w = checks_met block w
check_met_form system others (Assert place label e) w = met system w.scope e
check_met_form system others (Assume place e) w = met system w.scope e
check_met_form system others (Assign place targets sources) w =
    all_met_in system w.scope sources ++ assigned_met system targets (map (value system w.scope) sources) w.scope
check_met_form system others (If place arms otherwise) w = conditions_met system w.scope arms ++ checks_met (taken system w.scope arms otherwise) w
check_met_form system others (Case place arms otherwise) w = conditions_met system w.scope arms ++ checks_met (taken system w.scope arms otherwise) w
check_met_form system others (For place x type from to block) w = check_turns_met x.name (turn_type from) block (turns from to) w
check_met_form system others (Call place targets f arguments) w =
    call_met system (run system) (run_met system) place targets f.name arguments (running w)
    ++ met_after (call system (run system) place targets f.name arguments (running w)) (call_left_met system targets f.name w)
check_met_form system others (Next place i) w = instance_met others (w.scope.path ++ i.name ∷ []) (module_at system (w.scope.path ++ i.name ∷ [])) w
check_met_form system others other w = []

abbrev pub traced_check_form : System → Blocks → MetBlocks → Stmt-F TracedCheck → TracedCheck
traced_check_form system blocks others layer = record {
  check = check_form system blocks (map-Stmt TracedCheck Constraint (λ t. t.check) layer);
  met = check_met_form system others layer;
}

unfoldable pub traced_check : System → Blocks → MetBlocks → Stmt → TracedCheck
traced_check system blocks others = fold-Stmt TracedCheck (traced_check_form system blocks others)

unfoldable pub check_met_by : System → Blocks → MetBlocks → List Stmt → CheckMet
check_met_by system blocks others code = checks_met (map (traced_check system blocks others) code)

-- the same, with at most n instances inside each other
unfoldable pub check_met_through : ℕ → System → List Stmt → CheckMet
check_met_through zero system code w = []
check_met_through (suc n) system code w = check_met_by system (check_through n system) (check_met_through n system) code w

abbrev pub check_met : System → List Stmt → CheckMet
check_met system = check_met_by system (check_through longest_chain system) (check_met_through longest_chain system)

-- the operations met where a step of main is checked
unfoldable pub step_met : System → Interp → State → State → List Value → List Wide
step_met system i old new choices = check_met system (main_next system) (watched_first i old new choices)
