-- The operations on whole numbers that are met where sequential code runs.
use Rattle.std.specs.Prelude.{ℕ, zero, suc, ◌+◌, false, List, [], ◌∷◌, ◌++◌, map, length, Option, Some, None, if◌then◌else◌}
use Rattle.std.specs.List.{flat_map}
use Rattle.uc_lexer.specs.declared.place.Place.{Place}
use Rattle.uc_syntax.specs.declared.expression.Expr.{Expr}
use Rattle.uc_syntax.specs.declared.statement.Target.{Target}
use Rattle.uc_syntax.specs.declared.statement.TargetPart.{TargetPart}
use Rattle.uc_syntax.specs.declared.statement.TargetPart.TheVariants.{Field, Element}
use Rattle.uc_syntax.specs.declared.statement.Arm.{Arm}
use Rattle.uc_syntax.specs.declared.statement.Stmt.{Stmt}
use Rattle.uc_syntax.specs.declared.statement.Stmt.TheOpen.{Stmt-F}
use Rattle.uc_syntax.specs.declared.statement.Stmt.TheOpen.Stmt-F.{Block, Assert, Assume, Assign, If, Case, For, Call}
use Rattle.uc_syntax.specs.declared.statement.Stmt.TheFolds.{fold-Stmt, map-Stmt}
use Rattle.uc_syntax.specs.declared.declaration.Procedure.{Procedure}
use Rattle.uc_syntax.specs.declared.declaration.Module.{Module}
use Rattle.uc_values.specs.declared.ty.Ty.{Ty}
use Rattle.uc_values.specs.declared.value.Value.{Value}
use Rattle.uc_meaning.specs.declared.scope.Scope.{Scope}
use Rattle.uc_meaning.specs.declared.overflow.Wide.{Wide}
use Rattle.uc_meaning.specs.Lookup.{System, module_at, procedure_of}
use Rattle.uc_meaning.specs.Cells.{longest_chain}
use Rattle.uc_meaning.specs.Expressions.{value, is_true, bind}
use Rattle.uc_meaning.specs.Overflow.{met, name_met}
use Rattle.uc_meaning.specs.Code.{Running, Ending, Goes, Execution, Bodies, run_each, run_form, run_through, bodies, in_scope, keep_locals, push_local, taken, turn_type, turns, declare, names_with_types, requires_of, judge_requires, results, write, write_all}

-- The operations met where code runs from where it is.
abbrev pub RunMet : Type 0
RunMet = Running → List Wide

-- A statement, with what is met where it runs.
pub record TracedRun : Type 0 where
  pub run : Execution
  pub met : RunMet

abbrev pub runs : List TracedRun → List Execution
runs xs = map (λ x. x.run) xs

-- what is met after code: nothing where it did not go on
abbrev pub met_after : Ending → RunMet → List Wide
met_after (Goes r) next = next r
met_after other next = []

-- statements one after another
unfoldable pub met_each : List TracedRun → RunMet
met_each [] r = []
met_each (x ∷ xs) r = x.met r ++ met_after (x.run r) (met_each xs)

-- several expressions in one scope, from the left
abbrev pub all_met_in : System → Scope → List Expr → List Wide
all_met_in system s es = flat_map (met system s) es

abbrev pub part_met : System → Scope → TargetPart → List Wide
part_met system s (Field place f) = []
part_met system s (Element place e) = met system s e

-- a target with parts: the present value of its name, and then its indices; a name alone is written without being read
abbrev pub target_met : System → Scope → ℕ → List TargetPart → List Wide
target_met system s x [] = []
target_met system s x (p ∷ ps) = name_met system (met system) s x false ++ flat_map (part_met system s) (p ∷ ps)

-- targets are written from left to right, each in the scope that those before it leave
unfoldable pub targets_met : System → List Target → List Value → Scope → List Wide
targets_met system (t ∷ ts) (v ∷ vs) s = target_met system s t.name t.parts ++ targets_met system ts vs (write system s t v)
targets_met system ts vs s = []

-- the conditions up to the first that is true
unfoldable pub conditions_met : {A : Type 0} → System → Scope → List (Arm A) → List Wide
conditions_met system s [] = []
conditions_met system s (arm ∷ arms) = met system s arm.condition ++ (if is_true system s arm.condition then [] else conditions_met system s arms)

-- the conditions, and then the block that is taken
abbrev pub choice_met : System → List (Arm TracedRun) → Option (List TracedRun) → RunMet
choice_met system arms otherwise r = conditions_met system r.scope arms ++ met_each (taken system r.scope arms otherwise) r

-- the turns of a loop
unfoldable pub turns_met : ℕ → Ty → List TracedRun → List Value → RunMet
turns_met x t block [] r = []
turns_met x t block (v ∷ vs) r =
    met_each block (push_local x t v r)
    ++ met_after (run_each (runs block) (push_local x t v r))
    (λ r'. turns_met x t block vs (in_scope r' (keep_locals (length r.scope.locals) r'.scope)))

-- What is met in the bodies of procedures.
abbrev pub MetBodies : Type 0
MetBodies = List Stmt → RunMet

-- a call: the arguments, each `requires`, the body, and the targets that the results are handed to
abbrev pub call_met_in : System → Bodies → MetBodies → Place → List Target → List Expr → Module → Option Procedure → RunMet
call_met_in system bodies others place targets arguments m None r = []
call_met_in system bodies others place targets arguments m (Some p) r =
    let locals = bind system m p.parameters (map (value system r.scope) arguments) [] in
    let entry = in_scope r (record r.scope { locals = locals }) in
    all_met_in system r.scope arguments
    ++ (all_met_in system entry.scope (requires_of p)
    ++ met_after (declare system m (names_with_types p.results) (judge_requires system place 1 (requires_of p) entry))
    (λ r'. others p.body r'
    ++ met_after (bodies p.body r')
    (λ r''. targets_met system targets (results system r''.scope p.results) (record r.scope { before = r''.scope.before }))))

abbrev pub call_met_at : System → Bodies → MetBodies → Place → List Target → ℕ → List Expr → Option Module → RunMet
call_met_at system bodies others place targets f arguments None r = []
call_met_at system bodies others place targets f arguments (Some m) r = call_met_in system bodies others place targets arguments m (procedure_of m f) r

unfoldable pub call_met : System → Bodies → MetBodies → Place → List Target → ℕ → List Expr → RunMet
call_met system bodies others place targets f arguments r = call_met_at system bodies others place targets f arguments (module_at system r.scope.path) r

-- a statement, by what is met in the statements inside it: all sources of an assignment come before its targets
abbrev pub met_form : System → Bodies → MetBodies → Stmt-F TracedRun → RunMet
met_form system bodies others (Block place block) r = met_each block r
met_form system bodies others (Assert place label e) r = met system r.scope e
met_form system bodies others (Assume place e) r = met system r.scope e
met_form system bodies others (Assign place targets sources) r =
    all_met_in system r.scope sources ++ targets_met system targets (map (value system r.scope) sources) r.scope
met_form system bodies others (If place arms otherwise) r = choice_met system arms otherwise r
met_form system bodies others (Case place arms otherwise) r = choice_met system arms otherwise r
met_form system bodies others (For place x type from to block) r = turns_met x.name (turn_type from) block (turns from to) r
met_form system bodies others (Call place targets f arguments) r = call_met system bodies others place targets f.name arguments r
met_form system bodies others other r = []

abbrev pub traced_form : System → Bodies → MetBodies → Stmt-F TracedRun → TracedRun
traced_form system bodies others layer = record {
  run = run_form system bodies (map-Stmt TracedRun Execution (λ t. t.run) layer);
  met = met_form system bodies others layer;
}

unfoldable pub traced_statement : System → Bodies → MetBodies → Stmt → TracedRun
traced_statement system bodies others = fold-Stmt TracedRun (traced_form system bodies others)

unfoldable pub run_met_by : System → Bodies → MetBodies → List Stmt → RunMet
run_met_by system bodies others code = met_each (map (traced_statement system bodies others) code)

-- the same, with at most n calls inside each other
unfoldable pub run_met_through : ℕ → System → List Stmt → RunMet
run_met_through zero system code r = []
run_met_through (suc n) system code r = run_met_by system (run_through n system) (run_met_through n system) code r

-- the operations met where code runs
abbrev pub run_met : System → List Stmt → RunMet
run_met system = run_met_by system (bodies system) (run_met_through longest_chain system)
