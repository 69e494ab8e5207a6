-- Where an execution is and how code ends, by the choices that there are.
use Rattle.std.specs.Prelude.{◌≡◌, true, List, [], map, drop}
use Rattle.std.specs.List.{list_all}
use Rattle.uc_syntax.specs.declared.type_expression.Parameter.{Parameter}
use Rattle.uc_syntax.specs.declared.type_expression.TypeExpr.{TypeExpr}
use Rattle.uc_syntax.specs.declared.expression.Expr.{Expr}
use Rattle.uc_syntax.specs.declared.declaration.Procedure.{Procedure}
use Rattle.uc_syntax.specs.declared.declaration.Module.{Module}
use Rattle.uc_values.specs.declared.value.Value.{Value}
use Rattle.uc_meaning.specs.declared.scope.Scope.{Scope}
use Rattle.uc_meaning.specs.declared.scope.Local.{Local}
use Rattle.uc_meaning.specs.Lookup.{System}
use Rattle.uc_meaning.specs.Expressions.{value, bind}
use Rattle.uc_meaning.specs.Code.{Running, Execution, Ending as HowItEnds, Goes as GoesOn, Stopped as IsStopped, Unfit}
use Rattle.uc_runs.specs.Writes.{has_local}
use Rattle.uc_runs.specs.declared.run.Run.{Run}
use Rattle.uc_runs.specs.declared.run.Ending.{Ending}
use Rattle.uc_runs.specs.declared.run.Ending.TheVariants.{Goes, Stopped, BadChoice}

abbrev pub running : List Value → Run → Running
running choices r = record { scope = r.scope; sites = r.violated; left = drop r.used choices }

abbrev pub ending_of : List Value → Ending → HowItEnds
ending_of choices (Goes r) = GoesOn (running choices r)
ending_of choices Stopped = IsStopped
ending_of choices (BadChoice n) = Unfit (drop n choices)

-- whatever the choices are, the execution comes to another place by this change, which takes none
abbrev pub Comes : Run → (Running → Running) → Run → Type 0
Comes start change r = (choices : List Value) → running choices r ≡ change (running choices start)

-- whatever the choices are, code that takes none ends so
abbrev pub Ends : Run → Execution → Ending → Type 0
Ends start code e = (choices : List Value) → ending_of choices e ≡ code (running choices start)

-- the scope at the begin of a call
abbrev pub entry_of : System → Module → Procedure → List Expr → Scope → Scope
entry_of system m p arguments s = record s { locals = bind system m p.parameters (map (value system s) arguments) [] }

-- a scope with the locals of the caller
abbrev pub with_locals : Scope → List Local → Scope
with_locals s locals = record s { locals = locals }

-- each result of a procedure is a local
abbrev pub AreLocals : List (Parameter TypeExpr) → Scope → Type 0
AreLocals results s = list_all (λ p. has_local s.locals p.identifier.name) results ≡ true

-- where code goes on, each result is a local
abbrev pub LeavesLocals : List (Parameter TypeExpr) → Ending → Type 0
LeavesLocals results (Goes r) = AreLocals results r.scope
LeavesLocals results other = Unit {0}
