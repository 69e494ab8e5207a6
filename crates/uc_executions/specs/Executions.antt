-- The entry of a procedure, how its body ends, and what is met there.
use Rattle.std.specs.Prelude.{false, List, [], Option, Some, None}
use Rattle.uc_syntax.specs.declared.expression.Expr.{Expr}
use Rattle.uc_syntax.specs.declared.declaration.Procedure.{Procedure}
use Rattle.uc_syntax.specs.declared.declaration.Module.{Module}
use Rattle.uc_values.specs.declared.value.Value.{Value}
use Rattle.uc_meaning.specs.declared.scope.Scope.{Scope}
use Rattle.uc_meaning.specs.declared.scope.State.{State}
use Rattle.uc_meaning.specs.declared.scope.Interp.{Interp}
use Rattle.uc_meaning.specs.declared.overflow.Wide.{Wide}
use Rattle.uc_meaning.specs.Lookup.{System}
use Rattle.uc_meaning.specs.Expressions.{bind}
use Rattle.uc_meaning.specs.Code.{Ending, then_run, run, declare, names_with_types}
use Rattle.uc_meaning.specs.Steps.{scope_of}
use Rattle.uc_meaning.specs.Ends.{begun}
use Rattle.uc_meaning.specs.OverflowsRuns.{met_after, run_met}
use Rattle.uc_executions.specs.Asked.{Asked}
use Rattle.uc_executions.specs.Judged.{falsity_asked}

-- where a procedure of main begins
abbrev pub entry_at : System → Module → Interp → Procedure → State → List Value → Scope
entry_at system m i p entry arguments = record (scope_of i [] entry) { locals = bind system m p.parameters arguments [] }

-- the results by the next choices, and then the body
abbrev pub body_ending : System → Module → Procedure → Scope → List Value → Ending
body_ending system m p s choices = then_run (declare system m (names_with_types p.results) (begun s choices)) (run system p.body)

abbrev pub body_met : System → Module → Procedure → Scope → List Value → List Wide
body_met system m p s choices = met_after (declare system m (names_with_types p.results) (begun s choices)) (run_met system p.body)

-- whether an `ensures` is there and false at an exit
abbrev pub ensures_asked : System → State → Scope → Option Expr → Asked
ensures_asked system entry exit None = record { holds = false; met = [] }
ensures_asked system entry exit (Some e) = falsity_asked system (record exit { at_entry = Some entry }) e
